-- `quorum_holds` tests 1 ≤ R ≤ V, 1 ≤ W ≤ V, R + W > V in this order.
use Rattle.std.proofs.Common.{◌≡◌, ◌∙◌, arith}
use Rattle.std.proofs.lemmas.Bool.Decides.{nat_tests}
use Rattle.suite.specs.Sets.{total}
use Rattle.suite.specs.Suite.{ballots_in}
use Rattle.suite.proofs.Verdicts.{total-everyone}
use Rattle.suite.proofs.Frame.quorum_holds.Goals as goal
use Rattle.suite.proofs.Frame.quorum_holds.Goals.{After-votes_of-all}

-- the sum over everyone is V
all-votes : (c : After-votes_of-all) → c.votes_of-all.result ≡ total (ballots_in c.args.self)
all-votes c =
    let s = c.args.self in
    c.votes_of-all.ensures ∙ total-everyone s c.everyone.result c.everyone.ensures

pub returns-then-w-all : goal.returns-then-w-all
returns-then-w-all c =
    let v = all-votes (goal.at.returns-then-w-all c).After-votes_of-all in grind (arith, nat_tests)

pub returns-else-w-all : goal.returns-else-w-all
returns-else-w-all c =
    let v = all-votes (goal.at.returns-else-w-all c).After-votes_of-all in grind (arith, nat_tests)
