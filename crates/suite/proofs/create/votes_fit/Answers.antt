-- `votes_fit` goes over the votes.
use Rattle.std.proofs.Common.{◌∙◌, rules, tests}
use Rattle.std.proofs.lemmas.Iterator.{YieldsList-from_slice}
use Rattle.std.proofs.lemmas.Iterator.Search.{all_from_yields_List}
use Rattle.suite.specs.Suite.{small_vote}
use Rattle.suite.proofs.Sets.{all_list}
use Rattle.suite.proofs.create.votes_fit.Goals as goal

pub returns : goal.returns
returns c =
    let l = c.args.votes.now in
    all_from_yields_List small_vote _ _ _ c.all.ensures.ran (YieldsList-from_slice l cc) (λ x b q k. search (rules, tests))
    ∙ all_list small_vote l
