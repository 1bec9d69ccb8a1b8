-- `votes_are_sound` tests the votes that are counted, then the unused ones.
use Rattle.std.proofs.Common.{◌≡◌, ◌&&◌, ◌-◌, ap, sym, ◌∙◌, length, take, drop, rules, arith, length-drop, tests}
use Rattle.std.proofs.lemmas.Iterator.{YieldsList-from_slice}
use Rattle.std.proofs.lemmas.Iterator.Search.{all_from_yields_List}
use Rattle.suite.specs.Sets.{all}
use Rattle.suite.specs.Suite.{ballots_in, small_vote, no_vote}
use lib.Seq.{take_all}
use Rattle.suite.proofs.Asking.{counted, uncounted}
use Rattle.suite.proofs.Sets.{all_list}
use Rattle.suite.proofs.Frame.votes_are_sound.Goals as goal
use Rattle.suite.proofs.Frame.votes_are_sound.Goals.{After-all}

first : (c : After-all) → c.all.result ≡ all small_vote (ballots_in c.args.self)
first c =
    let f = c.args.self in
    let n = c.size-n in
    let l = take n.result f.votes in
    all_from_yields_List small_vote _ _ _ c.all.ensures.ran (YieldsList-from_slice l cc) (λ x b q k. search (rules, tests))
    ∙ all_list small_vote l
    ∙ ap (all small_vote) (counted f.count n.result f.votes n.ensures.0)

pub returns-then-all : goal.returns-then-all
returns-then-all c =
    let f = c.args.self in
    let n = c.size-n in
    let l = take (length f.votes - n.result) (drop n.result f.votes) in
    let rest : l ≡ drop n.result f.votes = take_all (length f.votes - n.result) (drop n.result f.votes) (omega (arith, length-drop n.result f.votes)) in
    all_from_yields_List no_vote _ _ _ c.all-then-all.ensures.ran (YieldsList-from_slice l cc) (λ x b q k. search (rules, tests))
    ∙ all_list no_vote l
    ∙ ap (all no_vote) (rest ∙ uncounted f.count n.result f.votes n.ensures.0)
    ∙ ap (λ b. b && all no_vote (drop f.count f.votes)) (sym c.if-all.true ∙ first (goal.at.returns-then-all c).After-all)

pub returns-else-all : goal.returns-else-all
returns-else-all c =
    let f = c.args.self in
    let e = first (goal.at.returns-else-all c).After-all in
    c.if-all.false ∙ ap (λ b. b && all no_vote (drop f.count f.votes)) (sym c.if-all.false ∙ e)
