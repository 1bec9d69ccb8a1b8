-- `votes_of` adds the votes named. The invariant: with those of what is left of the set, the sum is that of the whole set.
use Rattle.std.proofs.Common.{◌≡◌, ap, ◌∙◌, take, arith}
use Rattle.suite.specs.Sets.{votes_of}
use Rattle.suite.proofs.Asking.{counted}
use Rattle.suite.proofs.Sets.{votes_named, votes_passed, votes_past}
use Rattle.suite.proofs.Frame.votes_of.Goals as goal
use Rattle.suite.proofs.Frame.votes_of.Goals.{then-left-eq1, else-left-eq1}

pub loop-vote-preserved : goal.loop-vote-preserved
loop-vote-preserved c =
    let l = take c.size-n.result c.args.self.votes in
    let k = c.loop-vote in
    let i = k.vote-index in
    elim c.if-left-eq1.branch [
      | then-left-eq1 w ↦ let e = votes_named l i k.left c.loop-vote-test.true w.if-left-eq1.true in (omega (arith, w.from-sum.ensures, w.from-sum.type_inv, w.sum-is), omega (arith, e, w.from-sum.ensures, w.sum-is))
      | else-left-eq1 w ↦ let e = votes_passed l i k.left c.loop-vote-test.true w.if-left-eq1.false in (omega (arith, w.sum-is), omega (arith, e, w.sum-is))
    ]

pub returns : goal.returns
returns c =
    let f = c.args.self in
    let n = c.size-n in
    let l = take n.result f.votes in
    let k = c.loop-vote in
    let e = votes_past l k.vote-index k.left (omega (arith, c.loop-vote-test.false)) in
    let q : k.sum ≡ votes_of l c.args.set = omega (arith, e) in
    q ∙ ap (λ t. votes_of t c.args.set) (counted f.count n.result f.votes n.ensures.0)
