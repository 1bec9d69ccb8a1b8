-- `text::grammar::voting`: the words ahead, with the votes so far, give what all the words give.
use mathlib.Core.Path.{◌≡◌, refl, sym, ◌∙◌, ap}
use native.Mathlib.Omega.{arith}
use lib.ListN.{length, set, length-set}
use lib.Seq.{set_out}
use Rattle.text.specs.Line.{padded}
use Rattle.text.proofs.Arguments.{number_step, number-stops}
use Rattle.text.proofs.Votes.{votes_begin, votes-go, votes_stop, votes-end}
use Rattle.text.proofs.grammar.voting.Goals as goal
use Rattle.text.proofs.grammar.voting.Goals.{then-count-lt-VOTES, else-count-lt-VOTES}

pub loop-next-init : goal.loop-next-init
unfolding padded
loop-next-init c = (omega arith, refl, votes_begin _ _ _)

pub returns-in_err-vote : goal.returns-in_err-vote
returns-in_err-vote c =
    c.from_residual.ensures
    ∙ (sym (votes_stop _ _ _ _ _ _ c.loop-next-test.true (number-stops _ _ c.number_at.ensures c.in_err-vote.was))
    ∙ c.loop-next.invariant.2)

pub overflow_add-next : goal.overflow_add-next
overflow_add-next c = omega (arith, (number_step _ _ c.number_at.ensures c.in_ok-vote.was).within)

pub loop-next-smaller : goal.loop-next-smaller
loop-next-smaller c = omega (arith, (number_step _ _ c.number_at.ensures c.in_ok-vote.was).beyond)

pub loop-next-preserved : goal.loop-next-preserved
loop-next-preserved c =
    -- the vote is at its place, or there is no such place
    let stored : c.if-count-lt-VOTES.votes ≡ set c.loop-next.votes c.loop-next.count c.in_ok-vote.vote.it =
    elim c.if-count-lt-VOTES.branch [
      | then-count-lt-VOTES w ↦ w.votes-is
      | else-count-lt-VOTES w ↦ w.votes-is ∙ sym (set_out _ _ _ (rw c.loop-next.invariant.1 w.if-count-lt-VOTES.false))
    ] in
    let s = number_step _ _ c.number_at.ensures c.in_ok-vote.was in (
      omega arith,
      ap length stored ∙ (simp length-set c.loop-next.invariant.1),
      rw stored (sym (votes-go _ _ _ _ _ _ c.loop-next-test.true s) ∙ c.loop-next.invariant.2),
    )

pub returns : goal.returns
returns c = sym (votes-end _ _ _ _ _ _ c.loop-next-test.false) ∙ c.loop-next.invariant.2
