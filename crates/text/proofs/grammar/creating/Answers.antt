-- `text::grammar::creating`: two numbers, and the votes.
use mathlib.Core.Path.{sym, ◌∙◌}
use native.Mathlib.Omega.{arith}
use Rattle.text.specs.Line.{creating}
use Rattle.text.proofs.Arguments.{number_step, number-goes, number-stops}
use Rattle.text.proofs.grammar.creating.Goals as goal

pub returns-in_err-read : goal.returns-in_err-read
unfolding creating
returns-in_err-read c = c.from_residual.ensures ∙ sym (number-stops _ _ c.number_at.ensures c.in_err-read.was _)

pub overflow_add-read : goal.overflow_add-read
overflow_add-read c = omega (arith, (number_step _ _ c.number_at.ensures c.in_ok-read.was).within)

pub returns-in_err-write : goal.returns-in_err-write
unfolding creating
returns-in_err-write c =
    c.from_residual-in_err-write.ensures
    ∙ sym
    (number-goes _ _ c.number_at.ensures c.in_ok-read.was _
    ∙ number-stops _ _ c.number_at-2.ensures c.in_err-write.was _)

pub overflow_add-write : goal.overflow_add-write
overflow_add-write c = omega (arith, (number_step _ _ c.number_at-2.ensures c.in_ok-write.was).within)

pub returns : goal.returns
unfolding creating
returns c =
    c.voting.ensures
    ∙ sym
    (number-goes _ _ c.number_at.ensures c.in_ok-read.was _
    ∙ number-goes _ _ c.number_at-2.ensures c.in_ok-write.was _)
