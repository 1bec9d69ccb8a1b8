-- `text::scan::number_at`: by the byte at the place.
use mathlib.Core.Path.{sym, ◌∙◌}
use mathlib.Core.Bool.{true, false}
use native.Mathlib.Omega.{arith}
use Rattle.text.proofs.Numbers.{here_digit, here_other, no_digit_below, no_digit_above}
use Rattle.text.proofs.Sets.{number_past, number_byte, zero_at}
use Rattle.text.proofs.scan.number_at.Goals as goal

pub returns-in_err-b : goal.returns-in_err-b
returns-in_err-b c = c.from_residual.ensures ∙ sym (number_past _ _ (omega (arith, c.in_err-b.ensures.lookup)))

pub returns-then-ends_at : goal.returns-then-ends_at
returns-then-ends_at c =
    let at = c.in_ok-b.ensures.lookup.3 in
    sym (zero_at _ _ at.0 (at.1 0) c.in-48.is true (sym c.ends_at.ensures ∙ c.if-ends_at.true))

pub returns-else-ends_at : goal.returns-else-ends_at
returns-else-ends_at c =
    let at = c.in_ok-b.ensures.lookup.3 in
    sym (zero_at _ _ at.0 (at.1 0) c.in-48.is false (sym c.ends_at.ensures ∙ c.if-ends_at.false))

pub returns-in-49-to-57 : goal.returns-in-49-to-57
returns-in-49-to-57 c =
    let at = c.in_ok-b.ensures.lookup.3 in
    c.digits.ensures
    ∙ rw c.from.ensures
    (sym (number_byte _ _ at.0 (at.1 0) ∙ here_digit _ _ _ (omega arith) (λ e. omega arith) (omega arith)))

pub returns-in_default : goal.returns-in_default
returns-in_default c =
    let at = c.in_ok-b.ensures.lookup.3 in
    sym (number_byte _ _ at.0 (at.1 0) ∙ here_other _ _ _ (no_digit_below _ (omega arith)))

pub returns-in_default-2 : goal.returns-in_default-2
returns-in_default-2 c =
    let at = c.in_ok-b.ensures.lookup.3 in
    sym (number_byte _ _ at.0 (at.1 0) ∙ here_other _ _ _ (no_digit_above _ (omega arith)))
