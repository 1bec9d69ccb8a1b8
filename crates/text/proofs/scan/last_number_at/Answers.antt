-- `text::scan::last_number_at`: a number, and nothing more.
use mathlib.Core.Path.{sym, ◌∙◌}
use Rattle.text.proofs.Arguments.{number-goes, number-stops, ends-here, goes_on}
use Rattle.text.proofs.scan.last_number_at.Goals as goal

pub returns-in_err-number : goal.returns-in_err-number
returns-in_err-number c = c.from_residual.ensures ∙ sym (number-stops _ _ c.number_at.ensures c.in_err-number.was _)

pub returns-then-number-line : goal.returns-then-number-line
returns-then-number-line c =
    sym (number-goes _ _ c.number_at.ensures c.in_ok-number.was _ ∙ goes_on _ _ c.if-number-line.true _)

pub returns : goal.returns
returns c = sym (number-goes _ _ c.number_at.ensures c.in_ok-number.was _ ∙ ends-here _ _ c.if-number-line.false _)
