-- `text::scan::set_at`: everyone, or what a number names.
use mathlib.Core.Path.{sym, ◌∙◌, ap}
use native.Mathlib.Omega.{arith}
use Rattle.std.specs.Option.{option_map}
use Rattle.text.proofs.Sets.{everyone_at, only_of, set_number, dash_within}
use Rattle.text.proofs.scan.set_at.Goals as goal

pub overflow_add-result : goal.overflow_add-result
overflow_add-result c = omega (arith, dash_within _ _ (sym c.dash_at.ensures ∙ c.if-dash_at.true))

pub returns-then-dash_at : goal.returns-then-dash_at
returns-then-dash_at c = sym (everyone_at _ _ (sym c.dash_at.ensures ∙ c.if-dash_at.true))

pub returns-in_err-number : goal.returns-in_err-number
returns-in_err-number c =
    c.from_residual.ensures
    ∙ sym (set_number _ _ (sym c.dash_at.ensures ∙ c.if-dash_at.false) ∙ ap (option_map only_of) (sym c.number_at.ensures ∙ c.in_err-number.was))

pub returns : goal.returns
returns c = sym (set_number _ _ (sym c.dash_at.ensures ∙ c.if-dash_at.false) ∙ ap (option_map only_of) (sym c.number_at.ensures ∙ c.in_ok-number.was))
