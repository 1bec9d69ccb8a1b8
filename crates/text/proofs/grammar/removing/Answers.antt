-- `text::grammar::removing`: two sets, a name, and nothing more.
use mathlib.Core.Path.{sym, ◌∙◌, ap}
use native.Mathlib.Omega.{arith}
use Rattle.std.specs.Option.{option_map}
use Rattle.text.specs.Line.{removing}
use Rattle.text.proofs.Arguments.{set-step, set-goes, set-stops, last_made}
use Rattle.text.proofs.grammar.removing.Goals as goal

pub returns-in_err-read : goal.returns-in_err-read
unfolding removing
returns-in_err-read c = c.from_residual.ensures ∙ sym (set-stops _ _ c.set_at.ensures c.in_err-read.was _)

pub overflow_add-read : goal.overflow_add-read
overflow_add-read c = omega (arith, (set-step _ _ c.set_at.ensures c.in_ok-read.was).within)

pub returns-in_err-write : goal.returns-in_err-write
unfolding removing
returns-in_err-write c =
    c.from_residual-in_err-write.ensures
    ∙ sym
    (set-goes _ _ c.set_at.ensures c.in_ok-read.was _
    ∙ set-stops _ _ c.set_at-2.ensures c.in_err-write.was _)

pub overflow_add-write : goal.overflow_add-write
overflow_add-write c = omega (arith, (set-step _ _ c.set_at-2.ensures c.in_ok-write.was).within)

pub returns-in_err-name : goal.returns-in_err-name
unfolding removing
returns-in_err-name c =
    c.from_residual-in_err-name.ensures
    ∙ sym
    (set-goes _ _ c.set_at.ensures c.in_ok-read.was _
    ∙ (set-goes _ _ c.set_at-2.ensures c.in_ok-write.was _
    ∙ (last_made _ _ ∙ ap (option_map _) (sym c.last_number_at.ensures ∙ c.in_err-name.was))))

pub returns : goal.returns
unfolding removing
returns c =
    sym
    (set-goes _ _ c.set_at.ensures c.in_ok-read.was _
    ∙ (set-goes _ _ c.set_at-2.ensures c.in_ok-write.was _
    ∙ (last_made _ _ ∙ ap (option_map _) (sym c.last_number_at.ensures ∙ c.in_ok-name.was))))
