-- `text::grammar::reading`: a set, a name, and nothing more.
use mathlib.Core.Path.{sym, ◌∙◌, ap}
use native.Mathlib.Omega.{arith}
use Rattle.std.specs.Option.{option_map}
use Rattle.text.specs.Line.{reading}
use Rattle.text.proofs.Arguments.{set-step, set-goes, set-stops, last_made}
use Rattle.text.proofs.grammar.reading.Goals as goal

pub returns-in_err-read : goal.returns-in_err-read
unfolding reading
returns-in_err-read c = c.from_residual.ensures ∙ sym (set-stops _ _ c.set_at.ensures c.in_err-read.was _)

pub overflow_add-read : goal.overflow_add-read
overflow_add-read c = omega (arith, (set-step _ _ c.set_at.ensures c.in_ok-read.was).within)

pub returns-in_err-name : goal.returns-in_err-name
unfolding reading
returns-in_err-name c =
    c.from_residual-in_err-name.ensures
    ∙ sym
    (set-goes _ _ c.set_at.ensures c.in_ok-read.was _
    ∙ (last_made _ _ ∙ ap (option_map _) (sym c.last_number_at.ensures ∙ c.in_err-name.was)))

pub returns : goal.returns
unfolding reading
returns c =
    sym
    (set-goes _ _ c.set_at.ensures c.in_ok-read.was _
    ∙ (last_made _ _ ∙ ap (option_map _) (sym c.last_number_at.ensures ∙ c.in_ok-name.was)))
