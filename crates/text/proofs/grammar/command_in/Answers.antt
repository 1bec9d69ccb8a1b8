-- `text::grammar::command_in`: the words of the commands are tried one after another.
use mathlib.Core.Path.{sym, ◌∙◌, ap}
use Rattle.std.specs.Option.{option_map}
use Rattle.text.specs.Words.{ascii}
use Rattle.text.proofs.Arguments.{reading_made}
use Rattle.text.proofs.Commands.{is-look, is-near, is-change}
use Rattle.text.proofs.Same.{compared}
use Rattle.text.proofs.grammar.command_in.Goals as goal

pub returns-in_err-read : goal.returns-in_err-read
unfolding ascii
returns-in_err-read c =
    c.from_residual.ensures
    ∙ sym
    (is-look _ _ (compared _ _ c.eq.ensures c.as_slice.ensures c.if-eq.true)
    ∙ (reading_made _ _ ∙ ap (option_map _) (sym c.reading.ensures ∙ c.in_err-read.was)))

pub returns-then-eq : goal.returns-then-eq
unfolding ascii
returns-then-eq c =
    sym
    (is-look _ _ (compared _ _ c.eq.ensures c.as_slice.ensures c.if-eq.true)
    ∙ (reading_made _ _ ∙ ap (option_map _) (sym c.reading.ensures ∙ c.in_ok-read.was)))

pub returns-in_err-read-2 : goal.returns-in_err-read-2
unfolding ascii
returns-in_err-read-2 c =
    c.from_residual-in_err-read-2.ensures
    ∙ sym
    (is-near _ _ (compared _ _ c.eq.ensures c.as_slice.ensures c.if-eq.false)
    (compared _ _ c.eq-2.ensures c.as_slice-2.ensures c.if-eq-2.true)
    ∙ (reading_made _ _ ∙ ap (option_map _) (sym c.reading-then-eq-2.ensures ∙ c.in_err-read-2.was)))

pub returns-then-eq-2 : goal.returns-then-eq-2
unfolding ascii
returns-then-eq-2 c =
    sym
    (is-near _ _ (compared _ _ c.eq.ensures c.as_slice.ensures c.if-eq.false)
    (compared _ _ c.eq-2.ensures c.as_slice-2.ensures c.if-eq-2.true)
    ∙ (reading_made _ _ ∙ ap (option_map _) (sym c.reading-then-eq-2.ensures ∙ c.in_ok-read-2.was)))

pub returns : goal.returns
unfolding ascii
returns c = c.change_in.ensures ∙ sym (is-change _ _ (compared _ _ c.eq.ensures c.as_slice.ensures c.if-eq.false)
    (compared _ _ c.eq-2.ensures c.as_slice-2.ensures c.if-eq-2.false))
