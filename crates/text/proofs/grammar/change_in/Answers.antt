-- `text::grammar::change_in`: the words of the commands are tried one after another.
use mathlib.Core.Path.{sym, ◌∙◌, ap}
use Rattle.std.specs.Option.{option_map}
use Rattle.text.specs.Words.{ascii}
use Rattle.text.specs.Line.{suite_asked}
use Rattle.text.proofs.Arguments.{changing_made, removing_made}
use Rattle.text.proofs.Commands.{is-insert, is-update, is-remove, is-suite, is-other}
use Rattle.text.proofs.Same.{compared}
use Rattle.text.proofs.grammar.change_in.Goals as goal

pub returns-in_err-read : goal.returns-in_err-read
unfolding ascii
returns-in_err-read c =
    c.from_residual.ensures
    ∙ sym
    (is-insert _ _ (compared _ _ c.eq.ensures c.as_slice.ensures c.if-eq.true)
    ∙ (changing_made _ _ ∙ ap (option_map _) (sym c.changing.ensures ∙ c.in_err-read.was)))

pub returns-then-eq : goal.returns-then-eq
unfolding ascii
returns-then-eq c =
    sym
    (is-insert _ _ (compared _ _ c.eq.ensures c.as_slice.ensures c.if-eq.true)
    ∙ (changing_made _ _ ∙ ap (option_map _) (sym c.changing.ensures ∙ c.in_ok-read.was)))

pub returns-in_err-read-2 : goal.returns-in_err-read-2
unfolding ascii
returns-in_err-read-2 c =
    c.from_residual-in_err-read-2.ensures
    ∙ sym
    (is-update _ _ (compared _ _ c.eq.ensures c.as_slice.ensures c.if-eq.false)
    (compared _ _ c.eq-2.ensures c.as_slice-2.ensures c.if-eq-2.true)
    ∙ (changing_made _ _ ∙ ap (option_map _) (sym c.changing-then-eq-2.ensures ∙ c.in_err-read-2.was)))

pub returns-then-eq-2 : goal.returns-then-eq-2
unfolding ascii
returns-then-eq-2 c =
    sym
    (is-update _ _ (compared _ _ c.eq.ensures c.as_slice.ensures c.if-eq.false)
    (compared _ _ c.eq-2.ensures c.as_slice-2.ensures c.if-eq-2.true)
    ∙ (changing_made _ _ ∙ ap (option_map _) (sym c.changing-then-eq-2.ensures ∙ c.in_ok-read-2.was)))

pub returns-in_err-read-3 : goal.returns-in_err-read-3
unfolding ascii
returns-in_err-read-3 c =
    c.from_residual-in_err-read-3.ensures
    ∙ sym
    (is-remove _ _ (compared _ _ c.eq.ensures c.as_slice.ensures c.if-eq.false)
    (compared _ _ c.eq-2.ensures c.as_slice-2.ensures c.if-eq-2.false)
    (compared _ _ c.eq-3.ensures c.as_slice-3.ensures c.if-eq-3.true)
    ∙ (removing_made _ _ ∙ ap (option_map _) (sym c.removing.ensures ∙ c.in_err-read-3.was)))

pub returns-then-eq-3 : goal.returns-then-eq-3
unfolding ascii
returns-then-eq-3 c =
    sym
    (is-remove _ _ (compared _ _ c.eq.ensures c.as_slice.ensures c.if-eq.false)
    (compared _ _ c.eq-2.ensures c.as_slice-2.ensures c.if-eq-2.false)
    (compared _ _ c.eq-3.ensures c.as_slice-3.ensures c.if-eq-3.true)
    ∙ (removing_made _ _ ∙ ap (option_map _) (sym c.removing.ensures ∙ c.in_ok-read-3.was)))

pub returns-in_err-read-4 : goal.returns-in_err-read-4
unfolding ascii
returns-in_err-read-4 c =
    c.from_residual-in_err-read-4.ensures
    ∙ sym
    (is-suite _ _ (compared _ _ c.eq.ensures c.as_slice.ensures c.if-eq.false)
    (compared _ _ c.eq-2.ensures c.as_slice-2.ensures c.if-eq-2.false)
    (compared _ _ c.eq-3.ensures c.as_slice-3.ensures c.if-eq-3.false)
    (compared _ _ c.eq-4.ensures c.as_slice-4.ensures c.if-eq-4.true)
    ∙ ap (option_map _) (sym c.creating.ensures ∙ c.in_err-read-4.was))

pub returns-then-eq-4 : goal.returns-then-eq-4
unfolding ascii suite_asked
returns-then-eq-4 c =
    sym
    (is-suite _ _ (compared _ _ c.eq.ensures c.as_slice.ensures c.if-eq.false)
    (compared _ _ c.eq-2.ensures c.as_slice-2.ensures c.if-eq-2.false)
    (compared _ _ c.eq-3.ensures c.as_slice-3.ensures c.if-eq-3.false)
    (compared _ _ c.eq-4.ensures c.as_slice-4.ensures c.if-eq-4.true)
    ∙ ap (option_map _) (sym c.creating.ensures ∙ c.in_ok-read-4.was))

pub returns : goal.returns
unfolding ascii
returns c = sym (is-other _ _ (compared _ _ c.eq.ensures c.as_slice.ensures c.if-eq.false)
    (compared _ _ c.eq-2.ensures c.as_slice-2.ensures c.if-eq-2.false)
    (compared _ _ c.eq-3.ensures c.as_slice-3.ensures c.if-eq-3.false)
    (compared _ _ c.eq-4.ensures c.as_slice-4.ensures c.if-eq-4.false))
