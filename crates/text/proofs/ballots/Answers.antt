-- `text::ballots`: the arguments of `suite`, where that is the line's word.
use mathlib.Core.Path.{sym, ◌∙◌}
use Rattle.text.specs.Words.{ascii}
use Rattle.text.proofs.Commands.{suite-word, other_word}
use Rattle.text.proofs.Same.{compared}
use Rattle.text.proofs.ballots.Goals as goal

pub returns-then-eq : goal.returns-then-eq
unfolding ascii
returns-then-eq c =
    c.creating.ensures
    ∙ sym (c.in_ok-end.ensures.ballots ∙ suite-word _ _ (compared _ _ c.eq.ensures c.as_slice.ensures c.if-eq.true))

pub returns-else-eq : goal.returns-else-eq
unfolding ascii
returns-else-eq c =
    sym (c.in_ok-end.ensures.ballots ∙ other_word _ _ (compared _ _ c.eq.ensures c.as_slice.ensures c.if-eq.false))
