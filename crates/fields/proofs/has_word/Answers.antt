-- `fields::has_word` meets its contract: it asks what `has_word` asks.
-- Assumes nothing.
use borrow.Author.Rules.{rules}
use Rattle.fields.specs.Field.{has_word, widest}
use Rattle.fields.proofs.has_word.Goals as goal

pub returns-then-width-le-WIDEST : goal.returns-then-width-le-WIDEST
unfolding has_word widest
returns-then-width-le-WIDEST c = search rules

pub returns-else-width-le-WIDEST : goal.returns-else-width-le-WIDEST
unfolding has_word widest
returns-else-width-le-WIDEST c = search rules
