-- `text::write::two`: a word and a number in front of a space and a number.
use mathlib.Core.List.{append_assoc}
use Rattle.text.specs.Words.{ascii}
use Rattle.text.proofs.Writing.{written_then}
use Rattle.text.proofs.write.two.Goals as goal

pub returns : goal.returns
unfolding ascii
returns c =
    rw append_assoc at
    (written_then (written_then c.number-last.ensures c.prepend-space.ensures) c.one.ensures)
