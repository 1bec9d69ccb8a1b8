-- `text::write::near`: two ends and a number, with spaces between them.
use Rattle.text.specs.Words.{ascii}
use Rattle.text.proofs.Writing.{written_then}
use Rattle.text.proofs.write.near.Goals as goal

pub returns : goal.returns
unfolding ascii
returns c =
    written_then
    (written_then
    (written_then (written_then c.number-last.ensures c.prepend-second.ensures) c.end-high.ensures)
    c.prepend-first.ensures)
    c.end.ensures
