-- `text::write::one`: a word in front of a number.
use Rattle.text.proofs.Writing.{written_then}
use Rattle.text.proofs.write.one.Goals as goal

pub returns : goal.returns
returns c = written_then c.number-from.ensures c.prepend.ensures
