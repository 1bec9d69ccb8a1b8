-- `put_row` puts an entry as two words.
use Rattle.image.proofs.Words.{row_put}
use Rattle.image.proofs.writer.put_row.Goals as goal

pub returns : goal.returns
returns c =
    let a = c.args in
    row_put a.out.now c.append.new.bytes c.append_after.new.bytes a.at a.row c.requires.1 (rw (c.from.ensures, c.from-version.ensures) at c.append.ensures) (rw (c.from-version.ensures, c.from-value.ensures, c.from-gap.ensures) at c.append_after.ensures)
