-- `read_rows` puts entry after entry into the member and counts them at the end, or ends with the first fault.
use Rattle.image.proofs.Rows.{RowsSoFar}
use Rattle.image.proofs.entries.read_rows.Given as goal

abbrev pub invariant-loop-i : goal.invariant-loop-i
invariant-loop-i l = RowsSoFar l.bytes l.count l.low l.at l.member l.next l.lowest l.i
