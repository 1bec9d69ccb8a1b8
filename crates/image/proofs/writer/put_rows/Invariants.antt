-- `put_rows` puts the entries of a member, one after another.
use mathlib.Core.Path.{◌≡◌}
use Prim.Native.Nat.{◌+◌, ◌*◌}
use Rattle.member.specs.Tile.{entries}
use Rattle.image.specs.Layout.{row_pieces}
use Rattle.image.proofs.Putting.{PutUpTo}
use Rattle.image.proofs.writer.put_rows.Given as goal

abbrev pub invariant-loop-i : goal.invariant-loop-i
invariant-loop-i l = PutUpTo (row_pieces 20) (entries l.member) l.initial.out l.at l.out l.next l.i × (l.next ≡ l.at + 84 * l.i)
