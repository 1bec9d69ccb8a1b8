-- `put_members` puts the members, one after another.
use Prim.Native.Nat.{◌+◌, ◌*◌, ◌≤◌}
use Rattle.image.specs.Layout.{member_pieces}
use Rattle.image.proofs.Putting.{PutUpTo}
use Rattle.image.proofs.writer.put_members.Given as goal

abbrev pub invariant-loop-member : goal.invariant-loop-member
invariant-loop-member l = PutUpTo (member_pieces 20) l.members l.initial.out l.at l.out l.next l.member-index × (l.next ≤ l.at + 2718 * l.member-index)
