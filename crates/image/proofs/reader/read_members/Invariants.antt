-- `read_members` reads member after member into the members, or ends with the first fault.
use Prim.Native.Nat.{◌+◌, ◌*◌, ◌≤◌}
use lib.ListN.{length}
use Rattle.member.specs.Tile.{fresh_tile}
use Rattle.image.specs.Reader.{read_member}
use Rattle.image.proofs.Reading.{PlacesSoFar}
use Rattle.image.proofs.reader.read_members.Given as goal

abbrev pub invariant-loop-member : goal.invariant-loop-member
invariant-loop-member l = PlacesSoFar (read_member l.bytes 20) fresh_tile (length l.initial.members) l.at l.members l.next l.member-index × (l.next ≤ l.at + 2718 * l.member-index)
