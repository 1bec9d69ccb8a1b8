-- `read_votes` reads vote after vote, or ends with the first fault.
use mathlib.Core.Path.{◌≡◌}
use Prim.Native.Nat.{◌+◌, ◌*◌}
use lib.ListN.{length}
use Rattle.image.specs.Reader.{field}
use Rattle.image.proofs.Reading.{PlacesSoFar}
use Rattle.image.proofs.reader.read_votes.Given as goal

abbrev pub invariant-loop-vote : goal.invariant-loop-vote
invariant-loop-vote l = PlacesSoFar (field l.bytes 4) 0 (length l.initial.votes) l.at l.votes l.next l.vote-index × (l.next ≡ l.at + 4 * l.vote-index)
