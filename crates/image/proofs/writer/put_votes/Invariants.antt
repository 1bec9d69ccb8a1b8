-- `put_votes` puts the votes, one after another.
use mathlib.Core.Path.{◌≡◌}
use Prim.Native.Nat.{◌+◌, ◌*◌}
use Rattle.image.specs.Layout.{vote_pieces}
use Rattle.image.proofs.Putting.{PutUpTo}
use Rattle.image.proofs.writer.put_votes.Given as goal

abbrev pub invariant-loop-vote : goal.invariant-loop-vote
invariant-loop-vote l = PutUpTo vote_pieces l.votes l.initial.out l.at l.out l.next l.vote-index × (l.next ≡ l.at + 4 * l.vote-index)
