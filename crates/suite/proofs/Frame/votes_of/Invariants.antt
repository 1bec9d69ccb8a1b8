-- `votes_of` adds the votes named. The invariant: with those of what is left of the set, the sum is that of the whole set.
use Rattle.std.proofs.Common.{◌≡◌, ◌≤◌, ◌+◌, ◌*◌, ◌^◌, drop}
use Rattle.suite.specs.Sets.{votes_of}
use Rattle.suite.proofs.Frame.votes_of.Given as goal

abbrev pub invariant-loop-vote : goal.invariant-loop-vote
invariant-loop-vote l =
    (l.sum ≤ l.vote-index * 2 ^ 32) × (votes_of l.vote-items l.set ≡ l.sum + votes_of (drop l.vote-index l.vote-items) l.left)
