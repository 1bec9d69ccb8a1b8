-- `offer_below_at` goes down from the place of the name. The invariant: the answer is what the entries below place i offer.
use mathlib.Core.Path.{◌≡◌}
use Prim.Native.Nat.{◌≤◌}
use lib.ListN.{length, take}
use Rattle.member.specs.Tile.{entries}
use Rattle.member.specs.Rounds.{bare_offer, last_offer, offer_below_of}
use Rattle.member.proofs.Member.offer_below_at.Given as goal

abbrev pub invariant-loop-i : goal.invariant-loop-i
invariant-loop-i l = (length (entries l.self) ≤ 32) × (l.i ≤ length (entries l.self)) × (offer_below_of l.self l.name l.k l.v ≡ last_offer l.k l.v (bare_offer 0 l.k) (take l.i (entries l.self)))
