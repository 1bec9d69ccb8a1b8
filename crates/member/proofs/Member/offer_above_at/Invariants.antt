-- `offer_above_at` goes up from the place next above the name. The invariant: the answer is what the entries from this one on offer.
use mathlib.Core.Path.{◌≡◌}
use lib.ListN.{drop}
use Rattle.member.specs.Limits.{high}
use Rattle.member.specs.Rounds.{bare_offer, first_offer, offer_above_of}
use Rattle.member.proofs.Member.offer_above_at.Given as goal

abbrev pub invariant-loop-row : goal.invariant-loop-row
invariant-loop-row l = offer_above_of l.self l.name l.k l.v ≡ first_offer l.k l.v (bare_offer high l.k) (drop l.row-index l.row-items)
