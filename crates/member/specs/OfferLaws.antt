-- What a sound member offers in round two: bounds in range, below x and above it, and always the end of its own gap.
use Rattle.std.specs.Prelude.{Option, Some, None}
use Rattle.std.specs.Prelude.{◌≡◌, refl, true, ℕ, suc, ◌+◌, ◌≤◌, ◌<◌}
use Rattle.std.proofs.Common.{sym, ◌∙◌, arith}
use Rattle.member.specs.Limits.{largest_name, high}
use Rattle.member.specs.Rounds.{below_of, above_of, offer_below_of, offer_above_of}
use Rattle.member.specs.Sound.{sound_member}
use Rattle.member.specs.Places.{place, at_place, bound_reading, BareEnd, AnswersBelow, AnswersAbove}
use Rattle.member.specs.ReadingLaws.{at_low, at_high}
use Rattle.member.specs.SoundLaws.{BoundRange, shown-bound}
use Rattle.member.specs.RoundOneLaws.{lower_end, upper-end}
use Rattle.member.specs.RoundTwoBelow.{answers-below}
use Rattle.member.specs.RoundTwoAbove.{answers-above}
use Rattle.member.specs.declared.Bound.{Bound}
use Rattle.member.specs.declared.Member.{Member}

-- an end from a up to but not c, with version and value in range; LOW and HIGH have version 0 and value 0
pub record Within (a c : ℕ) (b : Bound) : Type 0 where
  pub from : a ≤ b.end
  pub to : b.end < c
  pub range : BoundRange b
  pub plain : BareEnd b

abbrev pub OfferWithin : ℕ → ℕ → Option Bound → Type 0
OfferWithin a c (Some b) = Within a c b
OfferWithin a c None = Unit {0}

abbrev pub IsOffer : Option Bound → Type 0
IsOffer (Some b) = Unit {0}
IsOffer None = ⊥

shown_within : (m : Member) (a c : ℕ) (b : Bound) → sound_member m ≡ true → a ≤ b.end → b.end < c → b.end ≤ high
    → at_place m (place b.end) ≡ bound_reading b → Within a c b
shown_within m a c b h i j k s =
    record {
      from = i;
      to = j;
      range = shown-bound m b h k s;
      plain = record {
        low = λ e. sym s ∙ rw e (at_low m);
        top = λ e. sym s ∙ at_high m (place b.end) (omega arith);
      };
    }

module _ (m : Member) (x : ℕ) (h : sound_member m ≡ true) (i : x ≤ largest_name) where
  pub offer-below : (k v : ℕ) → OfferWithin 0 (x + 1) (offer_below_of m x k v)
  offer-below k v = go (offer_below_of m x k v) (answers-below m x h i k v)
    where
      go : (o : Option Bound) → AnswersBelow (at_place m) k v (place (suc x)) o → OfferWithin 0 (x + 1) o
      go (Some b) a = shown_within m 0 (x + 1) b h (omega arith) (omega (arith, a.0.under)) (omega (arith, a.0.under)) a.1
      go None a = tt

  pub offer-above : (k v : ℕ) → k ≤ high → OfferWithin (x + 2) (high + 1) (offer_above_of m x k v)
  offer-above k v j = go (offer_above_of m x k v) (answers-above m x h i k v j)
    where
      go : (o : Option Bound) → AnswersAbove (at_place m) k v (place (suc x)) o → OfferWithin (x + 2) (high + 1) o
      go (Some b) a =
          shown_within m (x + 2) (high + 1) b h (omega (arith, a.0.over)) (omega (arith, a.0.reach)) (omega (arith, a.0.reach)) a.1
      go None a = tt

  pub below_end : (below_of m x).end ≤ high
  below_end = omega (arith, (lower_end m x h i).under)

  pub own_below : (v : ℕ) → IsOffer (offer_below_of m x (below_of m x).end v)
  own_below v = go (offer_below_of m x k v) (answers-below m x h i k v)
    where
      k : ℕ
      k = (below_of m x).end

      go : (o : Option Bound) → AnswersBelow (at_place m) k v (place (suc x)) o → IsOffer o
      go (Some b) a = tt
      go None a = let e = lower_end m x h i in (a (place k) (omega arith) e.under e.entry).0 refl

  pub above-end : (above_of m x).end ≤ high
  above-end = omega (arith, (upper-end m x h i).fits)

  pub own-above : (v : ℕ) → IsOffer (offer_above_of m x (above_of m x).end v)
  own-above v = go (offer_above_of m x k v) (answers-above m x h i k v above-end)
    where
      k : ℕ
      k = (above_of m x).end

      go : (o : Option Bound) → AnswersAbove (at_place m) k v (place (suc x)) o → IsOffer o
      go (Some b) a = tt
      go None a = let e = upper-end m x h i in (a (place k) (omega arith) e.over e.entry).0 refl
