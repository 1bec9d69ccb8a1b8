-- Remove keeps the invariant.
use Rattle.std.specs.Prelude.{ℕ, suc, ◌≤◌, ◌<◌, ◌≡◌, ◌⊎◌, Bool}
use Rattle.std.proofs.Common.{sym, ap, subst, ◌∙◌, inl, inr, arith}
use Rattle.member.specs.declared.Reading.TheVariants.{Gap}
use Rattle.ideal.specs.Places.{space_above}
use Rattle.ideal.specs.Tiles.{version, IsEntry, IsGap, Tile, TileRules, not_both}
use Rattle.ideal.specs.Votes.{Voting, Writes}
use Rattle.ideal.specs.Invariant.{Inv}
use Rattle.ideal.specs.Region.{Inside, Patched, PatchRules, Written, Allowed}
use Rattle.ideal.proofs.RegionKeeps.{region}
use Rattle.ideal.specs.Ends.{LowerEnd, UpperEnd}
use Rattle.ideal.specs.Remove.{joined, joined-low, joined-up, joined-between, Spot, at_p, at-s, between, spot, raised}

-- Remove: between A's neighbours p and s of x, whose readings stay A's own, one gap that is newer than
-- 'x's version, v below, v above'.
module _ {hi : ℕ} {A : Tile} (t : TileRules hi A) {b x p s g : ℕ} (e : x ≡ suc b) (lower : LowerEnd A x p)
    (upper : UpperEnd hi A x s) (here : version (A x) < g) (below : version (A b) < g) (above : version (A (suc x)) < g) where
  new : Tile
  new = joined p s (A p) (A s) g

  apart : p < s
  apart = omega (arith, lower.under, upper.over)

  low-is : new p ≡ A p
  unfolding new
  low-is = joined-low p s (A p) (A s) g

  up_is : new s ≡ A s
  unfolding new
  up_is = joined-up p s (A p) (A s) g apart

  gap_is : (z : ℕ) → p < z → z < s → new z ≡ Gap g
  unfolding new
  gap_is = joined-between p s (A p) (A s) g

  -- the new gaps lie strictly between
  inner : (z : ℕ) → Inside p s z → IsGap (new z) → (p < z) × (z < s)
  inner z d h = go (spot p s z d)
    where
      go : Spot p s z → (p < z) × (z < s)
      go (at_p q) = absurd (not_both (A p) lower.entry (subst IsGap low-is (subst (λ y. IsGap (new y)) (sym q) h)))
      go (at-s q) = absurd (not_both (A s) upper.entry (subst IsGap up_is (subst (λ y. IsGap (new y)) (sym q) h)))
      go (between c k) = (c, k)

  spaces-of : (n : ℕ) → space_above n ≤ hi → Inside p s (space_above n) → IsGap (new (space_above n))
  spaces-of n l d = go (spot p s (space_above n) d)
    where
      go : Spot p s (space_above n) → IsGap (new (space_above n))
      go (at_p q) = absurd (not_both (A (space_above n)) (subst (λ y. IsEntry (A y)) q lower.entry) (t.spaces n l))
      go (at-s q) = absurd (not_both (A (space_above n)) (subst (λ y. IsEntry (A y)) q upper.entry) (t.spaces n l))
      go (between c k) = subst IsGap (sym (gap_is (space_above n) c k)) tt

  new-rules : PatchRules hi p s new
  new-rules =
      record {
        low = λ h. subst (λ y. new y ≡ A y) h low-is ∙ t.low;
        high = λ h. subst (λ y. new y ≡ A y) h up_is ∙ t.high;
        spaces = spaces-of;
        one-gap = λ z a c h k. let i = inner z (a, omega arith) h in let j = inner (suc z) (omega arith, c) k in gap_is z i.0 i.1 ∙ sym (gap_is (suc z) j.0 j.1);
        low-edge = subst IsEntry (sym low-is) lower.entry;
        up-edge = subst IsEntry (sym up_is) upper.entry;
        fits = upper.fits;
      }

  newer : (z : ℕ) → p < z → z < s → version (A z) < version (new z)
  newer z c k = omega (arith, raised t e lower upper here below above z c k, ap version (gap_is z c k))

  new-allowed : Allowed hi p s new A
  new-allowed =
      record {
        cell = λ z d. cell z (spot p s z d);
        cells = λ z a c h k. let i = inner z (a, omega arith) h in let j = inner (suc z) (omega arith, c) k in inr (newer z i.0 i.1, newer (suc z) j.0 j.1);
        low-edge = λ z h. inl (subst IsEntry (sym low-is) lower.entry);
        up-edge = λ h. inl (subst IsEntry (sym up_is) upper.entry);
      }
    where
      cell : (z : ℕ) → Spot p s z → (new z ≡ A z) ⊎ (version (A z) < version (new z))
      cell z (at_p q) = inl (subst (λ y. new y ≡ A y) q low-is)
      cell z (at-s q) = inl (subst (λ y. new y ≡ A y) q up_is)
      cell z (between c k) = inr (newer z c k)

pub removed : {q : Voting} {hi : ℕ} {M : ℕ → Tile} {A : Tile} {w : ℕ → Bool} {M' : ℕ → Tile} {A' : Tile} → Inv q hi M A →
    Writes q w → {b x p s g : ℕ} → x ≡ suc b → LowerEnd A x p → UpperEnd hi A x s → version (A x) < g → version (A b) < g →
    version (A (suc x)) < g → Written q.members hi p s (joined p s (A p) (A s) g) w M M' →
    Patched hi p s (joined p s (A p) (A s) g) A A' → Inv q hi M' A'
unfolding new
removed v enough e lower upper here below above = region v enough (new-rules v.ideal e lower upper here below above) (new-allowed v.ideal e lower upper here below above)
