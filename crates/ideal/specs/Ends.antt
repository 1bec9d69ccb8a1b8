-- The ends of a tile's gap next to a place, and which entry a tile offers in round two.
use Rattle.std.specs.Prelude.{ℕ, zero, suc, ◌≤◌, ◌<◌, ◌≡◌, ◌⊎◌}
use Rattle.std.proofs.Common.{subst, inl, inr, arith}
pub use Rattle.member.specs.Places.{LowerEnd, UpperEnd, OffersBelow as Offers, OffersAbove}
use Rattle.ideal.specs.Places.{lt_or_le, both_ways}
use Rattle.ideal.specs.Tiles.{version, IsEntry, IsGap, Tile, kind, not_both}

pub lower_unique : {f : Tile} {x k k' : ℕ} → LowerEnd f x k → LowerEnd f x k' → k ≡ k'
lower_unique {f} {x} {k} {k'} a b = both_ways (λ l. not_both (f k') b.entry (a.none k' l b.under)) (λ l. not_both (f k) a.entry (b.none k l a.under))

offers_last : {f : Tile} {k v x y y' : ℕ} → Offers f k v x y → Offers f k v x y' → y < y' → ⊥
offers_last {f} {k} {v} {x} {y} {y'} a b l = go b.counts
  where
    go : (y' ≡ k) ⊎ (v < version (f y')) → ⊥
    go (inl e) = omega (arith, a.reach)
    go (inr h) = omega (arith, a.greatest y' l b.under b.entry)

pub offers_unique : {f : Tile} {k v x y y' : ℕ} → Offers f k v x y → Offers f k v x y' → y ≡ y'
offers_unique a b = both_ways (offers_last a b) (offers_last b a)

-- a tile has an entry at LOW, so every place above has a lower end
pub lower_exists : (f : Tile) → IsEntry (f 0) → (x : ℕ) → 0 < x → (k : ℕ) × LowerEnd f x k
lower_exists f low zero h = absurd (omega arith)
lower_exists f low (suc x) h = go (kind (f x)) (lower_exists f low x)
  where
    step : IsGap (f x) → (k : ℕ) × LowerEnd f x k → (k : ℕ) × LowerEnd f (suc x) k
    step g (k, e) = (k, record { under = omega (arith, e.under); entry = e.entry; none = none })
      where
        none : (y : ℕ) → k < y → y < suc x → IsGap (f y)
        none y a b = on (lt_or_le y x)
          where
            on : (y < x) ⊎ (x ≤ y) → IsGap (f y)
            on (inl l) = e.none y a l
            on (inr l) = let at : x ≡ y = omega arith in subst (λ z. IsGap (f z)) at g

    go : IsEntry (f x) ⊎ IsGap (f x) → (0 < x → (k : ℕ) × LowerEnd f x k) → (k : ℕ) × LowerEnd f (suc x) k
    go (inl e) below = (x, record { under = omega arith; entry = e; none = λ y a b. absurd (omega arith) })
    go (inr g) below = on (lt_or_le 0 x)
      where
        on : (0 < x) ⊎ (x ≤ 0) → (k : ℕ) × LowerEnd f (suc x) k
        on (inl l) = step g (below l)
        on (inr l) = let at : 0 ≡ x = omega arith in absurd (not_both (f x) (subst (λ z. IsEntry (f z)) at low) g)
