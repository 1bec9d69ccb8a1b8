-- Remove: a change of the places from one neighbour to the other.
use Rattle.std.specs.Prelude.{ℕ, suc, ◌≤◌, ◌<◌, ◌≡◌, ◌⊎◌, cond, leb}
use Rattle.std.proofs.Common.{sym, ap, subst, ◌∙◌, inl, inr, arith}
use borrow.Author.Tests.{le-leb, lt-leb}
use Rattle.member.specs.declared.Reading.{Reading}
use Rattle.member.specs.declared.Reading.TheVariants.{Gap}
use Rattle.ideal.specs.Places.{lt_or_le}
use Rattle.ideal.specs.Tiles.{version, Tile, TileRules, run}
use Rattle.ideal.specs.Region.{Inside, Outside, Patched}
use Rattle.ideal.specs.Ends.{LowerEnd, UpperEnd}

-- 'Coalescing p..s with version g': the readings given at p and at s, and one gap between them
unfoldable pub joined : ℕ → ℕ → Reading → Reading → ℕ → Tile
joined p s low up g z = cond (leb z p) low (cond (leb s z) up (Gap g))

module _ (p s : ℕ) (low up : Reading) (g : ℕ) where
  pub joined-low : joined p s low up g p ≡ low
  unfolding joined
  joined-low = rw (le-leb p p (omega arith))

  pub joined-up : p < s → joined p s low up g s ≡ up
  unfolding joined
  joined-up l = rw (lt-leb s p l, le-leb s s (omega arith))

  pub joined-between : (z : ℕ) → p < z → z < s → joined p s low up g z ≡ Gap g
  unfolding joined
  joined-between z a b = rw (lt-leb z p a, lt-leb s z b)

-- where a place of p..s lies
pub data Spot (p s z : ℕ) : Type 0 where
  at_p : p ≡ z → Spot p s z
  at-s : s ≡ z → Spot p s z
  between : p < z → z < s → Spot p s z

pub spot : (p s z : ℕ) → Inside p s z → Spot p s z
spot p s z d = go (lt_or_le p z) (lt_or_le z s)
  where
    go : (p < z) ⊎ (z ≤ p) → (z < s) ⊎ (s ≤ z) → Spot p s z
    go (inr h) o = at_p (omega (arith, d.0))
    go (inl h) (inr o) = at-s (omega (arith, d.1))
    go (inl h) (inl o) = between h o

-- a tile so coalesced, from what it shows at p, at s, between and elsewhere
pub coalesced : {hi : ℕ} (p s : ℕ) (low up : Reading) (g : ℕ) (f f' : Tile) → p < s → f' p ≡ low → f' s ≡ up →
    ((z : ℕ) → p < z → z < s → f' z ≡ Gap g) → ((z : ℕ) → z ≤ hi → Outside p s z → f' z ≡ f z) →
    Patched hi p s (joined p s low up g) f f'
coalesced p s low up g f f' l a b c o = record { inside = λ z d. go z (spot p s z d); outside = o }
  where
    go : (z : ℕ) → Spot p s z → f' z ≡ joined p s low up g z
    go z (at_p e) = subst (λ y. f' y ≡ joined p s low up g y) e (a ∙ sym (joined-low p s low up g))
    go z (at-s e) = subst (λ y. f' y ≡ joined p s low up g y) e (b ∙ sym (joined-up p s low up g l))
    go z (between h k) = c z h k ∙ sym (joined-between p s low up g z h k)

-- Remove: between A's neighbours p and s of x every version is below that of the new gap, which is newer than
-- 'x's version, v below, v above'.
module _ {hi : ℕ} {A : Tile} (t : TileRules hi A) {b x p s g : ℕ} (e : x ≡ suc b) (lower : LowerEnd A x p)
    (upper : UpperEnd hi A x s) (here : version (A x) < g) (below : version (A b) < g) (above : version (A (suc x)) < g) where
  pub raised : (z : ℕ) → p < z → z < s → version (A z) < g
  raised z pz zs = go (lt_or_le z x) (lt_or_le x z)
    where
      go : (z < x) ⊎ (x ≤ z) → (x < z) ⊎ (z ≤ x) → version (A z) < g
      go (inl h) o = omega (arith, ap version (run t z b (omega arith) (omega (arith, upper.over, upper.fits)) (λ y c d. lower.none y (omega arith) (omega arith))))
      go (inr h) (inl o) = omega (arith, ap version (run t (suc x) z o (omega (arith, upper.fits)) (λ y c d. upper.none y (omega arith) (omega arith))))
      go (inr h) (inr o) = let at : x ≡ z = omega arith in subst (λ y. version (A y) < g) at here
