-- A change of a region: new readings N at the places lo to up, written to the members of the write set and to A.
use Rattle.std.specs.Prelude.{ℕ, suc, ◌≤◌, ◌<◌, ◌≡◌, refl, ◌⊎◌, Bool, true, false, cond, ltb}
use Rattle.std.proofs.Common.{sym, subst, ◌∙◌, inl, inr, lt-ltb, le-ltb, arith}
use Rattle.member.specs.declared.Reading.TheVariants.{Entry}
use Rattle.ideal.specs.Places.{space_above, lt_or_le}
use Rattle.ideal.specs.Tiles.{IsEntry, IsGap, Tile, TileRules, not_both}
use Rattle.ideal.specs.Votes.{In}
use Rattle.ideal.specs.Change.{Moved, MovedAlike}

-- N inside lo..up, f outside
unfoldable pub patched : ℕ → ℕ → Tile → Tile → Tile
patched lo up N f z = cond (ltb z lo) (f z) (cond (ltb up z) (f z) (N z))

abbrev pub Inside : ℕ → ℕ → ℕ → Type 0
Inside lo up z = (lo ≤ z) × (z ≤ up)

abbrev pub Outside : ℕ → ℕ → ℕ → Type 0
Outside lo up z = (z < lo) ⊎ (up < z)

pub side : (lo up z : ℕ) → Inside lo up z ⊎ Outside lo up z
side lo up z = go (lt_or_le z lo) (lt_or_le up z)
  where
    go : (z < lo) ⊎ (lo ≤ z) → (up < z) ⊎ (z ≤ up) → Inside lo up z ⊎ Outside lo up z
    go (inl a) b = inr (inl a)
    go (inr a) (inl b) = inr (inr b)
    go (inr a) (inr b) = inl (a, b)

-- f' is f so changed, as far as HIGH's place
pub record Patched (hi lo up : ℕ) (N f f' : Tile) : Type 0 where
  pub inside : (z : ℕ) → Inside lo up z → f' z ≡ N z
  pub outside : (z : ℕ) → z ≤ hi → Outside lo up z → f' z ≡ f z

pub patched_is : (hi lo up : ℕ) (N f : Tile) → Patched hi lo up N f (patched lo up N f)
unfolding patched
patched_is hi lo up N f = record { inside = λ z d. rw (le-ltb z lo d.0, le-ltb up z d.1); outside = out }
  where
    out : (z : ℕ) → z ≤ hi → Outside lo up z → patched lo up N f z ≡ f z
    out z l (inl o) = rw (lt-ltb z lo o)
    out z l (inr o) = go (ltb z lo)
      where
        go : (t : Bool) → cond t (f z) (cond (ltb up z) (f z) (N z)) ≡ f z
        go true = refl
        go false = rw (lt-ltb up z o)

-- What the new readings must be for a tile to stay a tile: the rules inside, and an entry at either edge.
pub record PatchRules (hi lo up : ℕ) (N : Tile) : Type 0 where
  pub low : lo ≡ 0 → N 0 ≡ Entry 0 0
  pub high : up ≡ hi → N hi ≡ Entry 0 0
  pub spaces : (e : ℕ) → space_above e ≤ hi → Inside lo up (space_above e) → IsGap (N (space_above e))
  pub one-gap : (z : ℕ) → lo ≤ z → suc z ≤ up → IsGap (N z) → IsGap (N (suc z)) → N z ≡ N (suc z)
  pub low-edge : IsEntry (N lo)
  pub up-edge : IsEntry (N up)
  pub fits : up ≤ hi

module _ {hi lo up : ℕ} {N f f' : Tile} (p : PatchRules hi lo up N) (t : TileRules hi f) (d : Patched hi lo up N f f') where
  low-after : f' 0 ≡ Entry 0 0
  low-after = go (side lo up 0)
    where
      go : Inside lo up 0 ⊎ Outside lo up 0 → f' 0 ≡ Entry 0 0
      go (inl h) = d.inside 0 h ∙ p.low (omega arith)
      go (inr o) = d.outside 0 (omega arith) o ∙ t.low

  high_after : f' hi ≡ Entry 0 0
  high_after = go (side lo up hi)
    where
      go : Inside lo up hi ⊎ Outside lo up hi → f' hi ≡ Entry 0 0
      go (inl h) = d.inside hi h ∙ p.high (omega (arith, p.fits, h.1))
      go (inr o) = d.outside hi (omega arith) o ∙ t.high

  spaces-after : (e : ℕ) → space_above e ≤ hi → IsGap (f' (space_above e))
  spaces-after e l = go (side lo up (space_above e))
    where
      go : Inside lo up (space_above e) ⊎ Outside lo up (space_above e) → IsGap (f' (space_above e))
      go (inl h) = subst IsGap (sym (d.inside (space_above e) h)) (p.spaces e l h)
      go (inr o) = subst IsGap (sym (d.outside (space_above e) (omega arith) o)) (t.spaces e l)

  one-gap-after : (z : ℕ) → z < hi → IsGap (f' z) → IsGap (f' (suc z)) → f' z ≡ f' (suc z)
  one-gap-after z l g g' = go (side lo up z) (side lo up (suc z))
    where
      go : Inside lo up z ⊎ Outside lo up z → Inside lo up (suc z) ⊎ Outside lo up (suc z) → f' z ≡ f' (suc z)
      go (inl h) (inl k) = d.inside z h ∙ (p.one-gap z h.0 k.1 (subst IsGap (d.inside z h) g) (subst IsGap (d.inside (suc z) k) g') ∙ sym (d.inside (suc z) k))
      go (inr o) (inr u) =
          let e = d.outside z (omega arith) o in
          let e' = d.outside (suc z) (omega arith) u in
          e ∙ (t.one-gap z l (subst IsGap e g) (subst IsGap e' g') ∙ sym e')
      go (inl h) (inr (inl u)) = absurd (omega (arith, h.0))
      go (inl h) (inr (inr u)) =
          let z≡ : z ≡ up = omega (arith, h.1) in
          absurd (not_both (N up) p.up-edge (subst (λ y. IsGap (N y)) z≡ (subst IsGap (d.inside z h) g)))
      go (inr (inl o)) (inl k) =
          let z≡ : suc z ≡ lo = omega (arith, k.0) in
          absurd (not_both (N lo) p.low-edge (subst (λ y. IsGap (N y)) z≡ (subst IsGap (d.inside (suc z) k) g')))
      go (inr (inr o)) (inl k) = absurd (omega (arith, k.1))

  pub patch-rules : TileRules hi f'
  patch-rules = record { low = low-after; high = high_after; spaces = spaces-after; one-gap = one-gap-after }

-- Each member of the write set gets the change, and the others stay as they were.
pub record Written (n hi lo up : ℕ) (N : Tile) (w : ℕ → Bool) (M M' : ℕ → Tile) : Type 0 where
  pub members : (i : ℕ) → i < n → In w i → Patched hi lo up N (M i) (M' i)
  pub others : (i : ℕ) → i < n → w i ≡ false → (z : ℕ) → z ≤ hi → M' i z ≡ M i z

-- What keeps the invariant: each new reading is A's own or raised above it, over a gap throughout or nowhere,
-- and no gap of the new A goes over an edge.
pub record Allowed (hi lo up : ℕ) (N A : Tile) : Type 0 where
  pub cell : (z : ℕ) → Inside lo up z → Moved A N z
  pub cells : (z : ℕ) → lo ≤ z → suc z ≤ up → IsGap (N z) → IsGap (N (suc z)) → MovedAlike A N z
  pub low-edge : (z : ℕ) → suc z ≡ lo → IsEntry (N lo) ⊎ IsEntry (A z)
  pub up-edge : up < hi → IsEntry (N up) ⊎ IsEntry (A (suc up))
