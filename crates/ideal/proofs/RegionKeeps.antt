-- A change of a region under its conditions is a change in the sense of the theorem.
use Rattle.std.specs.Prelude.{ℕ, suc, ◌≤◌, ◌<◌, ◌≡◌, refl, ◌⊎◌, Bool, true, false}
use Rattle.std.proofs.Common.{sym, ap, subst, ◌∙◌, inl, inr, arith}
use Rattle.ideal.specs.Tiles.{version, IsEntry, IsGap, Tile, TileRules, rules_ext, not_both}
use Rattle.ideal.specs.Votes.{In, Voting, Writes}
use Rattle.ideal.specs.Invariant.{Inv}
use Rattle.ideal.specs.Change.{Raised, Moved, Shown, MovedAlike, ShownAlike, Change}
use Rattle.ideal.proofs.Change.{change}
use Rattle.ideal.specs.Region.{Inside, Outside, side, Patched, PatchRules, patch-rules, Written, Allowed}

module _ {n hi lo up : ℕ} {N : Tile} {w : ℕ → Bool} {M : ℕ → Tile} {A : Tile} {M' : ℕ → Tile} {A' : Tile}
    (c : Allowed hi lo up N A) (d : Patched hi lo up N A A') (m : Written n hi lo up N w M M') where
  -- A's own move at a place of the region, or outside
  moved : (z : ℕ) → A' z ≡ N z → Moved A N z → Moved A A' z
  moved z e (inl k) = inl (e ∙ k)
  moved z e (inr r) = inr (omega (arith, ap version e))

  cell-of : (z : ℕ) → z ≤ hi → Moved A A' z
  cell-of z l = go (side lo up z)
    where
      go : Inside lo up z ⊎ Outside lo up z → Moved A A' z
      go (inl h) = moved z (d.inside z h) (c.cell z h)
      go (inr o) = inl (d.outside z l o)

  -- a member inside the region: written, or as it was
  got : (i z : ℕ) → i < n → In w i → Inside lo up z → M' i z ≡ A' z
  got i z b e h = (m.members i b e).inside z h ∙ sym (d.inside z h)

  here : (i z : ℕ) → i < n → z ≤ hi → Inside lo up z → (t : Bool) → w i ≡ t → Shown A' (M i) (M' i) z
  here i z b l h true e = inl (got i z b e h)
  here i z b l h false e = inr (m.others i b e z l)

  there : (i z : ℕ) → i < n → z ≤ hi → Outside lo up z → (t : Bool) → w i ≡ t → M' i z ≡ M i z
  there i z b l o true e = (m.members i b e).outside z l o
  there i z b l o false e = m.others i b e z l

  member_of : (i z : ℕ) → i < n → z ≤ hi → Shown A' (M i) (M' i) z
  member_of i z b l = go (side lo up z)
    where
      go : Inside lo up z ⊎ Outside lo up z → Shown A' (M i) (M' i) z
      go (inl h) = here i z b l h (w i) refl
      go (inr o) = inr (there i z b l o (w i) refl)

  reaches_of : (i z : ℕ) → i < n → z ≤ hi → In w i → Raised A A' z → M' i z ≡ A' z
  reaches_of i z b l e r = go (side lo up z)
    where
      go : Inside lo up z ⊎ Outside lo up z → M' i z ≡ A' z
      go (inl h) = got i z b e h
      go (inr o) = absurd (omega (arith, ap version (d.outside z l o)))

  -- no gap of A' goes over an edge
  no_edge : (z : ℕ) → z < hi → IsGap (A' z) → IsGap (A' (suc z)) → Inside lo up z ⊎ Outside lo up z →
      Inside lo up (suc z) ⊎ Outside lo up (suc z) →
      (Inside lo up z × Inside lo up (suc z)) ⊎ (Outside lo up z × Outside lo up (suc z))
  no_edge z l g g' (inl h) (inl k) = inl (h, k)
  no_edge z l g g' (inr o) (inr u) = inr (o, u)
  no_edge z l g g' (inl h) (inr (inl u)) = absurd (omega (arith, h.0))
  no_edge z l g g' (inr (inr o)) (inl k) = absurd (omega (arith, k.1))
  no_edge z l g g' (inl h) (inr (inr u)) =
      let at : z ≡ up = omega (arith, h.1) in
      let g_n = subst (λ y. IsGap (N y)) at (subst IsGap (d.inside z h) g) in
      let g_a = subst (λ y. IsGap (A (suc y))) at (subst IsGap (d.outside (suc z) (omega arith) (inr u)) g') in
      absurd (go g_n g_a (c.up-edge (omega arith)))
    where
      go : IsGap (N up) → IsGap (A (suc up)) → IsEntry (N up) ⊎ IsEntry (A (suc up)) → ⊥
      go g_n g_a (inl e) = not_both (N up) e g_n
      go g_n g_a (inr e) = not_both (A (suc up)) e g_a
  no_edge z l g g' (inr (inl o)) (inl k) =
      let at : suc z ≡ lo = omega (arith, k.0) in
      let g_n = subst (λ y. IsGap (N y)) at (subst IsGap (d.inside (suc z) k) g') in
      absurd (go g_n (subst IsGap (d.outside z (omega arith) (inl o)) g) (c.low-edge z at))
    where
      go : IsGap (N lo) → IsGap (A z) → IsEntry (N lo) ⊎ IsEntry (A z) → ⊥
      go g_n g_a (inl e) = not_both (N lo) e g_n
      go g_n g_a (inr e) = not_both (A z) e g_a

  cells_of : (z : ℕ) → z < hi → IsGap (A' z) → IsGap (A' (suc z)) → MovedAlike A A' z
  cells_of z l g g' = go (no_edge z l g g' (side lo up z) (side lo up (suc z)))
    where
      both : A' z ≡ N z → A' (suc z) ≡ N (suc z) → MovedAlike A N z → MovedAlike A A' z
      both e e' (inl k) = inl (e ∙ k.0, e' ∙ k.1)
      both e e' (inr r) = inr (omega (arith, ap version e, ap version e', r.0, r.1))

      go : (Inside lo up z × Inside lo up (suc z)) ⊎ (Outside lo up z × Outside lo up (suc z)) → MovedAlike A A' z
      go (inl h) =
          let e = d.inside z h.0 in
          let e' = d.inside (suc z) h.1 in
          both e e' (c.cells z h.0.0 h.1.1 (subst IsGap e g) (subst IsGap e' g'))
      go (inr o) = inl (d.outside z (omega arith) o.0, d.outside (suc z) (omega arith) o.1)

  alike_of : (i z : ℕ) → i < n → z < hi → IsGap (A' z) → IsGap (A' (suc z)) → ShownAlike A' (M i) (M' i) z
  alike_of i z b l g g' = go (no_edge z l g g' (side lo up z) (side lo up (suc z))) (w i) refl
    where
      go : (Inside lo up z × Inside lo up (suc z)) ⊎ (Outside lo up z × Outside lo up (suc z)) → (t : Bool) → w i ≡ t →
          ShownAlike A' (M i) (M' i) z
      go (inr o) t e = inr (there i z b (omega arith) o.0 t e, there i (suc z) b (omega arith) o.1 t e)
      go (inl h) true e = inl (got i z b e h.0, got i (suc z) b e h.1)
      go (inl h) false e = inr (m.others i b e z (omega arith), m.others i b e (suc z) (omega arith))

  pub region-change : Change n hi w M A M' A'
  region-change = record { cell = cell-of; member = member_of; reaches = reaches_of; cells = cells_of; alike = alike_of }

-- A change of a region keeps the invariant, and every tile a tile.
pub region : {q : Voting} {hi lo up : ℕ} {N : Tile} {w : ℕ → Bool} {M : ℕ → Tile} {A : Tile} {M' : ℕ → Tile} {A' : Tile} →
    Inv q hi M A → Writes q w → PatchRules hi lo up N → Allowed hi lo up N A → Written q.members hi lo up N w M M' →
    Patched hi lo up N A A' → Inv q hi M' A'
region {q} {hi} {w = w} {M = M} {M' = M'} v enough p c m d = change v enough (region-change c d m) (λ i b. rules i b (w i) refl) (patch-rules p v.ideal d)
  where
    rules : (i : ℕ) → i < q.members → (t : Bool) → w i ≡ t → TileRules hi (M' i)
    rules i b true e = patch-rules p (v.rules i b) (m.members i b e)
    rules i b false e = rules_ext (m.others i b e) (v.rules i b)
