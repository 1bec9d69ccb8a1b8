-- Where a history begins: all members show one tile, above all the fresh one.
use Rattle.std.specs.Prelude.{ℕ, suc, ◌≤◌, ◌<◌, ◌≡◌, refl, ◌⊎◌, Bool, true, false, cond, ◌||◌, eqb}
use Rattle.std.proofs.Common.{sym, ap, subst, ◌∙◌, inl, inr, eq-eqb, ne_eqb, arith, le_trans}
use Rattle.member.specs.declared.Reading.TheVariants.{Entry, Gap}
use Rattle.ideal.specs.Places.{place, space_above, lt_or_le}
use Rattle.ideal.specs.Tiles.{version, IsGap, Tile, TileRules, rules_ext}
use Rattle.ideal.specs.Votes.{Voting, Writes, everyone, weight_mono}
use Rattle.ideal.specs.Invariant.{Inv, current}

-- Members that all show what A shows, W votes or more together.
pub agreed : {q : Voting} {hi : ℕ} {M : ℕ → Tile} {A : Tile} → Writes q everyone → TileRules hi A →
    ((i z : ℕ) → i < q.members → z ≤ hi → M i z ≡ A z) → Inv q hi M A
agreed {q} {hi} {M} {A} enough t same =
    record {
      rules = λ i m. rules_ext (λ z l. same i z m l) t;
      ideal = t;
      behind = λ i z m l. omega (arith, ap version (same i z m l));
      same = λ i z m l _. same i z m l;
      known = λ z l. le_trans enough (weight_mono q.votes everyone (current M A z) q.members (λ i m _. eq-eqb (version (M i z)) (version (A z)) (ap version (same i z m l))));
      through = λ i z m l _ _. (λ _. ap version (same i (suc z) m l), λ _. ap version (same i z m (omega arith)));
    }

-- 'A fresh member has no entry and one gap of version 0', beside LOW and HIGH.
unfoldable pub fresh : ℕ → Tile
fresh hi z = cond (eqb z 0 || eqb z hi) (Entry 0 0) (Gap 0)

pub fresh_gap : (hi z : ℕ) → 0 < z → z < hi → fresh hi z ≡ Gap 0
unfolding fresh
fresh_gap hi z a b = rw (ne_eqb z 0 (λ e. omega arith), ne_eqb z hi (λ e. omega arith))

fresh_low : (hi : ℕ) → fresh hi 0 ≡ Entry 0 0
unfolding fresh
fresh_low hi = refl

fresh-high : (hi : ℕ) → fresh hi hi ≡ Entry 0 0
unfolding fresh
fresh-high hi = rw (eq-eqb hi hi refl) (go (eqb hi 0))
  where
    go : (t : Bool) → cond (t || true) (Entry 0 0) (Gap 0) ≡ Entry 0 0
    go true = refl
    go false = refl

pub fresh_rules : (top : ℕ) → 0 < top → TileRules (place top) (fresh (place top))
fresh_rules top l =
    record {
      low = fresh_low (place top);
      high = fresh-high (place top);
      spaces = λ e h. subst IsGap (sym (fresh_gap (place top) (space_above e) (omega arith) (omega arith))) tt;
      one-gap = one;
    }
  where
    one : (z : ℕ) → z < place top → IsGap (fresh (place top) z) → IsGap (fresh (place top) (suc z)) →
        fresh (place top) z ≡ fresh (place top) (suc z)
    one z a g g' = go (lt_or_le 0 z) (lt_or_le (suc z) (place top))
      where
        go : (0 < z) ⊎ (z ≤ 0) → (suc z < place top) ⊎ (place top ≤ suc z) → fresh (place top) z ≡ fresh (place top) (suc z)
        go (inl h) (inl k) = fresh_gap (place top) z h a ∙ sym (fresh_gap (place top) (suc z) (omega arith) k)
        go (inr h) k = let at : z ≡ 0 = omega arith in absurd (subst IsGap (fresh_low (place top)) (subst (λ y. IsGap (fresh (place top) y)) at g))
        go (inl h) (inr k) = let at : suc z ≡ place top = omega arith in absurd (subst IsGap (fresh-high (place top)) (subst (λ y. IsGap (fresh (place top) y)) at g'))

-- A suite of fresh members.
pub start : {q : Voting} {M : ℕ → Tile} (top : ℕ) → 0 < top → Writes q everyone →
    ((i z : ℕ) → i < q.members → z ≤ place top → M i z ≡ fresh (place top) z) → Inv q (place top) M (fresh (place top))
start top l enough same = agreed enough (fresh_rules top l) same
