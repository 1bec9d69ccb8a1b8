-- Forgetting versions: the plain directory that A stands for ('presence, value and neighbour names; it has no versions').
use Rattle.std.specs.Prelude.{ℕ, ◌≤◌, ◌<◌, ◌≡◌, refl, ◌⊎◌, Bool, true, false}
use Rattle.std.proofs.Common.{sym, ap, subst, ◌∙◌, inl, inr, arith}
use Rattle.member.specs.declared.Reading.{Reading}
use Rattle.member.specs.declared.Reading.TheVariants.{Entry, Gap}
use Rattle.ideal.specs.Places.{end_of, place, lt_or_le}
use Rattle.ideal.specs.Tiles.{IsEntry, IsGap, Tile}
use Rattle.ideal.specs.Ends.{LowerEnd, UpperEnd}
use Rattle.ideal.specs.Region.{Inside, Outside, side, Patched}
use Rattle.ideal.specs.Remove.{joined, joined-low, joined-up, joined-between, Spot, at_p, at-s, between, spot}

-- 'present' or 'absent, .. value 0'
abbrev pub is_entry : Reading → Bool
is_entry (Entry v x) = true
is_entry (Gap v) = false

abbrev pub value_of : Reading → ℕ
value_of (Entry v x) = x
value_of (Gap v) = 0

abbrev pub present : Tile → ℕ → Bool
present A name = is_entry (A (place (end_of name)))

abbrev pub value_at : Tile → ℕ → ℕ
value_at A name = value_of (A (place (end_of name)))

-- A and A' stand for the same at a name
pub record Alike (A A' : Tile) (name : ℕ) : Type 0 where
  pub presence : present A' name ≡ present A name
  pub value : value_at A' name ≡ value_at A name

pub is_present : (r : Reading) → IsEntry r → is_entry r ≡ true
is_present (Entry v x) e = refl
is_present (Gap v) e = absurd e

pub is_absent : (r : Reading) → IsGap r → is_entry r ≡ false
is_absent (Entry v x) g = absurd g
is_absent (Gap v) g = refl

no_value : (r : Reading) → IsGap r → value_of r ≡ 0
no_value (Entry v x) g = absurd g
no_value (Gap v) g = refl

module _ {A A' : Tile} (name : ℕ) where
  alike_same : A' (place (end_of name)) ≡ A (place (end_of name)) → Alike A A' name
  alike_same e = record { presence = ap is_entry e; value = ap value_of e }

  alike-gaps : IsGap (A' (place (end_of name))) → IsGap (A (place (end_of name))) → Alike A A' name
  alike-gaps g h =
      record {
        presence = is_absent (A' (place (end_of name))) g ∙ sym (is_absent (A (place (end_of name))) h);
        value = no_value (A' (place (end_of name))) g ∙ sym (no_value (A (place (end_of name))) h);
      }

-- Insert and update change one name: what is said of it is the new entry, and of every other what was said.
pub entry_here : {hi : ℕ} {N A A' : Tile} (name : ℕ) → Patched hi (place (end_of name)) (place (end_of name)) N A A' →
    A' (place (end_of name)) ≡ N (place (end_of name))
entry_here name d = d.inside (place (end_of name)) (omega arith)

pub entry_elsewhere : {hi : ℕ} {N A A' : Tile} (name other : ℕ) → Patched hi (place (end_of name)) (place (end_of name)) N A A' →
    place (end_of other) ≤ hi → (other ≡ name → ⊥) → Alike A A' other
entry_elsewhere name other d l apart = alike_same other (d.outside (place (end_of other)) l (go (lt_or_le other name) (lt_or_le name other)))
  where
    go : (other < name) ⊎ (name ≤ other) → (name < other) ⊎ (other ≤ name) →
        Outside (place (end_of name)) (place (end_of name)) (place (end_of other))
    go (inl h) k = inl (omega arith)
    go (inr h) (inl k) = inr (omega arith)
    go (inr h) (inr k) = absurd (apart (omega arith))

-- Remove takes out one name and no other.
module _ {hi : ℕ} {A A' : Tile} {x p s : ℕ} (g : ℕ) (lower : LowerEnd A x p) (upper : UpperEnd hi A x s)
    (d : Patched hi p s (joined p s (A p) (A s) g) A A') where
  ordered : p < s
  ordered = omega (arith, lower.under, upper.over)

  gap-in : (z : ℕ) → p < z → z < s → IsGap (A' z)
  gap-in z a b = subst IsGap (sym (d.inside z (omega arith) ∙ joined-between p s (A p) (A s) g z a b)) tt

  pub removed-here : (name : ℕ) → x ≡ place (end_of name) → present A' name ≡ false
  removed-here name e = is_absent (A' (place (end_of name))) (subst (λ y. IsGap (A' y)) e (gap-in x lower.under upper.over))

  pub removed-elsewhere : (name other : ℕ) → x ≡ place (end_of name) → place (end_of other) ≤ hi → (other ≡ name → ⊥) →
      Alike A A' other
  removed-elsewhere name other e l apart = go (side p s (place (end_of other)))
    where
      kept : (z : ℕ) → z ≡ place (end_of other) → A' z ≡ A z → Alike A A' other
      kept z q h = alike_same other (subst (λ y. A' y ≡ A y) q h)

      gone : p < place (end_of other) → place (end_of other) < s → (other < name) ⊎ (name ≤ other) →
          (name < other) ⊎ (other ≤ name) → Alike A A' other
      gone a b (inl h) k = alike-gaps other (gap-in (place (end_of other)) a b) (lower.none (place (end_of other)) a (omega arith))
      gone a b (inr h) (inl k) = alike-gaps other (gap-in (place (end_of other)) a b) (upper.none (place (end_of other)) (omega arith) b)
      gone a b (inr h) (inr k) = absurd (apart (omega arith))

      inner : Spot p s (place (end_of other)) → Alike A A' other
      inner (at_p q) = kept p q (d.inside p (omega (arith, ordered)) ∙ joined-low p s (A p) (A s) g)
      inner (at-s q) = kept s q (d.inside s (omega (arith, ordered)) ∙ joined-up p s (A p) (A s) g ordered)
      inner (between a b) = gone a b (lt_or_le other name) (lt_or_le name other)

      go : Inside p s (place (end_of other)) ⊎ Outside p s (place (end_of other)) → Alike A A' other
      go (inl h) = inner (spot p s (place (end_of other)) h)
      go (inr o) = alike_same other (d.outside (place (end_of other)) l o)

-- Neighbour names. The end e is the plain directory's neighbour below a name: LOW or a present name, and no name
-- between is present.
pub record Before (A : Tile) (name e : ℕ) : Type 0 where
  pub under : e < end_of name
  pub there : (n : ℕ) → e ≡ end_of n → present A n ≡ true
  pub none : (m : ℕ) → e < end_of m → m < name → present A m ≡ false

-- the neighbour above: HIGH or a present name
pub record After (A : Tile) (name e : ℕ) : Type 0 where
  pub over : end_of name < e
  pub there : (n : ℕ) → e ≡ end_of n → present A n ≡ true
  pub none : (m : ℕ) → name < m → end_of m < e → present A m ≡ false

-- so A's neighbours are the plain directory's
pub before : {A : Tile} (name e : ℕ) → LowerEnd A (place (end_of name)) (place e) → Before A name e
before {A} name e d =
    record {
      under = omega (arith, d.under);
      there = λ n h. is_present (A (place (end_of n))) (subst (λ y. IsEntry (A (place y))) h d.entry);
      none = λ m a b. is_absent (A (place (end_of m))) (d.none (place (end_of m)) (omega arith) (omega arith));
    }

pub after : {hi : ℕ} {A : Tile} (name e : ℕ) → UpperEnd hi A (place (end_of name)) (place e) → After A name e
after {A = A} name e d =
    record {
      over = omega (arith, d.over);
      there = λ n h. is_present (A (place (end_of n))) (subst (λ y. IsEntry (A (place y))) h d.entry);
      none = λ m a b. is_absent (A (place (end_of m))) (d.none (place (end_of m)) (omega arith) (omega arith));
    }
