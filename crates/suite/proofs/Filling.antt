-- A list overwritten place by place, as the loops over a set do: up to place i the target, from there on what was there.
use mathlib.Core.Path.{◌≡◌, sym, ap, ◌∙◌}
use mathlib.Core.List.{List, [], ◌∷◌, ◌++◌}
use Prim.Native.Nat.{ℕ, ◌+◌, ◌/◌, ◌%◌, ◌≤◌, ◌<◌}
use native.Mathlib.Nat.{add-zero}
use native.Mathlib.Omega.{arith}
use native.Mathlib.Numerals.{add-one}
use borrow.Author.Tests.{eq-eqb, ne_eqb}
use lib.ListN.{length, take, drop, get_or, set, length-take, length-drop, take-append-drop, drop_of_length-le}
use lib.Seq.{drop-cons, drop-drop, get_or-drop, get_or-take, set-get_or}
use Rattle.member.proofs.Shift.{over-up, over-above}
use Rattle.member.specs.declared.Member.{Member}
use Rattle.suite.specs.Sets.{changed}
use Rattle.suite.specs.Suite.{tiles}
use Rattle.suite.specs.Rows.{tabled, no_row}
use Rattle.suite.specs.declared.Suite.{Suite}

module _ {A : Type 0} (t l : List A) (i : ℕ) (v : A) (rest : List A) (h : i < length l) (e : drop i t ≡ v ∷ rest) where
  within : i < length t
  within = omega (arith, length-drop i t, ap length e)

  there : get_or t i v ≡ v
  there =
      sym (ap (λ n. get_or t n v) (add-zero i)) ∙ sym (get_or-drop i t 0 v) ∙ ap (λ (k : List A). get_or k 0 v) e

  -- the next place gets the target's element
  pub over-next : set (take i t ++ drop i l) i v ≡ take (i + 1) t ++ drop (i + 1) l
  over-next = ap (set (take i t ++ drop i l) i) (sym there) ∙ over-up t l i v within h

  pub over-rest : drop (i + 1) t ≡ rest
  over-rest = sym (drop-drop 1 i t) ∙ ap (drop 1) e

  -- or has it already
  pub over-same : get_or l i v ≡ v → take i t ++ drop i l ≡ take (i + 1) t ++ drop (i + 1) l
  over-same same =
      sym (set-get_or (take i t ++ drop i l) i v)
      ∙ ap (set (take i t ++ drop i l) i) (over-above t l i i v (omega (arith, within)) (omega arith) ∙ same)
      ∙ over-next

-- at the end the rest of the target is what was there
pub over_end : {A : Type 0} (t l : List A) (i : ℕ) → drop i t ≡ drop i l → take i t ++ drop i l ≡ t
over_end t l i e = ap (λ k. take i t ++ k) (sym e) ∙ take-append-drop i t

pub tile_at : (s : Suite) (i : ℕ) (d : Member) → i < length (tiles s) → get_or (tiles s) i d ≡ get_or s.members i d
tile_at s i d h = let k : i < s.count = omega (arith, length-take s.count s.members) in rw get_or-take

-- The table of a round.
module _ (f : Member → List ℕ) (l : List Member) (i : ℕ) (d : Member) (left : ℕ) (h : i < length l) where
  pub tabled-named : left % 2 ≡ 1 → tabled f (drop i l) left ≡ f (get_or l i d) ∷ tabled f (drop (i + 1) l) (left / 2)
  unfolding tabled
  tabled-named e = rw (drop-cons l i d, eq-eqb (left % 2) 1 e, add-one)

  pub tabled-passed : (left % 2 ≡ 1 → ⊥) → tabled f (drop i l) left ≡ no_row ∷ tabled f (drop (i + 1) l) (left / 2)
  unfolding tabled
  tabled-passed e = rw (drop-cons l i d, ne_eqb (left % 2) 1 e, add-one)

pub tabled_past : (f : Member → List ℕ) (l : List Member) (i left : ℕ) → length l ≤ i → tabled f (drop i l) left ≡ []
unfolding tabled
tabled_past f l i left h = rw (drop_of_length-le l)

-- The members of a suite.
module _ (g : Member → Member) (l : List Member) (i : ℕ) (d : Member) (left : ℕ) (h : i < length l) where
  pub changed-named : left % 2 ≡ 1 → changed g (drop i l) left ≡ g (get_or l i d) ∷ changed g (drop (i + 1) l) (left / 2)
  unfolding changed
  changed-named e = rw (drop-cons l i d, eq-eqb (left % 2) 1 e, add-one)

  pub changed-passed : (left % 2 ≡ 1 → ⊥) → changed g (drop i l) left ≡ get_or l i d ∷ changed g (drop (i + 1) l) (left / 2)
  unfolding changed
  changed-passed e = rw (drop-cons l i d, ne_eqb (left % 2) 1 e, add-one)

pub changed_past : (g : Member → Member) (l : List Member) (i left : ℕ) → length l ≤ i → changed g (drop i l) left ≡ []
unfolding changed
changed_past g l i left h = rw (drop_of_length-le l)
