-- A set gone through place by place, as the loops do: the lowest digit names the place, the rest goes on with the next.
use Rattle.std.specs.List.{list_all}
use mathlib.Core.Bool.{Bool, ◌&&◌}
use mathlib.Core.Path.{◌≡◌, refl, ap, ◌∙◌}
use mathlib.Core.List.{List, [], ◌∷◌}
use Prim.Native.Nat.{ℕ, ◌+◌, ◌*◌, ◌/◌, ◌%◌, ◌^◌, ◌≤◌, ◌<◌}
use native.Mathlib.Nat.{one-mul}
use native.Mathlib.Omega.{arith}
use native.Mathlib.Numerals.{add-one}
use borrow.Author.Tests.{eq-eqb, ne_eqb}
use lib.ListN.{length, drop, get_or, drop_of_length-le}
use lib.Seq.{drop-cons}
use lib.Pow.{shl_exact}
use Rattle.suite.specs.Sets.{chosen, total, votes_of, all}

-- the place i is named
pub chosen-named : {A : Type 0} (l : List A) (i : ℕ) (d : A) (set : ℕ) → i < length l → set % 2 ≡ 1
    → chosen (drop i l) set ≡ get_or l i d ∷ chosen (drop (i + 1) l) (set / 2)
unfolding chosen
chosen-named l i d set h e = rw (drop-cons l i d, eq-eqb (set % 2) 1 e, add-one)

-- the place i is not named
pub chosen-passed : {A : Type 0} (l : List A) (i : ℕ) (d : A) (set : ℕ) → i < length l → (set % 2 ≡ 1 → ⊥)
    → chosen (drop i l) set ≡ chosen (drop (i + 1) l) (set / 2)
unfolding chosen
chosen-passed l i d set h e = rw (drop-cons l i d, ne_eqb (set % 2) 1 e, add-one)

-- past the last place none is left
pub chosen_past : {A : Type 0} (l : List A) (i set : ℕ) → length l ≤ i → chosen (drop i l) set ≡ []
unfolding chosen
chosen_past l i set h = rw (drop_of_length-le l)

-- the votes that a set names
module _ (l : List ℕ) (i set : ℕ) where
  pub votes_named : i < length l → set % 2 ≡ 1 → votes_of (drop i l) set ≡ get_or l i 0 + votes_of (drop (i + 1) l) (set / 2)
  unfolding total
  votes_named h e = ap total (chosen-named l i 0 set h e)

  pub votes_passed : i < length l → (set % 2 ≡ 1 → ⊥) → votes_of (drop i l) set ≡ votes_of (drop (i + 1) l) (set / 2)
  votes_passed h e = ap total (chosen-passed l i 0 set h e)

  pub votes_past : length l ≤ i → votes_of (drop i l) set ≡ 0
  unfolding total
  votes_past h = ap total (chosen_past l i set h)

-- the digit of place n, for which there is room
pub one_shifted : (n : ℕ) → n ≤ 8 → (1 * 2 ^ n) % 2 ^ 32 ≡ 2 ^ n
one_shifted n h = shl_exact 1 n 32 (omega arith) (omega arith) ∙ one-mul (2 ^ n)

-- a test of all of a list, as an iterator makes it
pub all_list : {A : Type 0} (p : A → Bool) (l : List A) → list_all p l ≡ all p l
unfolding all
all_list p [] = refl
all_list p (a ∷ l) = ap (λ b. p a && b) (all_list p l)
