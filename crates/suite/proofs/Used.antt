-- Places gone through one by one: the first n are used, the others are not.
use mathlib.Core.Path.{◌≡◌, refl, ap, ◌∙◌}
use mathlib.Core.Logic.{◌⊎◌, inl, inr}
use mathlib.Core.List.{List, [], ◌∷◌}
use mathlib.Core.Bool.{Bool, true, false, ◌&&◌}
use Prim.Native.Nat.{ℕ, zero, suc, ◌+◌, ◌-◌, ◌≤◌, ◌<◌}
use native.Mathlib.Omega.{arith}
use native.Mathlib.Numerals.{add-one}
use lib.ListN.{length, take, drop, get_or, drop_of_length-le}
use lib.Seq.{drop-cons}
use Rattle.suite.specs.Sets.{all}

-- f of the first n, g of the others
unfoldable pub used_from : {A : Type 0} → (A → Bool) → (A → Bool) → ℕ → List A → Bool
used_from f g n [] = true
used_from f g zero (a ∷ l) = g a && used_from f g zero l
used_from f g (suc n) (a ∷ l) = f a && used_from f g n l

pub used_from_lem : {A : Type 0} (f g : A → Bool) (n : ℕ) (l : List A) → all f (take n l) && all g (drop n l) ≡ used_from f g n l
unfolding all used_from
used_from_lem f g zero [] = refl
used_from_lem f g (suc n) [] = refl
used_from_lem f g zero (a ∷ l) = ap (λ (b : Bool). g a && b) (used_from_lem f g zero l)
used_from_lem f g (suc n) (a ∷ l) = and_assoc (f a) (all f (take n l)) (all g (drop n l)) ∙ ap (λ (b : Bool). f a && b) (used_from_lem f g n l)
  where
    and_assoc : (x y z : Bool) → (x && y) && z ≡ x && (y && z)
    and_assoc true y z = refl
    and_assoc false y z = refl

module _ {A : Type 0} (f g : A → Bool) (n i : ℕ) (l : List A) where
  -- place i is used
  pub used-here : (d : A) → i < length l → i < n
      → used_from f g (n - i) (drop i l) ≡ f (get_or l i d) && used_from f g (n - (i + 1)) (drop (i + 1) l)
  unfolding used_from
  used-here d h k = let e : n - i ≡ suc (n - (i + 1)) = omega arith in rw (e, drop-cons l i d, add-one)

  -- place i is not
  pub unused-here : (d : A) → i < length l → n ≤ i
      → used_from f g (n - i) (drop i l) ≡ g (get_or l i d) && used_from f g (n - (i + 1)) (drop (i + 1) l)
  unfolding used_from
  unused-here d h k =
      let e : n - i ≡ 0 = omega arith in
      let z : n - (i + 1) ≡ 0 = omega arith in rw (e, z, drop-cons l i d, add-one)

  pub used-end : length l ≤ i → used_from f g (n - i) (drop i l) ≡ true
  unfolding used_from
  used-end h = rw (drop_of_length-le l)

-- b is what the test of place i gives
abbrev pub Tested : {A : Type 0} → (A → Bool) → (A → Bool) → ℕ → ℕ → A → Bool → Type 0
Tested f g n i a b = ((i < n) × (b ≡ f a)) ⊎ ((n ≤ i) × (b ≡ g a))

pub tested_here : {A : Type 0} (f g : A → Bool) (n i : ℕ) (l : List A) (d : A) (b : Bool) → i < length l → Tested f g n i (get_or l i d) b
    → used_from f g (n - i) (drop i l) ≡ b && used_from f g (n - (i + 1)) (drop (i + 1) l)
tested_here f g n i l d b h (inl (k, p)) = rw p (used-here f g n i l d h k)
tested_here f g n i l d b h (inr (k, p)) = rw p (unused-here f g n i l d h k)
