-- An array filled one place after another.
use mathlib.Core.Path.{◌≡◌, ap, sym, ◌∙◌}
use mathlib.Core.List.{List}
use mathlib.Core.Logic.{◌⊎◌, inl, inr}
use Prim.Native.Nat.{ℕ, ◌+◌, ◌≤◌, ◌<◌}
use native.Mathlib.Omega.{arith}
use lib.ListN.{length, get_or, set}
use Rattle.std.proofs.lemmas.Bool.{cases_lt}
use Rattle.std.proofs.lemmas.List.{get_or-set_same, get_or-set_other, length-set, ext_get_or}

-- the n places hold what they should below place i
pub record Filled {A : Type 0} (d : A) (n : ℕ) (want : ℕ → A) (xs : List A) (i : ℕ) : Type 0 where
  pub all : length xs ≡ n
  pub below : (j : ℕ) → j < i → get_or xs j d ≡ want j

module _ {A : Type 0} (d : A) (n : ℕ) (want : ℕ → A) (xs : List A) where
  pub filled_none : length xs ≡ n → Filled d n want xs 0
  filled_none e = record { all = e; below = λ j k. absurd (omega arith) }

  pub filled_more : (i : ℕ) (x : A) → i < n → Filled d n want xs i → x ≡ want i → Filled d n want (set xs i x) (i + 1)
  filled_more i x h s e = record { all = length-set xs i x ∙ s.all; below = λ j k. go j k (cases_lt j i) }
    where
      go : (j : ℕ) → j < i + 1 → (j < i) ⊎ (i ≤ j) → get_or (set xs i x) j d ≡ want j
      go j k (inl m) = get_or-set_other xs i j x d (λ q. omega arith) ∙ s.below j m
      go j k (inr m) =
          let q : j ≡ i = omega arith in
          ap (λ (p : ℕ). get_or (set xs i x) p d) q ∙ get_or-set_same xs i x d (omega (arith, s.all)) ∙ e ∙ ap want (sym q)

  pub filled_all : (i : ℕ) (ys : List A) → n ≤ i → Filled d n want xs i → length ys ≡ n
      → ((j : ℕ) → j < n → get_or ys j d ≡ want j) → xs ≡ ys
  filled_all i ys h s e w =
      ext_get_or d xs ys (s.all ∙ sym e) (λ j k. s.below j (omega (arith, s.all)) ∙ sym (w j (omega (arith, s.all))))
