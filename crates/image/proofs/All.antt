-- A test of every element of a list: of its parts, of a joint, and element by element.
-- Assumes nothing.
use Prim.Native.Nat.{ℕ, zero, suc}
use mathlib.Core.Bool.{Bool, true, and-eq-true_iff}
use mathlib.Core.Path.{◌≡◌, refl, ap₂}
use mathlib.Core.List.{List, [], ◌∷◌, ◌++◌}
use lib.ListN.{length, take, drop, replicate}
use Rattle.suite.specs.Sets.{all}
use Rattle.image.proofs.Sequence.{Each}

module _ {A : Type 0} (f : A → Bool) where
  pub all_cons : (a : A) (l : List A) → all f (a ∷ l) ≡ true → (f a ≡ true) × (all f l ≡ true)
  unfolding all
  all_cons a l h = (and-eq-true_iff (f a) (all f l)).0 h

  pub cons-all : (a : A) (l : List A) → f a ≡ true → all f l ≡ true → all f (a ∷ l) ≡ true
  unfolding all
  cons-all a l h k = rw h k

  pub all_append : (l m : List A) → all f l ≡ true → all f m ≡ true → all f (l ++ m) ≡ true
  all_append [] m h k = k
  all_append (a ∷ l) m h k = let p = all_cons a l h in cons-all a (l ++ m) p.0 (all_append l m p.1 k)

  pub all_replicate : (n : ℕ) (a : A) → f a ≡ true → all f (replicate n a) ≡ true
  unfolding all
  all_replicate zero a h = refl
  all_replicate (suc n) a h = cons-all a (replicate n a) h (all_replicate n a h)

  pub all_take : (n : ℕ) (l : List A) → all f l ≡ true → all f (take n l) ≡ true
  unfolding all
  all_take zero l h = refl
  all_take (suc n) [] h = refl
  all_take (suc n) (a ∷ l) h = let p = all_cons a l h in cons-all a (take n l) p.0 (all_take n l p.1)

  pub all_drop : (n : ℕ) (l : List A) → all f l ≡ true → all f (drop n l) ≡ true
  unfolding all
  all_drop zero l h = h
  all_drop (suc n) [] h = refl
  all_drop (suc n) (a ∷ l) h = all_drop n l (all_cons a l h).1

  -- where the test leaves one value, the list repeats it
  pub all_same : (d : A) → ((a : A) → f a ≡ true → a ≡ d) → (l : List A) → all f l ≡ true → l ≡ replicate (length l) d
  all_same d g [] h = refl
  all_same d g (a ∷ l) h =
      let p = all_cons a l h in ap₂ {C = List A} (λ (b : A) (m : List A). b ∷ m) (g a p.0) (all_same d g l p.1)

-- two tests at once
pub all_both : {A : Type 0} (f g h : A → Bool) → ((a : A) → f a ≡ true → g a ≡ true → h a ≡ true) → (l : List A)
    → all f l ≡ true → all g l ≡ true → all h l ≡ true
unfolding all
all_both f g h t [] p q = refl
all_both f g h t (a ∷ l) p q =
    let r = all_cons f a l p in
    let s = all_cons g a l q in
    cons-all h a l (t a r.0 s.0) (all_both f g h t l r.1 s.1)

-- the test and what it means
module _ {A : Type 0} (f : A → Bool) (Ok : A → Type 0) (next : A → ℕ) where
  pub each_all : ((a : A) → Ok a → f a ≡ true) → (x : ℕ) (l : List A) → Each (λ y. Ok) next x l → all f l ≡ true
  unfolding all Each
  each_all t x [] h = refl
  each_all t x (a ∷ l) h = cons-all f a l (t a h.0) (each_all t (next a) l h.1)

  pub all-each : ((a : A) → f a ≡ true → Ok a) → (x : ℕ) (l : List A) → all f l ≡ true → Each (λ y. Ok) next x l
  unfolding Each
  all-each t x [] h = tt
  all-each t x (a ∷ l) h = let p = all_cons f a l h in (t a p.0, all-each t (next a) l p.1)
