-- Readers one after another: where each matches what is written, so do they together.
-- Assumes nothing.
use Prim.Native.Nat.{ℕ, zero, suc, ◌*◌, ◌≤◌}
use native.Mathlib.Omega.{arith}
use mathlib.Core.Bool.{Bool, true, false}
use mathlib.Core.Path.{◌≡◌, refl, sym, ap, subst, ◌∙◌}
use mathlib.Core.List.{List, [], ◌∷◌, ◌++◌, flat_map}
use lib.ListN.{length, drop}
use Rattle.fields.specs.Bits.{bits_of}
use Rattle.image.specs.Layout.{Piece, bits_in}
use Rattle.image.specs.Reader.{Taken, took, fault, then, judged, several}
use Rattle.image.proofs.Matching.{At, Between, between-append, at_append, Reached, Matches}

-- what was taken first, where the whole was taken
record Went {A B : Type 0} (t : Taken A) (f : A → ℕ → Taken B) (b : B) (n : ℕ) : Type 0 where
  value : A
  place : ℕ
  first : t ≡ took value place
  rest : f value place ≡ took b n

went : {A B : Type 0} (t : Taken A) (f : A → ℕ → Taken B) (b : B) (n : ℕ) → then t f ≡ took b n → Went t f b n
unfolding then
went (took a m) f b n e = record { value = a; place = m; first = refl; rest = e }
went (fault k) f b n e = let z : ◌≡◌ {A = ℕ} 0 1 = cc in absurd (omega arith)

then_is : {A B : Type 0} (t : Taken A) (f : A → ℕ → Taken B) (a : A) (n : ℕ) → t ≡ took a n → then t f ≡ f a n
unfolding then
then_is t f a n e = rw e

-- ---- one reader, and another that depends on what it took

module _ {image : List ℕ} {A B : Type 0} {p : ℕ → Taken A} {P : A → List Piece} {OkP : A → Type 0} (first : B → A) (mp : Matches image p P OkP) where
  pub then-matches : {q : A → ℕ → Taken B} {Q : B → List Piece} {OkQ : A → B → Type 0} → ((a : A) (b : B) → OkP a → OkQ a b → first b ≡ a)
      → ((a : A) → Matches image (q a) Q (OkQ a))
      → Matches image (λ at. then (p at) q) (λ b. P (first b) ++ Q b) (λ b. OkP (first b) × OkQ (first b) b)
  then-matches {q} {Q} {OkQ} same mq = record { back = go-back; only = go-only }
    where
      go-back : (b : B) (at : ℕ) (l : List ℕ) → OkP (first b) × OkQ (first b) b → At image at (bits_in (P (first b) ++ Q b) ++ l)
          → Reached image (then (p at) q) b l
      go-back b at l h k =
          let s = mp.back (first b) at (bits_in (Q b) ++ l) h.0 (at_append image at (P (first b)) (Q b) l k) in
          let t = (mq (first b)).back b s.place l h.1 s.from in
          record { place = t.place; is = then_is (p at) q (first b) s.place s.is ∙ t.is; from = t.from }

      go-only : (b : B) (at n : ℕ) → then (p at) q ≡ took b n
          → (OkP (first b) × OkQ (first b) b) × (at ≤ 8 * length image → Between image at n (P (first b) ++ Q b))
      go-only b at n e =
          let g = went (p at) q b n e in
          let s = mp.only g.value at g.place g.first in
          let t = (mq g.value).only b g.place n g.rest in
          subst (λ (a : A). (OkP a × OkQ a b) × (at ≤ 8 * length image → Between image at n (P a ++ Q b)))
          (sym (same g.value b s.0 t.0))
          ((s.0, t.0), λ h. between-append image at g.place n (P g.value) (Q b) (s.1 h) (t.1 (s.1 h).within))

  -- the last reader, and what is made of all that was taken
  pub made-matches : {f : A → B} → ((a : A) → OkP a → first (f a) ≡ a)
      → Matches image (λ at. then (p at) (λ a n. took (f a) n)) (λ b. P (first b)) (λ b. OkP (first b) × (b ≡ f (first b)))
  made-matches {f} same = record { back = go-back; only = go-only }
    where
      go-back : (b : B) (at : ℕ) (l : List ℕ) → OkP (first b) × (b ≡ f (first b)) → At image at (bits_in (P (first b)) ++ l)
          → Reached image (then (p at) (λ a n. took (f a) n)) b l
      go-back b at l h k =
          let s = mp.back (first b) at l h.0 k in
          record {
            place = s.place;
            is = then_is (p at) (λ a n. took (f a) n) (first b) s.place s.is ∙ ap (λ (c : B). took c s.place) (sym h.1);
            from = s.from;
          }

      go-only : (b : B) (at n : ℕ) → then (p at) (λ a n. took (f a) n) ≡ took b n
          → (OkP (first b) × (b ≡ f (first b))) × (at ≤ 8 * length image → Between image at n (P (first b)))
      go-only b at n e =
          let g = went (p at) (λ a n. took (f a) n) b n e in
          let s = mp.only g.value at g.place g.first in
          let r : took (f g.value) g.place ≡ took b n = g.rest in
          let eb : f g.value ≡ b = cc in
          let en : g.place ≡ n = cc in
          let ea : g.value ≡ first b = sym (same g.value s.0) ∙ ap first eb in (
            (subst OkP ea s.0, sym eb ∙ ap f ea),
            λ h. subst (λ (m : ℕ). Between image at m (P (first b))) en (subst (λ (a : A). Between image at g.place (P a)) ea (s.1 h)),
          )

-- ---- a test of what was taken

pub judged_matches : {image : List ℕ} {A : Type 0} {p : ℕ → Taken A} {P : A → List Piece} {Ok : A → Type 0} (t : Bool) (n : ℕ)
    → Matches image p P Ok → Matches image (λ at. judged t n (p at)) P (λ a. (t ≡ true) × Ok a)
unfolding judged
judged_matches true n m = record {
  back = λ a at l h k. m.back a at l h.1 k;
  only = λ a at i e. let s = m.only a at i e in ((refl, s.0), s.1);
}
judged_matches {image} {A} {p} {P} {Ok} false n m = record {
  back = λ a at l h k. let f = h.0 in let z : ◌≡◌ {A = ℕ} 0 1 = cc in absurd (omega arith);
  only = λ a at i e. let z : ◌≡◌ {A = ℕ} 0 1 = cc in absurd (omega arith);
}

-- ---- several, each with a number from the one before

-- each of a list is Ok with the number from the one before it
unfoldable pub Each : {A : Type 0} → (ℕ → A → Type 0) → (A → ℕ) → ℕ → List A → Type 0
Each Ok next x [] = Unit {0}
Each Ok next x (a ∷ l) = Ok x a × Each Ok next (next a) l

pub record Severally {A : Type 0} (Ok : ℕ → A → Type 0) (next : A → ℕ) (k x : ℕ) (l : List A) : Type 0 where
  pub many : length l ≡ k
  pub each : Each Ok next x l

module _ {image : List ℕ} {A : Type 0} {read : ℕ → ℕ → Taken A} {P : A → List Piece} {Ok : ℕ → A → Type 0} (next : A → ℕ)
    (m : (x : ℕ) → Matches image (read x) P (Ok x)) where
  abbrev more : ℕ → A → ℕ → Taken (List A)
  more k a at = then (several read next k (next a) at) (λ l n. took (a ∷ l) n)

  several-back : (k x : ℕ) (l : List A) (at : ℕ) (r : List ℕ) → Severally Ok next k x l → At image at (bits_in (flat_map P l) ++ r)
      → Reached image (several read next k x at) l r
  unfolding several flat_map Each bits_in
  several-back zero x [] at r h k = record { place = at; is = refl; from = k }
  several-back zero x (a ∷ l) at r h k = absurd (omega (arith, h.many))
  several-back (suc n) x [] at r h k = absurd (omega (arith, h.many))
  several-back (suc n) x (a ∷ l) at r h k =
      let s = (m x).back a at (bits_in (flat_map P l) ++ r) h.each.0 (at_append image at (P a) (flat_map P l) r k) in
      let t = several-back n (next a) l s.place r record { many = omega (arith, h.many); each = h.each.1 } s.from in
      record {
        place = t.place;
        is =
            then_is (read x at) (more n) a s.place s.is
            ∙ then_is (several read next n (next a) s.place) (λ b i. took (a ∷ b) i) l t.place t.is;
        from = t.from;
      }

  several-only : (k x : ℕ) (l : List A) (at n : ℕ) → several read next k x at ≡ took l n
      → Severally Ok next k x l × (at ≤ 8 * length image → Between image at n (flat_map P l))
  unfolding several flat_map Each bits_in
  several-only zero x l at n e =
      let el : [] ≡ l = cc in
      let en : at ≡ n = cc in
      subst (λ (b : List A). Severally Ok next zero x b × (at ≤ 8 * length image → Between image at n (flat_map P b))) el (
        record { many = refl; each = tt },
        λ h. record { within = omega arith; rest = ap (λ (i : ℕ). drop i (bits_of image)) en },
      )
  several-only (suc k) x l at n e =
      let g = went (read x at) (more k) l n e in
      let s = (m x).only g.value at g.place g.first in
      let f = went (several read next k (next g.value) g.place) (λ b i. took (g.value ∷ b) i) l n g.rest in
      let t = several-only k (next g.value) f.value g.place f.place f.first in
      let el : g.value ∷ f.value ≡ l = cc f.rest in
      let en : f.place ≡ n = cc f.rest in
      subst (λ (b : List A). Severally Ok next (suc k) x b × (at ≤ 8 * length image → Between image at n (flat_map P b))) el (
        record { many = ap suc t.0.many; each = (s.0, t.0.each) },
        λ h. subst (λ (i : ℕ). Between image at i (P g.value ++ flat_map P f.value)) en
            (between-append image at g.place f.place (P g.value) (flat_map P f.value) (s.1 h) (t.1 (s.1 h).within)),
      )

  pub several-matches : (k x : ℕ) → Matches image (several read next k x) (flat_map P) (Severally Ok next k x)
  several-matches k x = record {
    back = λ l at r h i. several-back k x l at r h i;
    only = λ l at n e. several-only k x l at n e;
  }
