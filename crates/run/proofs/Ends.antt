-- The search for a newline: the bytes passed and those ahead up to it are all. Assumes nothing.
use Rattle.std.proofs.Common.{◌≡◌, refl, sym, ◌∙◌, ap, true, false, Bool, ℕ, zero, suc, ◌+◌, ◌-◌, ◌≤◌, ◌<◌, add-one, arith, List, [], ◌∷◌, length, get_or, drop, length-drop, get_or-drop, eqb, cond, eq-eqb, ne_eqb}
use Rattle.std.proofs.lemmas.List.{drop_more}
use Rattle.run.specs.Course.{newline, end_in}

pub at_newline : (l : List ℕ) (i : ℕ) → i < length l → get_or l i 0 ≡ 10 → end_in (drop i l) ≡ 0
unfolding end_in newline
at_newline l i h e = rw (drop_more l i 0 h, eq-eqb (get_or l i 0) 10 e)

pub at_other : (l : List ℕ) (i : ℕ) → i < length l → (get_or l i 0 ≡ 10 → ⊥) → end_in (drop i l) ≡ end_in (drop (i + 1) l) + 1
unfolding end_in newline
at_other l i h e = rw (drop_more l i 0 h, ne_eqb (get_or l i 0) 10 e) (sym (add-one (end_in (drop (i + 1) l))))

-- on the way to a newline that is ahead
module _ (l : List ℕ) (i : ℕ) (h : i + end_in (drop i l) < length l) (e : get_or l i 0 ≡ 10 → ⊥) where
  pub passed : end_in (drop i l) ≡ end_in (drop (i + 1) l) + 1
  passed = at_other l i (omega arith) e

  pub passed-two : (get_or l (i + 1) 0 ≡ 10 → ⊥) → end_in (drop i l) ≡ end_in (drop (i + 2) l) + 2
  passed-two f =
      let n : i + 1 + 1 ≡ i + 2 = omega arith in
      let p = at_other l (i + 1) (omega (arith, passed)) f ∙ ap (λ (m : ℕ). end_in (drop m l) + 1) n in
      omega (arith, passed, p)

-- no byte is a newline
none_in : (l : List ℕ) → ((k : ℕ) → k < length l → get_or l k 0 ≡ 10 → ⊥) → end_in l ≡ length l
unfolding end_in newline
none_in [] f = refl
none_in (x ∷ l) f = rw (ne_eqb x 10 (f 0 (omega arith))) (ap suc (none_in l (λ k h. f (suc k) (omega arith))))

-- a newline ends what is before it
first_in : (l : List ℕ) (k : ℕ) → k < length l → get_or l k 0 ≡ 10 → end_in l ≤ k
unfolding end_in newline
first_in [] k h e = absurd (omega arith)
first_in (x ∷ l) zero h e = rw (eq-eqb x 10 e) (omega arith)
first_in (x ∷ l) (suc k) h e = go (eqb x 10) (first_in l k (omega arith) e)
  where
    go : (t : Bool) → end_in l ≤ k → cond t 0 (suc (end_in l)) ≤ suc k
    go true m = omega arith
    go false m = omega arith

-- the same of what is behind a place
module _ (l : List ℕ) (at : ℕ) where
  pub none-ahead : at ≤ length l → ((k : ℕ) → at ≤ k → k < length l → get_or l k 0 ≡ 10 → ⊥) → at + end_in (drop at l) ≡ length l
  none-ahead h f =
      let none = none_in (drop at l) (λ k m e. f (at + k) (omega arith) (omega (arith, length-drop at l)) (sym (get_or-drop at l k 0) ∙ e)) in
      omega (arith, none, length-drop at l)

  pub newline-ahead : (i : ℕ) → at ≤ i → i < length l → get_or l i 0 ≡ 10 → at + end_in (drop at l) ≤ i
  newline-ahead i h k e =
      let n : at + (i - at) ≡ i = omega arith in
      let first = first_in (drop at l) (i - at) (omega (arith, length-drop at l)) (get_or-drop at l (i - at) 0 ∙ ap (λ (m : ℕ). get_or l m 0) n ∙ e) in
      omega (arith, first)
