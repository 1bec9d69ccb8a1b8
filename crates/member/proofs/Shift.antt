-- Rows that others take the place of, one after another; and the part of the places that the entries from one on fill.
use mathlib.Core.Path.{◌≡◌, ap, sym, ◌∙◌}
use mathlib.Core.List.{List, ◌∷◌, ◌++◌}
use Prim.Native.Nat.{ℕ, suc, ◌+◌, ◌-◌, ◌≤◌, ◌<◌}
use native.Mathlib.Omega.{arith}
use native.Mathlib.Numerals.{add-one}
use lib.ListN.{length, take, drop, get_or, set, length-append, length-take, length-drop}
use lib.Seq.{take-suc, drop-cons, append_snoc, set_at, take_at, drop-append-le, length-take-le, get_or-append-add, get_or-drop}

module _ {A : Type 0} where
  -- from below: the target up to place i, and then what was there
  pub over-up : (t l : List A) (i : ℕ) (d : A) → i < length t → i < length l
      → set (take i t ++ drop i l) i (get_or t i d) ≡ take (i + 1) t ++ drop (i + 1) l
  over-up t l i d h k =
      rw (add-one, take-suc t i d, drop-cons l i d, append_snoc, set_at (take i t) (get_or l i d) (drop (suc i) l) (get_or t i d) i (length-take-le i t (omega arith)))

  -- what is not overwritten yet is as it was
  pub over-above : (t l : List A) (i j : ℕ) (d : A) → i ≤ length t → i ≤ j → get_or (take i t ++ drop i l) j d ≡ get_or l j d
  over-above t l i j d h k =
      let e : length (take i t) + (j - i) ≡ j = rw (length-take-le i t h) (omega arith) in
      let f : i + (j - i) ≡ j = omega arith in
      sym (ap (λ (n : ℕ). get_or (take i t ++ drop i l) n d) e)
      ∙ get_or-append-add (take i t) (drop i l) (j - i) d
      ∙ get_or-drop i l (j - i) d
      ∙ ap (λ (n : ℕ). get_or l n d) f

  -- the part of l ++ u from place i on up to where l ends
  pub end-of-first : (l u : List A) (i : ℕ) → i ≤ length l → take (length l - i) (drop i (l ++ u)) ≡ drop i l
  end-of-first l u i h = rw (drop-append-le i l u h) (take_at (drop i l) u (length l - i) (length-drop i l))

  -- with a row put in there is one more
  pub length_more : (l : List A) (r : A) (i : ℕ) → i ≤ length l → length (take i l ++ (r ∷ drop i l)) ≡ length l + 1
  length_more l r i h = simp (length-append, length-take, length-drop) (omega arith)
