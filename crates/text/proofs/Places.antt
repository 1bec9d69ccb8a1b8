-- Going along a line from place to place is going through its words. Assumes nothing.
use mathlib.Core.Path.{◌≡◌, refl, sym, ◌∙◌, ap}
use Prim.Native.Nat.{ℕ, zero, suc, ◌+◌, ◌-◌, ◌≤◌, ◌<◌}
use native.Mathlib.Nat.{zero-add, suc-add, add_assoc, not-suc-le-zero, le_of_suc-le-suc}
use native.Mathlib.Omega.{arith}
use mathlib.Core.List.{List, [], ◌∷◌}
use mathlib.Core.Bool.{Bool, true, false, cond}
use Rattle.std.specs.Prelude.{Option, None, Some}
use native.Mathlib.Numerals.{add-one}
use lib.ListN.{length, get_or, drop, length-drop}
use lib.Seq.{drop-cons}
use lib.Dec.{leb, eqb, leb-suc-suc}
use borrow.Author.Tests.{le-leb, lt-leb, leb-true, leb-false}
use Rattle.text.specs.Words.{words, onto}
use Rattle.text.specs.Line.{with_word, given}
use Rattle.text.specs.Scan.{words_from, first, found_then, found_in, found_at}
use Rattle.text.specs.declared.scan.Found.{Found}

-- the bytes from a place on begin with the byte there
pub byte_at : (l : List ℕ) (i : ℕ) → i < length l → drop i l ≡ get_or l i 0 ∷ drop (i + 1) l
byte_at l i h = drop-cons l i 0 h ∙ ap (λ (n : ℕ). get_or l i 0 ∷ drop n l) (sym (add-one i))

-- the words behind the first
unfoldable pub others : List ℕ → List (List ℕ)
others [] = []
others (b ∷ l) = cond (eqb b 32) (words l) (others l)

pub words_are : (l : List ℕ) → words l ≡ first l ∷ others l
unfolding words first others onto
words_are [] = refl
words_are (b ∷ l) = go (eqb b 32) (words_are l)
  where
    go : (t : Bool) → words l ≡ first l ∷ others l
        → cond t ([] ∷ words l) (onto b (words l)) ≡ cond t [] (b ∷ first l) ∷ cond t (words l) (others l)
    go true e = refl
    go false e = rw e

pub from_start : (l : List ℕ) → words_from l 0 ≡ words l
unfolding words_from
from_start l = rw (le-leb 0 (length l) (omega arith))

pub from_cons : (b : ℕ) (l : List ℕ) (k : ℕ) → words_from (b ∷ l) (suc k) ≡ words_from l k
unfolding words_from
from_cons b l k = rw (leb-suc-suc k (length l))

pub from_past : (l : List ℕ) (k : ℕ) → length l < k → words_from l k ≡ []
unfolding words_from
from_past l k h = rw (lt-leb k (length l) h)

pub from_within : (l : List ℕ) (k : ℕ) → k ≤ length l → words_from l k ≡ first (drop k l) ∷ others (drop k l)
unfolding words_from
from_within l k h = rw (le-leb k (length l) h, words_are (drop k l))

-- the others begin one past the first word
pub others_are : (l : List ℕ) → others l ≡ words_from l (length (first l) + 1)
unfolding others first
others_are [] = sym (from_past [] 1 (omega arith))
others_are (b ∷ l) = go (eqb b 32) (others_are l)
  where
    go : (t : Bool) → others l ≡ words_from l (length (first l) + 1)
        → cond t (words l) (others l) ≡ words_from (b ∷ l) (length (cond t [] (b ∷ first l)) + 1)
    go true e = sym (from_cons b l 0 ∙ from_start l)
    go false e = e ∙ sym (ap (words_from (b ∷ l)) (suc-add (length (first l)) 1) ∙ from_cons b l (length (first l) + 1))

from_add : (at : ℕ) (l : List ℕ) (k : ℕ) → at ≤ length l → words_from (drop at l) k ≡ words_from l (at + k)
from_add zero l k h = rw zero-add
from_add (suc at) [] k h = absurd (not-suc-le-zero h)
from_add (suc at) (b ∷ l) k h =
    from_add at l k (le_of_suc-le-suc h) ∙ sym (ap (words_from (b ∷ l)) (suc-add at k) ∙ from_cons b l (at + k))

-- the place of the next word
pub next_word : (line : List ℕ) (at : ℕ) → at ≤ length line
    → others (drop at line) ≡ words_from line (at + length (first (drop at line)) + 1)
next_word line at h =
    others_are (drop at line)
    ∙ (from_add at line (length (first (drop at line)) + 1) h
    ∙ ap (words_from line) (sym (add_assoc at (length (first (drop at line))) 1)))

-- the first word ends within the line
first_within : (l : List ℕ) → length (first l) ≤ length l
unfolding first
first_within [] = omega arith
first_within (b ∷ l) = go (eqb b 32) (first_within l)
  where
    go : (t : Bool) → length (first l) ≤ length l → length (cond t [] (b ∷ first l)) ≤ suc (length l)
    go true h = omega arith
    go false h = omega arith

-- what a word that was read at a place says of the words from there on
pub record Step {A : Type 0} (read : List ℕ → Option A) (line : List ℕ) (at : ℕ) (a : A) (end : ℕ) : Type 0 where
  pub beyond : at ≤ end
  pub within : end ≤ length line
  pub words : words_from line at ≡ first (drop at line) ∷ words_from line (end + 1)
  pub reads : read (first (drop at line)) ≡ Some a

module _ {A : Type 0} (read : List ℕ → Option A) (line : List ℕ) (at : ℕ) where
  -- what is found at a place within the line
  pub found_within : at ≤ length line
      → found_at read line at ≡ found_then (read (first (drop at line))) (at + length (first (drop at line)))
  unfolding found_at found_in
  found_within h = rw (from_within line at h)

  pub found-past : length line < at → found_at read line at ≡ None
  unfolding found_at found_in
  found-past h = rw (from_past line at h)

  pub stepped : (f : Found A) → found_at read line at ≡ Some f → Step read line at f.it f.end
  unfolding found_then
  stepped f e = place (leb at (length line)) refl
    where
      word : at ≤ length line → (o : Option A) → read (first (drop at line)) ≡ o
          → found_then o (at + length (first (drop at line))) ≡ Some f → Step read line at f.it f.end
      word h None p q = absurd (let z : ◌≡◌ {A = ℕ} 0 1 = cc in omega arith)
      word h (Some b) p q =
          let same : ◌≡◌ {A = Found A} (record { it = b; end = at + length (first (drop at line)) }) f = cc in
          let then : at + length (first (drop at line)) ≡ f.end = ap (λ (f : Found A). f.end) same in
          let short : length (first (drop at line)) ≤ length line - at = rw length-drop at (first_within (drop at line)) in
          record {
            beyond = omega arith;
            within = omega arith;
            words = rw (from_within line at h, next_word line at h, then);
            reads = p ∙ ap (λ (f : Found A). Some f.it) same;
          }

      place : (t : Bool) → leb at (length line) ≡ t → Step read line at f.it f.end
      place true t = word (leb-true at (length line) t) (read (first (drop at line))) refl (sym (found_within (leb-true at (length line) t)) ∙ e)
      place false t = absurd (let z : ◌≡◌ {A = ℕ} 0 1 = cc (found-past (leb-false at (length line) t)) in omega arith)

module _ {A R : Type 0} (read : List ℕ → Option A) (line : List ℕ) (at : ℕ) where
  pub goes : {a : A} {end : ℕ} → Step read line at a end
      → (f : A → List (List ℕ) → Option R) → with_word read (words_from line at) f ≡ f a (words_from line (end + 1))
  unfolding with_word given
  goes s f = rw (s.words, s.reads)

  pub stopped : found_at read line at ≡ None → (f : A → List (List ℕ) → Option R) → with_word read (words_from line at) f ≡ None
  unfolding found_then with_word given
  stopped e f = place (leb at (length line)) refl
    where
      word : at ≤ length line → (o : Option A) → read (first (drop at line)) ≡ o
          → found_then o (at + length (first (drop at line))) ≡ None → with_word read (words_from line at) f ≡ None
      word h None p q = rw (from_within line at h, p)
      word h (Some b) p q = absurd (let z : ◌≡◌ {A = ℕ} 0 1 = cc in omega arith)

      place : (t : Bool) → leb at (length line) ≡ t → with_word read (words_from line at) f ≡ None
      place true t = word (leb-true at (length line) t) (read (first (drop at line))) refl (sym (found_within read line at (leb-true at (length line) t)) ∙ e)
      place false t = rw (from_past line at (leb-false at (length line) t))
