-- The numbers that the code reads digit by digit are those that the words write. Assumes nothing.
use mathlib.Core.Path.{◌≡◌, refl, ◌∙◌, ap}
use Prim.Native.Nat.{ℕ, suc, ◌+◌, ◌-◌, ◌*◌, ◌≤◌, ◌<◌}
use native.Mathlib.Nat.{zero-add, add-zero}
use native.Mathlib.Omega.{arith}
use mathlib.Core.List.{List, [], ◌∷◌}
use mathlib.Core.Bool.{Bool, true, false, cond, ◌&&◌}
use Rattle.std.specs.Prelude.{Option, None, Some}
use lib.ListN.{length, get_or, drop, drop_of_length-le}
use lib.Dec.{leb, eqb}
use borrow.Author.Tests.{le-leb, lt-leb, eq-eqb, ne_eqb, eqb-true, eqb-false}
use Rattle.text.specs.Words.{is_digit, decimals, value_from, unpadded, numeral, largest}
use Rattle.text.specs.Scan.{first, empty, number_on, found_then}
use Rattle.text.proofs.Places.{byte_at}
use Rattle.text.specs.declared.scan.Found.{Found}

-- a number that ends at a place
abbrev pub number : ℕ → ℕ → Option (Found ℕ)
number n end = Some (record { it = n; end = end })

-- digits only make a number larger
value_grows : (v : ℕ) (w : List ℕ) → v ≤ value_from v w
unfolding value_from
value_grows v [] = omega arith
value_grows v (b ∷ w) = let h = value_grows (v * 10 + (b - 48)) w in omega arith

pub and_false : (b : Bool) → b && false ≡ false
and_false true = refl
and_false false = refl

is_digit_lem : (b : ℕ) → 48 ≤ b → b < 58 → is_digit b ≡ true
unfolding is_digit
is_digit_lem b h k = rw (le-leb 48 b h, le-leb b 57 (omega arith))

pub no_digit_below : (b : ℕ) → b < 48 → is_digit b ≡ false
unfolding is_digit
no_digit_below b h = rw (lt-leb 48 b h)

pub no_digit_above : (b : ℕ) → 58 ≤ b → is_digit b ≡ false
unfolding is_digit
no_digit_above b h = rw (lt-leb b 57 h, and_false (leb 48 b))

-- the first word of a list that begins with a space, and of one that does not
pub first_space : (l : List ℕ) → first (32 ∷ l) ≡ []
unfolding first
first_space l = refl

pub first_more : (b : ℕ) (l : List ℕ) → (b ≡ 32 → ⊥) → first (b ∷ l) ≡ b ∷ first l
unfolding first
first_more b l h = rw (ne_eqb b 32 h)

on_large : (v at : ℕ) (l : List ℕ) → largest < v → number_on v at l ≡ None
unfolding number_on
on_large v at l h =
    let g = value_grows v (first l) in
    rw (lt-leb (value_from v (first l)) largest (omega arith), and_false (decimals (first l)))

on_end : (v at : ℕ) → v ≤ largest → number_on v at [] ≡ number v at
unfolding number_on first decimals value_from
on_end v at h = rw (le-leb v largest h, add-zero at)

on_space : (v at b : ℕ) (l : List ℕ) → b ≡ 32 → v ≤ largest → number_on v at (b ∷ l) ≡ number v at
unfolding number_on first decimals value_from
on_space v at b l e h = rw (eq-eqb b 32 e, le-leb v largest h, add-zero at)

on_digit : (v at b : ℕ) (l : List ℕ) → 48 ≤ b → b < 58
    → number_on v at (b ∷ l) ≡ number_on (v * 10 + (b - 48)) (at + 1) l
unfolding number_on decimals value_from
on_digit v at b l h k = rw (first_more b l (λ e. omega arith), is_digit_lem b h k, past at (length (first l)))
  where
    past : (a n : ℕ) → a + suc n ≡ a + 1 + n
    past a n = omega arith

on_other : (v at b : ℕ) (l : List ℕ) → (b ≡ 32 → ⊥) → is_digit b ≡ false → number_on v at (b ∷ l) ≡ None
unfolding number_on decimals
on_other v at b l h e = rw (first_more b l h, e)

-- the same at a place of a line
module _ (line : List ℕ) (v i : ℕ) (h : i < length line) where
  pub digit_at : 48 ≤ get_or line i 0 → get_or line i 0 < 58
      → number_on v i (drop i line) ≡ number_on (v * 10 + (get_or line i 0 - 48)) (i + 1) (drop (i + 1) line)
  digit_at a b = ap (number_on v i) (byte_at line i h) ∙ on_digit v i (get_or line i 0) (drop (i + 1) line) a b

  pub large-at : 48 ≤ get_or line i 0 → get_or line i 0 < 58 → {d : ℕ} → d ≡ get_or line i 0 - 48 → largest < v * 10 + d
      → number_on v i (drop i line) ≡ None
  large-at a b e k = digit_at a b ∙ on_large (v * 10 + (get_or line i 0 - 48)) (i + 1) (drop (i + 1) line) (rw e at k)

  pub space-at : get_or line i 0 ≡ 32 → v ≤ largest → number_on v i (drop i line) ≡ number v i
  space-at e k = ap (number_on v i) (byte_at line i h) ∙ on_space v i (get_or line i 0) (drop (i + 1) line) e k

  pub other_at : (get_or line i 0 ≡ 32 → ⊥) → is_digit (get_or line i 0) ≡ false → number_on v i (drop i line) ≡ None
  other_at e k = ap (number_on v i) (byte_at line i h) ∙ on_other v i (get_or line i 0) (drop (i + 1) line) e k

pub end_at_lem : (line : List ℕ) (v i : ℕ) → length line ≤ i → v ≤ largest → number_on v i (drop i line) ≡ number v i
end_at_lem line v i h k = ap (number_on v i) (drop_of_length-le line h) ∙ on_end v i k

-- the number of the first word of l, at a place
unfoldable pub number_here : ℕ → List ℕ → Option (Found ℕ)
number_here at l = found_then (numeral (first l)) (at + length (first l))

pushed : (t : Bool) (n p : ℕ) → found_then (cond t (Some n) None) p ≡ cond t (number n p) None
unfolding found_then
pushed true n p = refl
pushed false n p = refl

numeral-empty : numeral [] ≡ None
unfolding numeral unpadded
numeral-empty = refl

pub here_empty : (at : ℕ) → number_here at [] ≡ None
unfolding number_here first found_then
here_empty at = rw numeral-empty

-- a first digit that is no zero: the others follow
unpadded_more : (b : ℕ) (w : List ℕ) → (b ≡ 48 → ⊥) → unpadded (b ∷ w) ≡ true
unfolding unpadded
unpadded_more b [] h = refl
unpadded_more b (c ∷ w) h = rw (ne_eqb b 48 h)

-- a first digit
value_first : (b : ℕ) (w : List ℕ) → value_from 0 (b ∷ w) ≡ value_from (b - 48) w
unfolding value_from
value_first b w = ap (λ (n : ℕ). value_from n w) (zero-add (b - 48))

pub here_digit : (at b : ℕ) (l : List ℕ) → 48 ≤ b → (b ≡ 48 → ⊥) → b < 58 → number_here at (b ∷ l) ≡ number_on (b - 48) (at + 1) l
unfolding number_here numeral number_on decimals
here_digit at b l h n k =
    rw (
      first_more b l (λ e. omega arith),
      pushed,
      unpadded_more b (first l) n,
      is_digit_lem b h k,
      value_first b (first l),
      past at (length (first l)),
    )
  where
    past : (a n : ℕ) → a + suc n ≡ a + 1 + n
    past a n = omega arith

-- a zero stands alone
pub here_zero : (at b : ℕ) (l : List ℕ) → b ≡ 48 → number_here at (b ∷ l) ≡ cond (empty (first l)) (number 0 (at + 1)) None
unfolding number_here numeral unpadded decimals is_digit value_from found_then empty
here_zero at b l e = rw (e, first_more 48 l (λ q. omega arith)) (then (first l))
  where
    then : (w : List ℕ) → found_then (numeral (48 ∷ w)) (at + length (48 ∷ w)) ≡ cond (empty w) (number 0 (at + 1)) None
    then [] = refl
    then (c ∷ w) = refl

-- any other byte begins no number
pub here_other : (at b : ℕ) (l : List ℕ) → is_digit b ≡ false → number_here at (b ∷ l) ≡ None
unfolding number_here numeral decimals found_then
here_other at b l e = go (eqb b 32) refl
  where
    go : (t : Bool) → eqb b 32 ≡ t → number_here at (b ∷ l) ≡ None
    go true q = rw (eqb-true b 32 q, first_space l, numeral-empty)
    go false q = rw (first_more b l (eqb-false b 32 q), pushed, e, and_false (unpadded (b ∷ first l)))
