-- What the code finds at a place of a line, a number or a set, is what the word there writes. Assumes nothing.
use mathlib.Core.Path.{◌≡◌, refl, sym, ◌∙◌, ap}
use Prim.Native.Nat.{ℕ, ◌+◌, ◌≤◌, ◌<◌}
use native.Mathlib.Nat.{le_of_lt}
use native.Mathlib.Omega.{arith}
use mathlib.Core.List.{List, [], ◌∷◌}
use mathlib.Core.Bool.{Bool, true, false, cond}
use Rattle.std.specs.Prelude.{Option, None, Some}
use Rattle.std.specs.Option.{option_map}
use lib.ListN.{length, drop, get_or, drop_of_length-le}
use lib.Dec.{leb, eqb}
use borrow.Author.Tests.{ne_eqb, leb-true, leb-false}
use Rattle.text.specs.Words.{ascii, same, numeral, argument, only}
use Rattle.text.specs.Scan.{first, empty, ends_at, dash_at, found_then, number_at, set_at}
use Rattle.text.specs.declared.Members.{Members}
use Rattle.text.specs.declared.Members.TheVariants.{Everyone, Only}
use Rattle.text.specs.declared.scan.Found.{Found}
use Rattle.text.proofs.Places.{byte_at, found_within, found-past}
use Rattle.text.proofs.Numbers.{number, first_more, and_false, number_here, here_empty, here_zero}

-- the number at a place is that of the first word there
pub number_within : (line : List ℕ) (at : ℕ) → at ≤ length line → number_at line at ≡ number_here at (drop at line)
unfolding number_here
number_within line at h = found_within numeral line at h

pub number_past : (line : List ℕ) (at : ℕ) → length line ≤ at → number_at line at ≡ None
number_past line at h = go (leb at (length line)) refl
  where
    go : (t : Bool) → leb at (length line) ≡ t → number_at line at ≡ None
    go true q = number_within line at (leb-true at (length line) q) ∙ rw (drop_of_length-le line h) (here_empty at)
    go false q = found-past numeral line at (leb-false at (length line) q)

pub number_byte : (line : List ℕ) (at : ℕ) → at < length line → {b : ℕ} → b ≡ get_or line at 0
    → number_at line at ≡ number_here at (b ∷ drop (at + 1) line)
number_byte line at h {b} e = number_within line at (omega arith) ∙ ap (number_here at) (byte_at line at h ∙ ap (λ (n : ℕ). n ∷ drop (at + 1) line) (sym e))

-- where a word ends
pub ends_past : (line : List ℕ) (at : ℕ) → length line ≤ at → ends_at line at ≡ true
unfolding ends_at first empty
ends_past line at h = rw (drop_of_length-le line h)

pub ends_byte : (line : List ℕ) (at : ℕ) → at < length line → ends_at line at ≡ eqb (get_or line at 0) 32
unfolding ends_at first empty
ends_byte line at h = rw (byte_at line at h) (go (eqb (get_or line at 0) 32))
  where
    go : (t : Bool) → empty (cond t [] (get_or line at 0 ∷ first (drop (at + 1) line))) ≡ t
    go true = refl
    go false = refl

-- a zero stands alone
pub zero_at : (line : List ℕ) (at : ℕ) → at < length line → {b : ℕ} → b ≡ get_or line at 0 → b ≡ 48 → (t : Bool) → ends_at line (at + 1) ≡ t
    → number_at line at ≡ cond t (number 0 (at + 1)) None
unfolding ends_at
zero_at line at h {b} g e t q =
    number_byte line at h g ∙ (here_zero at b (drop (at + 1) line) e ∙ ap (λ (u : Bool). cond u (number 0 (at + 1)) None) q)

-- whether the word is `-`
same-empty : (w : List ℕ) → same w [] ≡ empty w
unfolding same empty
same-empty [] = refl
same-empty (b ∷ w) = refl

pub dash_past : (line : List ℕ) (at : ℕ) → length line ≤ at → dash_at line at ≡ false
unfolding dash_at first same ascii
dash_past line at h = rw (drop_of_length-le line h)

pub dash_other : (line : List ℕ) (at : ℕ) → at < length line → (get_or line at 0 ≡ 45 → ⊥) → dash_at line at ≡ false
unfolding dash_at first same ascii
dash_other line at h e = rw (byte_at line at h) (go (eqb (get_or line at 0) 32))
  where
    go : (t : Bool) → same (cond t [] (get_or line at 0 ∷ first (drop (at + 1) line))) (45 ∷ []) ≡ false
    go true = refl
    go false = rw (ne_eqb (get_or line at 0) 45 e)

pub dash_then : (line : List ℕ) (at : ℕ) → at < length line → get_or line at 0 ≡ 45 → dash_at line at ≡ ends_at line (at + 1)
unfolding dash_at ends_at same ascii
dash_then line at h e =
    rw (byte_at line at h, e, first_more 45 (drop (at + 1) line) (λ q. omega arith)) (same-empty (first (drop (at + 1) line)))

pub dash_within : (line : List ℕ) (at : ℕ) → dash_at line at ≡ true → at < length line
dash_within line at e = go (leb (length line) at) refl
  where
    go : (t : Bool) → leb (length line) at ≡ t → at < length line
    go true q = absurd (let z : ◌≡◌ {A = ℕ} 0 1 = cc (dash_past line at (leb-true (length line) at q)) in omega arith)
    go false q = leb-false (length line) at q

-- a set is everyone, or what a number names
dash_length : (w : List ℕ) → same w (ascii "-") ≡ true → length w ≡ 1
unfolding same ascii
dash_length [] e = absurd (let z : ◌≡◌ {A = ℕ} 0 1 = cc in omega arith)
dash_length (b ∷ []) e = refl
dash_length (b ∷ c ∷ w) e = absurd (let z : ◌≡◌ {A = ℕ} 0 1 = cc (and_false (eqb b 45)) in omega arith)

pub everyone_at : (line : List ℕ) (at : ℕ) → dash_at line at ≡ true → set_at line at ≡ Some (record { it = Everyone; end = at + 1 })
unfolding dash_at argument found_then
everyone_at line at e =
    found_within argument line at (le_of_lt (dash_within line at e))
    ∙ rw (e, dash_length (first (drop at line)) e)

-- where the word is not `-`, a set is found as its number is
abbrev pub only_of : Found ℕ → Found Members
only_of f = record { it = Only f.it; end = f.end }

only-found : (o : Option ℕ) (end : ℕ) → found_then (only o) end ≡ option_map only_of (found_then o end)
unfolding found_then only
only-found None end = refl
only-found (Some n) end = refl

pub set_number : (line : List ℕ) (at : ℕ) → dash_at line at ≡ false → set_at line at ≡ option_map only_of (number_at line at)
unfolding dash_at argument
set_number line at e = go (leb at (length line)) refl
  where
    go : (t : Bool) → leb at (length line) ≡ t → set_at line at ≡ option_map only_of (number_at line at)
    go true q =
        let h = leb-true at (length line) q in
        rw (found_within argument line at h, found_within numeral line at h, e) (only-found (numeral (first (drop at line))) (at + length (first (drop at line))))
    go false q = let h = leb-false at (length line) q in rw (found-past argument line at h, found-past numeral line at h)
