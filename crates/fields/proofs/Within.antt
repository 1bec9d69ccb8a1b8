-- A field read by the eight bytes around it: bytes as one number are the field of all their bits, and a part of that
-- number is the field at its place.
-- Assumes nothing.
use Prim.Native.Nat.{ℕ, zero, suc, ◌+◌, ◌-◌, ◌*◌, ◌/◌, ◌%◌, ◌^◌, ◌≤◌, ◌<◌}
use native.Mathlib.Nat.{mod-one, mod-eq_of_lt}
use native.Mathlib.Omega.{arith}
use mathlib.Core.Bool.{true}
use mathlib.Core.Path.{◌≡◌, refl, sym, ap, ap₂, ◌∙◌}
use mathlib.Core.List.{List, [], ◌∷◌, ◌++◌}
use lib.ListN.{length, get_or, replicate, length-append, length-replicate}
use Rattle.fields.specs.Bits.{field_bits, bits_of, field_at, Below}
use Rattle.fields.specs.Word.{number_at, word_at, part_of, behind_of}
use Rattle.fields.specs.Field.{fits_in, read_of, has_word, word_of}
use Rattle.std.specs.Prelude.{Some}
use Rattle.fields.proofs.Below.{below_append, below_zeros}
use Rattle.fields.proofs.Width.{length-field_bits}
use Rattle.fields.proofs.Bytes.{length-bits_of, bits_of_below, bits_of-append}
use Rattle.fields.proofs.Places.{field_at_add, field_at-high, field_at_low, field_at_left, field_at_past, field_at-first}
use Rattle.fields.proofs.Answers.{fits_narrow, fits_within, read_is, has_fits, word_is}

-- ---- bytes as one number

pub byte_at : (l : List ℕ) (j : ℕ) → Below 256 l → j < length l → field_at (bits_of l) (8 * j) 8 ≡ get_or l j 0
unfolding bits_of
byte_at [] j h k = absurd (omega arith)
byte_at (b ∷ l) zero h k = field_at-first 8 b (bits_of l) h.0
byte_at (b ∷ l) (suc j) h k =
    let e : 8 * suc j ≡ 8 + 8 * j = omega arith in
    ap (λ (i : ℕ). field_at (field_bits 8 b ++ bits_of l) i 8) e
    ∙ field_at_past (field_bits 8 b) (bits_of l) 8 (8 * j) 8 (length-field_bits 8 b)
    ∙ byte_at l j h.1 (omega arith)

number_bits : (l : List ℕ) (i n : ℕ) → Below 256 l → i + n < length l
    → number_at l i n ≡ field_at (bits_of l) (8 * i) (8 * suc n)
number_bits l i zero h k = sym (byte_at l i h (omega arith))
number_bits l i (suc n) h k =
    let e : 8 * (i + suc n) ≡ 8 * i + 8 * suc n = omega arith in
    let f : 8 * suc n + 8 ≡ 8 * suc (suc n) = omega arith in
    let b : 8 * i + (8 * suc n + 8) ≤ length (bits_of l) = rw (length-bits_of l) (omega arith) in
    ap₂ (λ (x y : ℕ). x * 256 + y) (number_bits l i n h (omega arith)) (sym (byte_at l (i + suc n) h k))
    ∙ ap (λ (j : ℕ). field_at (bits_of l) (8 * i) (8 * suc n) * 256 + field_at (bits_of l) j 8) e
    ∙ sym (field_at_add (bits_of l) (8 * i) (8 * suc n) 8 b)
    ∙ ap (field_at (bits_of l) (8 * i)) f

-- zeros past the end are what a byte past the end counts as
get_d_zeros : (k j : ℕ) → ◌≡◌ {A = ℕ} (get_or (replicate k 0) j 0) 0
get_d_zeros zero j = refl
get_d_zeros (suc k) zero = refl
get_d_zeros (suc k) (suc j) = get_d_zeros k j

get_d_padded : (l : List ℕ) (k j : ℕ) → get_or (l ++ replicate k 0) j 0 ≡ get_or l j 0
get_d_padded [] k j = get_d_zeros k j
get_d_padded (x ∷ l) k zero = refl
get_d_padded (x ∷ l) k (suc j) = get_d_padded l k j

number_padded : (l : List ℕ) (k i n : ℕ) → number_at (l ++ replicate k 0) i n ≡ number_at l i n
number_padded l k i zero = get_d_padded l k i
number_padded l k i (suc n) = ap₂ (λ (x y : ℕ). x * 256 + y) (number_padded l k i n) (get_d_padded l k (i + suc n))

-- eight bytes, with zeros past the end
word_bits : (l : List ℕ) (i : ℕ) → Below 256 l → i ≤ length l
    → word_at l i ≡ field_at (bits_of (l ++ replicate 8 0)) (8 * i) 64
word_bits l i h k =
    let m = l ++ replicate 8 0 in
    let b = below_append 256 l (replicate 8 0) h (below_zeros 255 8) in
    let n : length m ≡ length l + 8 = length-append l (replicate 8 0) in
    sym (number_padded l 8 i 7) ∙ number_bits m i 7 b (omega arith)

-- ---- a part of the number

part_field : (b : List ℕ) (at s w r : ℕ) → Below 2 b → at + (s + w + r) ≤ length b
    → part_of (field_at b at (s + w + r)) r w ≡ field_at b (at + s) w
unfolding part_of
part_field b at s w r h k =
    ap (λ (x : ℕ). x % 2 ^ w) (field_at-high b at (s + w) r h k) ∙ field_at_low b at s w h (omega arith)

-- a field without bits is 0 however the word is shifted
part_behind : (x r w : ℕ) → r + w ≤ 64 → part_of x (r % 64) w ≡ part_of x r w
unfolding part_of
part_behind x r zero h = mod-one (x / 2 ^ (r % 64)) ∙ sym (mod-one (x / 2 ^ r))
part_behind x r (suc w) h = ap (λ (k : ℕ). x / 2 ^ k % 2 ^ suc w) (mod-eq_of_lt (omega arith))

module _ (l : List ℕ) (at w r : ℕ) (h : Below 256 l) (n : at % 8 + w + r ≡ 64) (k : at + w ≤ 8 * length l) where
  room : 8 * (at / 8) + (at % 8 + w + r) ≤ length (bits_of (l ++ replicate 8 0))
  room = simp (length-bits_of, length-append, length-replicate) (omega arith)

  word-field : word_at l (at / 8) ≡ field_at (bits_of (l ++ replicate 8 0)) (8 * (at / 8)) (at % 8 + w + r)
  word-field =
      word_bits l (at / 8) h (omega arith) ∙ ap (field_at (bits_of (l ++ replicate 8 0)) (8 * (at / 8))) (sym n)

  field-part : part_of (word_at l (at / 8)) r w ≡ field_at (bits_of l) at w
  field-part =
      let p : 8 * (at / 8) + at % 8 ≡ at = omega arith in
      ap (λ (x : ℕ). part_of x r w) word-field
      ∙ part_field (bits_of (l ++ replicate 8 0)) (8 * (at / 8)) (at % 8) w r (bits_of_below (l ++ replicate 8 0)) room
      ∙ ap₂ (λ (b : List ℕ) (i : ℕ). field_at b i w) (bits_of-append l (replicate 8 0)) p
      ∙ field_at_left (bits_of l) (bits_of (replicate 8 0)) at w (rw (length-bits_of l) k)

read_within : (l : List ℕ) (at w : ℕ) → Below 256 l → w ≤ 56 → at + w ≤ 8 * length l
    → part_of (word_at l (at / 8)) (behind_of at w) w ≡ field_at (bits_of l) at w
read_within l at w h n k =
    part_behind (word_at l (at / 8)) (64 - at % 8 - w) w (omega arith)
    ∙ field-part l at w (64 - at % 8 - w) h (omega arith) k

-- ---- what `read` and `read_word` answer

module _ (l : List ℕ) (at w x : ℕ) (h : Below 256 l) (p : x ≡ part_of (word_at l (at / 8)) (behind_of at w) w) where
  field-met : fits_in (length l) at w ≡ true → Some x ≡ Some (field_at (bits_of l) at w)
  field-met e =
      ap Some (p ∙ read_within l at w h (fits_narrow (length l) at w e) (fits_within (length l) at w e))

  pub read-met : fits_in (length l) at w ≡ true → Some x ≡ read_of l at w
  read-met e = field-met e ∙ sym (read_is l at w e)

  pub word-met : has_word (length l) at w ≡ true → Some x ≡ word_of l at w
  word-met e = field-met (has_fits (length l) at w e) ∙ sym (word_is l at w e)
