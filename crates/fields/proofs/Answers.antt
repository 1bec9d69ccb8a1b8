-- What the functions' outcomes come to for a caller: where a field fits, what is read there, and what an append leaves.
-- Assumes nothing.
use Prim.Native.Nat.{ℕ, ◌+◌, ◌*◌, ◌/◌, ◌%◌, ◌^◌, ◌≤◌, ◌<◌}
use native.Mathlib.Omega.{arith}
use mathlib.Core.Bool.{Bool, true, false, ◌&&◌, cond}
use mathlib.Core.Path.{◌≡◌, refl, sym, ap, ◌∙◌}
use mathlib.Core.List.{List}
use lib.ListN.{length, take, drop}
use lib.Dec.{leb}
use borrow.Author.Tests.{le-leb, lt-leb, leb-true, leb-false}
use Rattle.fields.specs.Bits.{field_bits, bits_of, bytes_of, field_at, append_bits, after_bits, Below}
use Rattle.fields.specs.Field.{fits_in, widest, read_of, has_word, word_of, append_of, after_of}
use Rattle.std.specs.Prelude.{Some, None}
use Rattle.fields.proofs.Bytes.{length-bits_of, bits_of_below, length-bytes_of, bytes_of_below, bits_of-bytes_of}
use Rattle.fields.proofs.Places.{field_at-high, field_at_low}
use Rattle.fields.proofs.Appending.{length-append_bits, length-after_bits, append_bits_below, after_bits_below, after-append}

and_left : (a b : Bool) → a && b ≡ true → a ≡ true
and_left true b p = refl
and_left false b p = p

-- ---- where a field fits

pub fits_yes : (n at w : ℕ) → w ≤ 56 → at + w ≤ 8 * n → fits_in n at w ≡ true
unfolding fits_in widest
fits_yes n at w h k = rw (le-leb w 56 h) (le-leb (at + w) (8 * n) k)

pub fits_wide : (n at w : ℕ) → 56 < w → fits_in n at w ≡ false
unfolding fits_in widest
fits_wide n at w h = rw (lt-leb w 56 h)

pub fits_past : (n at w : ℕ) → w ≤ 56 → 8 * n < at + w → fits_in n at w ≡ false
unfolding fits_in widest
fits_past n at w h k = rw (le-leb w 56 h) (lt-leb (at + w) (8 * n) k)

pub fits_narrow : (n at w : ℕ) → fits_in n at w ≡ true → w ≤ 56
unfolding fits_in widest
fits_narrow n at w e = leb-true w 56 (and_left (leb w 56) (leb (at + w) (8 * n)) e)

pub fits_within : (n at w : ℕ) → fits_in n at w ≡ true → at + w ≤ 8 * n
unfolding fits_in widest
fits_within n at w e = leb-true (at + w) (8 * n) (rw (le-leb w 56 (fits_narrow n at w e)) at e)

-- counted in bytes, as the code does
pub fits_bytes : (n at w : ℕ) → w ≤ 56 → leb (at / 8 + (at % 8 + w + 7) / 8) n ≡ fits_in n at w
fits_bytes n at w h = go (leb (at / 8 + (at % 8 + w + 7) / 8) n) refl
  where
    go : (b : Bool) → leb (at / 8 + (at % 8 + w + 7) / 8) n ≡ b → b ≡ fits_in n at w
    go true e =
        let k = leb-true (at / 8 + (at % 8 + w + 7) / 8) n e in sym (fits_yes n at w h (omega arith))
    go false e =
        let k = leb-false (at / 8 + (at % 8 + w + 7) / 8) n e in sym (fits_past n at w h (omega arith))

-- ---- reading

pub read_is : (l : List ℕ) (at w : ℕ) → fits_in (length l) at w ≡ true → read_of l at w ≡ Some (field_at (bits_of l) at w)
unfolding read_of
read_is l at w e = rw e

pub read_short : (l : List ℕ) (at w : ℕ) → fits_in (length l) at w ≡ false → read_of l at w ≡ None
unfolding read_of
read_short l at w e = rw e

-- a field that is read fits its width, and is there
pub read_some : (l : List ℕ) (at w v : ℕ) → read_of l at w ≡ Some v
    → (fits_in (length l) at w ≡ true) × (v ≡ field_at (bits_of l) at w)
read_some l at w v p = go (fits_in (length l) at w) refl
  where
    go : (b : Bool) → fits_in (length l) at w ≡ b → (fits_in (length l) at w ≡ true) × (v ≡ field_at (bits_of l) at w)
    go true e =
        let q : Some (field_at (bits_of l) at w) ≡ Some v = sym (read_is l at w e) ∙ p in
        let n : v ≡ field_at (bits_of l) at w = cc in
        (e, n)
    go false e =
        let q : None ≡ Some v = sym (read_short l at w e) ∙ p in
        let z : ◌≡◌ {A = ℕ} 0 1 = cc in
        absurd (omega arith)

-- two fields that were read as one
pub read_split : (l : List ℕ) (at w u x : ℕ) → read_of l at (w + u) ≡ Some x
    → (read_of l at w ≡ Some (x / 2 ^ u)) × (read_of l (at + w) u ≡ Some (x % 2 ^ u))
read_split l at w u x p =
    let q = read_some l at (w + u) x p in
    let n : w + u ≤ 56 = fits_narrow (length l) at (w + u) q.0 in
    let k : at + (w + u) ≤ 8 * length l = fits_within (length l) at (w + u) q.0 in
    let b : at + (w + u) ≤ length (bits_of l) = rw (length-bits_of l) k in (
      read_is l at w (fits_yes (length l) at w (omega arith) (omega arith))
          ∙ ap Some (sym (ap (λ (y : ℕ). y / 2 ^ u) q.1 ∙ field_at-high (bits_of l) at w u (bits_of_below l) b)),
      read_is l (at + w) u (fits_yes (length l) (at + w) u (omega arith) (omega arith))
          ∙ ap Some (sym (ap (λ (y : ℕ). y % 2 ^ u) q.1 ∙ field_at_low (bits_of l) at w u (bits_of_below l) b)),
    )

-- ---- where eight bytes are

pub has_yes : (n at w : ℕ) → w ≤ 56 → at / 8 + 8 ≤ n → has_word n at w ≡ true
unfolding has_word widest
has_yes n at w h k = rw (le-leb w 56 h) (le-leb (at / 8 + 8) n k)

pub has_narrow : (n at w : ℕ) → has_word n at w ≡ true → w ≤ 56
unfolding has_word widest
has_narrow n at w e = leb-true w 56 (and_left (leb w 56) (leb (at / 8 + 8) n) e)

pub has_within : (n at w : ℕ) → has_word n at w ≡ true → at / 8 + 8 ≤ n
unfolding has_word widest
has_within n at w e = leb-true (at / 8 + 8) n (rw (le-leb w 56 (has_narrow n at w e)) at e)

pub has_fits : (n at w : ℕ) → has_word n at w ≡ true → fits_in n at w ≡ true
has_fits n at w e =
    let h = has_narrow n at w e in
    let k = has_within n at w e in
    fits_yes n at w h (omega arith)

-- the field is then the one that `read` answers
pub word_is : (l : List ℕ) (at w : ℕ) → has_word (length l) at w ≡ true → word_of l at w ≡ Some (field_at (bits_of l) at w)
unfolding word_of
word_is l at w e = rw e

pub word_short : (l : List ℕ) (at w : ℕ) → has_word (length l) at w ≡ false → word_of l at w ≡ None
unfolding word_of
word_short l at w e = rw e

pub word_read : (l : List ℕ) (at w v : ℕ) → word_of l at w ≡ Some v → read_of l at w ≡ Some v
word_read l at w v p = go (has_word (length l) at w) refl
  where
    go : (b : Bool) → has_word (length l) at w ≡ b → read_of l at w ≡ Some v
    go true e = read_is l at w (has_fits (length l) at w e) ∙ sym (word_is l at w e) ∙ p
    go false e =
        let q : None ≡ Some v = sym (word_short l at w e) ∙ p in
        let z : ◌≡◌ {A = ℕ} 0 1 = cc in
        absurd (omega arith)

-- ---- bytes from new bits, where they are

length-cond : (c : Bool) (l b : List ℕ) → length (cond c (bytes_of (length l) b) l) ≡ length l
length-cond true l b = length-bytes_of (length l) b
length-cond false l b = refl

below_cond : (c : Bool) (l b : List ℕ) → Below 256 l → Below 2 b → (c ≡ true → length b ≡ 8 * length l)
    → Below 256 (cond c (bytes_of (length l) b) l)
below_cond true l b h k n = bytes_of_below (length l) b k (n refl)
below_cond false l b h k n = h

bits_cond : (c : Bool) (l b : List ℕ) → Below 2 b → length b ≡ 8 * length l → c ≡ true
    → bits_of (cond c (bytes_of (length l) b) l) ≡ b
bits_cond c l b k n e = rw e (bits_of-bytes_of (length l) b k n)

-- ---- appending

module _ (l : List ℕ) (at w v : ℕ) where
  within-bits : has_word (length l) at w ≡ true → 8 * (at / 8 + 8) ≤ length (bits_of l)
  within-bits e = rw (length-bits_of l) (omega (arith, has_within (length l) at w e))

  append-length : has_word (length l) at w ≡ true → length (append_bits (bits_of l) at w v) ≡ 8 * length l
  append-length e =
      length-append_bits (bits_of l) at w v (has_narrow (length l) at w e) (within-bits e) ∙ length-bits_of l

  after-length : (before : ℕ) → has_word (length l) at w ≡ true
      → length (after_bits (bits_of l) at before w v) ≡ 8 * length l
  after-length before e =
      length-after_bits (bits_of l) at w v (has_narrow (length l) at w e) (within-bits e) before ∙ length-bits_of l

  pub append-not : has_word (length l) at w ≡ false → append_of l at w v ≡ l
  unfolding append_of
  append-not e = rw e

  pub after-not : (before : ℕ) → has_word (length l) at w ≡ false → after_of l at before w v ≡ l
  unfolding after_of
  after-not before e = rw e

  pub after_is : (before : ℕ) → has_word (length l) at w ≡ true
      → after_of l at before w v ≡ bytes_of (length l) (after_bits (bits_of l) at before w v)
  unfolding after_of
  after_is before e = rw e

  pub length-append_of : length (append_of l at w v) ≡ length l
  unfolding append_of
  length-append_of = length-cond (has_word (length l) at w) l (append_bits (bits_of l) at w v)

  pub length-after_of : (before : ℕ) → length (after_of l at before w v) ≡ length l
  unfolding after_of
  length-after_of before = length-cond (has_word (length l) at w) l (after_bits (bits_of l) at before w v)

  pub append_of-below : Below 256 l → Below 256 (append_of l at w v)
  unfolding append_of
  append_of-below h =
      below_cond (has_word (length l) at w) l (append_bits (bits_of l) at w v) h
      (append_bits_below (bits_of l) at w v (bits_of_below l))
      append-length

  pub after_of-below : (before : ℕ) → Below 256 l → Below 256 (after_of l at before w v)
  unfolding after_of
  after_of-below before h =
      below_cond (has_word (length l) at w) l (after_bits (bits_of l) at before w v) h
      (after_bits_below (bits_of l) at before w v (bits_of_below l))
      (after-length before)

  pub bits_of-append_of : has_word (length l) at w ≡ true → bits_of (append_of l at w v) ≡ append_bits (bits_of l) at w v
  unfolding append_of
  bits_of-append_of e =
      bits_cond (has_word (length l) at w) l (append_bits (bits_of l) at w v)
      (append_bits_below (bits_of l) at w v (bits_of_below l))
      (append-length e)
      e

  pub bits_of-after_of : (before : ℕ) → has_word (length l) at w ≡ true
      → bits_of (after_of l at before w v) ≡ after_bits (bits_of l) at before w v
  unfolding after_of
  bits_of-after_of before e =
      bits_cond (has_word (length l) at w) l (after_bits (bits_of l) at before w v)
      (after_bits_below (bits_of l) at before w v (bits_of_below l))
      (after-length before e)
      e

  -- where the bits before the field are those that stand there already, putting them too changes nothing
  pub after-known : (before : ℕ) → drop (8 * (at / 8)) (take at (bits_of l)) ≡ field_bits (at % 8) before
      → after_of l at before w v ≡ append_of l at w v
  unfolding after_of append_of
  after-known before e =
      ap (λ (b : List ℕ). cond (has_word (length l) at w) (bytes_of (length l) b) l)
      (after-append (bits_of l) at before w v e)
