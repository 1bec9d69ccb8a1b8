-- Appending field after field to zeros: what a writer has written so far, and what it has at the end.
-- Assumes nothing.
use Prim.Native.Nat.{ℕ, ◌+◌, ◌-◌, ◌*◌, ◌/◌, ◌%◌, ◌≤◌, ◌<◌}
use native.Mathlib.Nat.{add-sub_of_le, zero-add}
use native.Mathlib.Omega.{arith}
use mathlib.Core.Bool.{true}
use mathlib.Core.Path.{◌≡◌, sym, ap, ap₂, ◌∙◌, subst}
use mathlib.Core.List.{List, [], ◌++◌, append_assoc, append-nil}
use lib.ListN.{length, take, drop, replicate, length-append, length-replicate, replicate-append-replicate}
use lib.Seq.{take_at, take_all, take-append_seam}
use Rattle.fields.specs.Bits.{field_bits, bits_of, append_bits, bytes_for, padding, padded, packed, Below}
use Rattle.fields.specs.Field.{has_word, append_of, after_of}
use Rattle.fields.proofs.Below.{below_left, below_take}
use Rattle.fields.proofs.Bytes.{length-bits_of, bits_of_below, bits_of-take, bits_of_zeros, bits_of_inj}
use Rattle.fields.proofs.Appending.{append-next}
use Rattle.fields.proofs.Packing.{length-padded, bits_of-packed, packed_below}
use Rattle.fields.proofs.Answers.{has_narrow, has_within, bits_of-append_of, after-known}

-- the bytes hold the bits l, and n zero bits behind them
abbrev pub Filled : List ℕ → List ℕ → ℕ → Type 0
Filled bytes l n = bits_of bytes ≡ l ++ replicate n 0

pub filled_none : (n : ℕ) → Filled (replicate n 0) [] (8 * n)
filled_none n = bits_of_zeros n

pub filled-length : (bytes l : List ℕ) (n : ℕ) → Filled bytes l n → 8 * length bytes ≡ length l + n
filled-length bytes l n f =
    sym (length-bits_of bytes)
    ∙ ap length f
    ∙ length-append l (replicate n 0)
    ∙ ap (λ (m : ℕ). length l + m) (length-replicate n 0)

pub filled_below : (bytes l : List ℕ) (n : ℕ) → Filled bytes l n → Below 2 l
filled_below bytes l n f =
    below_left 2 l (replicate n 0) (subst (λ (b : List ℕ). Below 2 b) f (bits_of_below bytes))

-- one field more, over bits m that it covers
filled_over : (bytes l m : List ℕ) (n at w v : ℕ) → Filled bytes (l ++ m) n → at ≡ length l → length m ≤ w
    → has_word (length bytes) at w ≡ true
    → Filled (append_of bytes at w v) (l ++ field_bits w v) (length m + n - w)
filled_over bytes l m n at w v f e c y =
    let g : bits_of bytes ≡ l ++ (m ++ replicate n 0) = f ∙ append_assoc l m (replicate n 0) in
    let s : 8 * length bytes ≡ length l + (length m + n) =
    filled-length bytes (l ++ m) n f ∙ rw (length-append l m) (omega arith)
    in
    let t : length l / 8 + 8 ≤ length bytes = rw e at (has_within (length bytes) at w y) in
    bits_of-append_of bytes at w v y
    ∙ ap₂ (λ (b : List ℕ) (i : ℕ). append_bits b i w v) g e
    ∙ append-next l m n w v (has_narrow (length bytes) at w y) c (omega arith)

pub filled-append : (bytes l : List ℕ) (n at w v : ℕ) → Filled bytes l n → at ≡ length l
    → has_word (length bytes) at w ≡ true
    → Filled (append_of bytes at w v) (l ++ field_bits w v) (n - w)
filled-append bytes l n at w v f e y =
    filled_over bytes l [] n at w v (f ∙ ap (λ (b : List ℕ). b ++ replicate n 0) (sym (append-nil l))) e (omega arith) y
    ∙ ap (λ (i : ℕ). (l ++ field_bits w v) ++ replicate (i - w) 0) (zero-add n)

-- and where the last bits of l are told, over them too
pub filled-after : (bytes l m : List ℕ) (n at before w v : ℕ) → Filled bytes (l ++ m) n → at ≡ length l → length m ≤ w
    → drop (8 * (at / 8)) l ≡ field_bits (at % 8) before
    → has_word (length bytes) at w ≡ true
    → Filled (after_of bytes at before w v) (l ++ field_bits w v) (length m + n - w)
filled-after bytes l m n at before w v f e c d y =
    let t : take at (bits_of bytes) ≡ l =
    ap₂ take e (f ∙ append_assoc l m (replicate n 0)) ∙ take-append_seam l (m ++ replicate n 0)
    in
    ap bits_of (after-known bytes at w v before (ap (drop (8 * (at / 8))) t ∙ d))
    ∙ filled_over bytes l m n at w v f e c y

-- the zeros reach to the end of the last byte
padding_le : (bytes l : List ℕ) (n : ℕ) → Filled bytes l n → padding (length l) ≤ n
unfolding padding bytes_for
padding_le bytes l n f = omega (arith, filled-length bytes l n f)

filled-padded : (bytes l : List ℕ) (n : ℕ) → Filled bytes l n → Filled bytes (padded l) (n - padding (length l))
unfolding padded
filled-padded bytes l n f =
    let p = padding (length l) in
    f
    ∙ ap (λ (m : ℕ). l ++ replicate m 0) (sym (add-sub_of_le (padding_le bytes l n f)))
    ∙ ap (λ (b : List ℕ). l ++ b) (sym (replicate-append-replicate p (n - p) 0))
    ∙ sym (append_assoc l (replicate p 0) (replicate (n - p) 0))

-- the bytes that the bits take are the bits packed: what a writer has once it put every field
pub filled-packed : (bytes l : List ℕ) (n : ℕ) → Below 256 bytes → Filled bytes l n
    → take (bytes_for (length l)) bytes ≡ packed l
filled-packed bytes l n h f =
    let k = bytes_for (length l) in
    let b = filled_below bytes l n f in
    bits_of_inj (take k bytes) (packed l) (below_take 256 k bytes h) (packed_below l b)
    (bits_of-take k bytes
    ∙ ap (λ (r : List ℕ). take (8 * k) r) (filled-padded bytes l n f)
    ∙ take_at (padded l) (replicate (n - padding (length l)) 0) (8 * k) (length-padded l)
    ∙ sym (bits_of-packed l b))

-- and where fewer than eight zeros are left, so are all the bytes: what a reader knows that took every field
pub filled_whole : (bytes l : List ℕ) (n : ℕ) → Below 256 bytes → Filled bytes l n → n < 8 → bytes ≡ packed l
unfolding bytes_for
filled_whole bytes l n h f k =
    let m : 8 * length bytes ≡ length l + n = filled-length bytes l n f in
    sym (take_all (bytes_for (length l)) bytes (omega arith)) ∙ filled-packed bytes l n h f

-- the bits packed hold the bits and the padding
pub filled_by : (l : List ℕ) → Below 2 l → Filled (packed l) l (padding (length l))
unfolding padded
filled_by l h = bits_of-packed l h
