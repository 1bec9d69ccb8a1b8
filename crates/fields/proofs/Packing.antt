-- Bits packed into whole bytes, with zero bits up to the end of the last.
-- Assumes nothing.
use Prim.Native.Nat.{ℕ, ◌+◌, ◌*◌, ◌<◌}
use native.Mathlib.Omega.{arith}
use mathlib.Core.Path.{◌≡◌, ap, ◌∙◌}
use mathlib.Core.List.{List}
use lib.ListN.{length, replicate, length-append, length-replicate}
use Rattle.fields.specs.Bits.{bits_of, bytes_for, padding, padded, packed, Below}
use Rattle.fields.proofs.Below.{below_append, below_zeros}
use Rattle.fields.proofs.Bytes.{length-bytes_of, bytes_of_below, bits_of-bytes_of}

-- the last byte is filled, and no byte is added
pub padding_lt : (n : ℕ) → padding n < 8
unfolding padding bytes_for
padding_lt n = omega arith

pub padding_fills : (n : ℕ) → n + padding n ≡ 8 * bytes_for n
unfolding padding bytes_for
padding_fills n = omega arith

pub length-padded : (l : List ℕ) → length (padded l) ≡ 8 * bytes_for (length l)
unfolding padded
length-padded l =
    length-append l (replicate (padding (length l)) 0)
    ∙ ap (λ (n : ℕ). length l + n) (length-replicate (padding (length l)) 0)
    ∙ padding_fills (length l)

pub padded_below : (l : List ℕ) → Below 2 l → Below 2 (padded l)
unfolding padded
padded_below l h = below_append 2 l (replicate (padding (length l)) 0) h (below_zeros 1 (padding (length l)))

pub length-packed : (l : List ℕ) → length (packed l) ≡ bytes_for (length l)
unfolding packed
length-packed l = length-bytes_of (bytes_for (length l)) (padded l)

pub packed_below : (l : List ℕ) → Below 2 l → Below 256 (packed l)
unfolding packed
packed_below l h = bytes_of_below (bytes_for (length l)) (padded l) (padded_below l h) (length-padded l)

pub bits_of-packed : (l : List ℕ) → Below 2 l → bits_of (packed l) ≡ padded l
unfolding packed
bits_of-packed l h = bits_of-bytes_of (bytes_for (length l)) (padded l) (padded_below l h) (length-padded l)
