-- Reading field after field: the field at a place of an image is the field at the front of the bits from there on.
-- Assumes nothing.
use Prim.Native.Nat.{ℕ, ◌+◌, ◌*◌, ◌^◌, ◌≤◌, ◌<◌}
use native.Mathlib.Nat.{add-zero}
use native.Mathlib.Omega.{arith}
use mathlib.Core.Bool.{Bool, true, false}
use mathlib.Core.Path.{◌≡◌, refl, sym, ap, ◌∙◌}
use mathlib.Core.List.{List, ◌++◌}
use lib.ListN.{length, drop, length-drop}
use lib.Dec.{leb}
use borrow.Author.Tests.{le-leb, lt-leb, leb-true, leb-false}
use Rattle.fields.specs.Bits.{field_bits, bits_of, field_at}
use Rattle.fields.specs.Field.{read_of, front_of}
use Rattle.std.specs.Prelude.{Some, None}
use Rattle.fields.proofs.Bytes.{length-bits_of}
use Rattle.fields.proofs.Places.{field_at-drop, field_at-first, front_length}
use Rattle.fields.proofs.Answers.{fits_yes, fits_past, read_is, read_short}

pub front_is : (w : ℕ) (l : List ℕ) → w ≤ length l → front_of w l ≡ Some (field_at l 0 w)
unfolding front_of
front_is w l h = rw (le-leb w (length l) h)

pub front_short : (w : ℕ) (l : List ℕ) → length l < w → front_of w l ≡ None
unfolding front_of
front_short w l h = rw (lt-leb w (length l) h)

-- a field that was written is read
pub front_field : (w v : ℕ) (l : List ℕ) → v < 2 ^ w → front_of w (field_bits w v ++ l) ≡ Some v
front_field w v l h =
    let n : w ≤ length (field_bits w v ++ l) = rw (front_length w v l) (omega arith) in
    front_is w (field_bits w v ++ l) n ∙ ap Some (field_at-first w v l h)

length_rest : (bytes : List ℕ) (at : ℕ) → at ≤ 8 * length bytes
    → at + length (drop at (bits_of bytes)) ≡ 8 * length bytes
length_rest bytes at k = simp (length-drop, length-bits_of) (omega arith)

-- within the image `read` looks at the bits from its place on
pub read_from : (bytes : List ℕ) (at w : ℕ) → w ≤ 56 → at ≤ 8 * length bytes
    → read_of bytes at w ≡ front_of w (drop at (bits_of bytes))
read_from bytes at w h k = go (leb w (length (drop at (bits_of bytes)))) refl
  where
    n : at + length (drop at (bits_of bytes)) ≡ 8 * length bytes
    n = length_rest bytes at k

    go : (b : Bool) → leb w (length (drop at (bits_of bytes))) ≡ b → read_of bytes at w ≡ front_of w (drop at (bits_of bytes))
    go true e =
        let m : w ≤ length (drop at (bits_of bytes)) = leb-true w (length (drop at (bits_of bytes))) e in
        read_is bytes at w (fits_yes (length bytes) at w h (omega (arith, n)))
        ∙ ap Some (ap (λ (i : ℕ). field_at (bits_of bytes) i w) (sym (add-zero at)) ∙ field_at-drop (bits_of bytes) at 0 w)
        ∙ sym (front_is w (drop at (bits_of bytes)) m)
    go false e =
        let m : length (drop at (bits_of bytes)) < w = leb-false w (length (drop at (bits_of bytes))) e in
        read_short bytes at w (fits_past (length bytes) at w h (omega (arith, n)))
        ∙ sym (front_short w (drop at (bits_of bytes)) m)
