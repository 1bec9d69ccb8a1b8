-- What reading a field of an image answers, and what appending one leaves.
use Rattle.std.specs.Prelude.{ℕ, ◌+◌, ◌*◌, ◌/◌, Bool, ◌&&◌, cond, Option, Some, None, List, length, leb}
use Rattle.fields.specs.Bits.{bits_of, bytes_of, field_at, append_bits, after_bits}

-- with the up to seven bits before it in its first byte a field lies within eight bytes; one that is asked for with more
-- bits is never there
unfoldable pub widest : ℕ
widest = 56

-- whether a field of w bits at bit `at` lies within an image of n bytes
unfoldable pub fits_in : ℕ → ℕ → ℕ → Bool
fits_in n at w = leb w widest && leb (at + w) (8 * n)

-- the field, or that the image ends before the field does
unfoldable pub read_of : List ℕ → ℕ → ℕ → Option ℕ
read_of bytes at w = cond (fits_in (length bytes) at w) (Some (field_at (bits_of bytes) at w)) None

-- the field of w bits that a list of bits begins with, or that the list is shorter
unfoldable pub front_of : ℕ → List ℕ → Option ℕ
front_of w l = cond (leb w (length l)) (Some (field_at l 0 w)) None

-- whether the eight bytes from the one with bit `at` on are all there
unfoldable pub has_word : ℕ → ℕ → ℕ → Bool
has_word n at w = leb w widest && leb (at / 8 + 8) n

-- the field where they are
unfoldable pub word_of : List ℕ → ℕ → ℕ → Option ℕ
word_of bytes at w = cond (has_word (length bytes) at w) (Some (field_at (bits_of bytes) at w)) None

-- the image with the field appended there, or as it was where they are not
unfoldable pub append_of : List ℕ → ℕ → ℕ → ℕ → List ℕ
append_of bytes at w v =
    cond (has_word (length bytes) at w) (bytes_of (length bytes) (append_bits (bits_of bytes) at w v)) bytes

unfoldable pub after_of : List ℕ → ℕ → ℕ → ℕ → ℕ → List ℕ
after_of bytes at before w v =
    cond (has_word (length bytes) at w) (bytes_of (length bytes) (after_bits (bits_of bytes) at before w v)) bytes
