-- Bit fields of any width. The rules paper, "Suite image": bit-packed, most significant bit first.
-- A bit is the number 0 or 1, a byte a number below 256, and an image a list of bytes.
use Rattle.std.specs.Prelude.{ℕ, zero, suc, ◌+◌, ◌-◌, ◌*◌, ◌/◌, ◌%◌, ◌^◌, ◌<◌, List, [], ◌∷◌, ◌++◌, length, take, drop, replicate}

-- the w lowest bits of v, highest first: what a field of w bits that holds v looks like
unfoldable pub field_bits : ℕ → ℕ → List ℕ
field_bits zero v = []
field_bits (suc w) v = v / 2 ^ w % 2 ∷ field_bits w v

-- the number that a list of bits writes, highest first
unfoldable pub num_of : List ℕ → ℕ
num_of [] = 0
num_of (b ∷ l) = b * 2 ^ length l + num_of l

-- the bits of a list of bytes, eight for each
unfoldable pub bits_of : List ℕ → List ℕ
bits_of [] = []
bits_of (b ∷ bytes) = field_bits 8 b ++ bits_of bytes

-- the first n bytes of a list of bits, eight bits for each
unfoldable pub bytes_of : ℕ → List ℕ → List ℕ
bytes_of zero l = []
bytes_of (suc n) l = num_of (take 8 l) ∷ bytes_of n (drop 8 l)

-- the field of w bits that starts at bit `at`
unfoldable pub field_at : List ℕ → ℕ → ℕ → ℕ
field_at l at w = num_of (take w (drop at l))

-- the bits with the w lowest of v from bit `at` on, and zeros behind them to the end of the eight bytes in which they begin
unfoldable pub append_bits : List ℕ → ℕ → ℕ → ℕ → List ℕ
append_bits l at w v =
    take at l ++ (field_bits w v ++ (replicate (64 - at % 8 - w) 0 ++ drop (8 * (at / 8 + 8)) l))

-- the same with the bits before the field, in its first byte, put too: the lowest of `before`
unfoldable pub after_bits : List ℕ → ℕ → ℕ → ℕ → ℕ → List ℕ
after_bits l at before w v =
    take (8 * (at / 8)) l
    ++ (field_bits (at % 8) before ++ (field_bits w v ++ (replicate (64 - at % 8 - w) 0 ++ drop (8 * (at / 8 + 8)) l)))

-- how many bytes hold n bits, and how many bits are left over in the last of them
unfoldable pub bytes_for : ℕ → ℕ
bytes_for n = (n + 7) / 8

unfoldable pub padding : ℕ → ℕ
padding n = 8 * bytes_for n - n

-- the same section, "Zero bits fill the last byte": the bits up to a whole byte, and the bytes that hold them
unfoldable pub padded : List ℕ → List ℕ
padded l = l ++ replicate (padding (length l)) 0

unfoldable pub packed : List ℕ → List ℕ
packed l = bytes_of (bytes_for (length l)) (padded l)

-- every number of the list is below n: `Below 2` is a list of bits, `Below 256` a list of bytes
abbrev pub Below : ℕ → List ℕ → Type 0
Below n [] = Unit {0}
Below n (x ∷ l) = (x < n) × Below n l
