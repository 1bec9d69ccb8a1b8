-- How the code gets at a field: eight bytes of the image as one number. The bits before a field in its first byte are at
-- most seven, so a field of 56 bits lies within eight bytes.
use Rattle.std.specs.Prelude.{ℕ, zero, suc, ◌+◌, ◌-◌, ◌*◌, ◌/◌, ◌%◌, ◌^◌, List, [], ◌∷◌, get_or}
use Rattle.std.proofs.lemmas.List.Edits.{sets}

-- byte i and the n behind it as one number, the first the highest; a byte past the end counts as 0
abbrev pub number_at : List ℕ → ℕ → ℕ → ℕ
number_at l i zero = get_or l i 0
number_at l i (suc n) = number_at l i n * 256 + get_or l (i + suc n) 0

-- the eight bytes from byte i on
abbrev pub word_at : List ℕ → ℕ → ℕ
word_at l i = number_at l i 7

-- the n lowest bytes of a number, highest first
abbrev pub bytes_in : ℕ → ℕ → List ℕ
bytes_in zero x = []
bytes_in (suc n) x = x / 2 ^ (8 * n) % 256 ∷ bytes_in n x

-- the bytes with the eight from byte i on replaced by those of x
abbrev pub with_word : List ℕ → ℕ → ℕ → List ℕ
with_word l i x = sets l i (bytes_in 8 x)

-- the w bits of a word that stand above its lowest `after`
unfoldable pub part_of : ℕ → ℕ → ℕ → ℕ
part_of x after w = x / 2 ^ after % 2 ^ w

-- the word with zeros in its lowest `after` bits, the w lowest bits of v above them, and `before` above those
abbrev pub join_of : ℕ → ℕ → ℕ → ℕ → ℕ
join_of before after w v = (before * 2 ^ w + v % 2 ^ w) * 2 ^ after

-- how many of the 64 bits that start with the field's first byte stand behind the field; all of them count as none, since
-- a word is shifted by that many, and a field without bits is 0 however it is shifted
abbrev pub behind_of : ℕ → ℕ → ℕ
behind_of at w = (64 - at % 8 - w) % 64
