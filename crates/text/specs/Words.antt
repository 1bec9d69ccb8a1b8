-- The words of a command line, and the numbers and sets that they write. The rules paper, "Line program".
-- A line is the list of its bytes, its newline not among them.
use Rattle.std.specs.Prelude.{ℕ, ◌+◌, ◌-◌, ◌*◌, List, [], ◌∷◌, Option, None, Some, Bool, true, false, ◌&&◌, not, cond, leb, eqb}
use Prim.Native.Char.{code}
use Prim.Native.String.{String}
use Prim.Native.String as string
use Rattle.text.specs.declared.Members.{Members}
use Rattle.text.specs.declared.Members.TheVariants.{Everyone, Only}

-- the bytes of a text that is written out here: 32 is `ascii " "`
unfoldable pub ascii : String → List ℕ
ascii string.[] = []
ascii (string.◌∷◌ c s) = code c ∷ ascii s

-- "Fields are separated by single spaces": what stands between the spaces. Where two spaces meet, and where one begins or
-- ends the line, a word is empty; the empty line is one empty word
unfoldable pub onto : ℕ → List (List ℕ) → List (List ℕ)
onto b [] = (b ∷ []) ∷ []
onto b (w ∷ ws) = (b ∷ w) ∷ ws

unfoldable pub words : List ℕ → List (List ℕ)
words [] = [] ∷ []
words (b ∷ l) = cond (eqb b 32) ([] ∷ words l) (onto b (words l))

-- whether two words are the same
unfoldable pub same : List ℕ → List ℕ → Bool
same [] [] = true
same [] (c ∷ v) = false
same (b ∷ w) [] = false
same (b ∷ w) (c ∷ v) = eqb b c && same w v

-- "numbers are decimal without a leading zero (`0` itself is fine), at most 4,294,967,295". The digits are the bytes 48 to 57
unfoldable pub is_digit : ℕ → Bool
is_digit b = leb 48 b && leb b 57

unfoldable pub decimals : List ℕ → Bool
decimals [] = true
decimals (b ∷ w) = is_digit b && decimals w

-- there is a digit, and the first is no zero where another follows
unfoldable pub unpadded : List ℕ → Bool
unpadded [] = false
unpadded (b ∷ []) = true
unpadded (b ∷ c ∷ w) = not (eqb b 48)

-- what digits come to, after digits that come to n
unfoldable pub value_from : ℕ → List ℕ → ℕ
value_from n [] = n
value_from n (b ∷ w) = value_from (n * 10 + (b - 48)) w

abbrev pub largest : ℕ
largest = 4294967295

unfoldable pub numeral : List ℕ → Option ℕ
numeral w = cond (unpadded w && decimals w && leb (value_from 0 w) largest) (Some (value_from 0 w)) None

-- "A set written `-` means all members"
unfoldable pub only : Option ℕ → Option Members
only None = None
only (Some n) = Some (Only n)

unfoldable pub argument : List ℕ → Option Members
argument w = cond (same w (ascii "-")) (Some Everyone) (only (numeral w))
