-- How the code goes along a line: by the places where its words begin, each one past the end of the word before it.
use Rattle.std.specs.Prelude.{ℕ, ◌+◌, ◌≤◌, ◌≡◌, List, [], ◌∷◌, Option, None, Some, Bool, true, false, ◌&&◌, cond, length, take, drop, leb, eqb}
use Rattle.text.specs.Words.{ascii, words, same, decimals, value_from, largest, numeral, argument}
use Rattle.std.specs.Option.{option_map}
use Rattle.text.specs.declared.Members.{Members}
use Rattle.text.specs.declared.Command.{Command}
use Rattle.text.specs.declared.Command.TheVariants.{Insert, Update, Remove}
use Rattle.text.specs.Line.{changing, removing, creating, suite_asked, command_in, command_of, ballots_in, ballots_of}
use Rattle.text.specs.declared.scan.Found.{Found}

-- the words from a place on
unfoldable pub words_from : List ℕ → ℕ → List (List ℕ)
words_from line at = cond (leb at (length line)) (words (drop at line)) []

-- the first word of a list of bytes
unfoldable pub first : List ℕ → List ℕ
first [] = []
first (b ∷ l) = cond (eqb b 32) [] (b ∷ first l)

unfoldable pub empty : List ℕ → Bool
empty [] = true
empty (b ∷ l) = false

-- a letter: the bytes 97 to 122
unfoldable pub is_letter : ℕ → Bool
is_letter b = leb 97 b && leb b 122

-- whether a word ends at a place, and whether the word there is `-`
unfoldable pub ends_at : List ℕ → ℕ → Bool
ends_at line at = empty (first (drop at line))

unfoldable pub dash_at : List ℕ → ℕ → Bool
dash_at line at = same (first (drop at line)) (ascii "-")

-- what is read in the word at a place, with where the word ends; or there is nothing to read so, or no word
unfoldable pub found_then : {A : Type 0} → Option A → ℕ → Option (Found A)
found_then None end = None
found_then (Some a) end = Some (record { it = a; end = end })

unfoldable pub found_in : {A : Type 0} → (List ℕ → Option A) → ℕ → List (List ℕ) → Option (Found A)
found_in read at [] = None
found_in read at (w ∷ ws) = found_then (read w) (at + length w)

unfoldable pub found_at : {A : Type 0} → (List ℕ → Option A) → List ℕ → ℕ → Option (Found A)
found_at read line at = found_in read at (words_from line at)

-- the number there, and the set there
abbrev pub number_at : List ℕ → ℕ → Option (Found ℕ)
number_at = found_at numeral

abbrev pub set_at : List ℕ → ℕ → Option (Found Members)
set_at = found_at argument

-- the number whose digits go on with the first word of l, after digits that come to v
unfoldable pub number_on : ℕ → ℕ → List ℕ → Option (Found ℕ)
number_on v at l =
    cond (decimals (first l) && leb (value_from v (first l)) largest)
    (Some (record { it = value_from v (first l); end = at + length (first l) }))
    None

-- the command of a word that is neither `look` nor `near`
unfoldable pub change_in : List ℕ → List (List ℕ) → Option Command
change_in w ws =
    cond (same w (ascii "ins")) (changing Insert ws)
    (cond (same w (ascii "upd")) (changing Update ws)
    (cond (same w (ascii "del")) (removing Remove ws)
    (cond (same w (ascii "suite")) (option_map suite_asked (creating ws))
    None)))

-- the command's word ends at a place; or the line gives no command
pub record Worded (line : List ℕ) (end : ℕ) : Type 0 where
  pub within : end ≤ length line
  pub command : command_of line ≡ command_in (take end line) (words_from line (end + 1))
  pub ballots : ballots_of line ≡ ballots_in (take end line) (words_from line (end + 1))

pub record Wordless (line : List ℕ) : Type 0 where
  pub command : command_of line ≡ None
  pub ballots : ballots_of line ≡ None
