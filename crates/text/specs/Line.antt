-- The command that a line gives. The rules paper, "Line program": commands take read set, write set where there is one, name, value.
use Rattle.std.specs.Prelude.{ℕ, zero, suc, List, [], ◌∷◌, Option, None, Some, cond, length, leb}
use Rattle.std.specs.Option.{option_map}
use Rattle.text.specs.Words.{ascii, words, same, numeral, argument}
use Rattle.text.specs.declared.Members.{Members}
use Rattle.text.specs.declared.Command.{Command}
use Rattle.text.specs.declared.Command.TheVariants.{Suite, Look, Near, Insert, Update, Remove}
use Rattle.text.specs.declared.Creation.{Creation}

-- the first n numbers of a list, with zeros after them where it has fewer
unfoldable pub padded : ℕ → List ℕ → List ℕ
padded zero l = []
padded (suc n) [] = 0 ∷ padded n []
padded (suc n) (v ∷ l) = v ∷ padded n l

-- what a line of any other form gives is None. The words begin with one that can be read so, a set or a number, and go on
-- with the others; or there are no more words
unfoldable pub given : {A R : Type 0} → Option A → (A → Option R) → Option R
given None f = None
given (Some a) f = f a

unfoldable pub with_word : {A R : Type 0} → (List ℕ → Option A) → List (List ℕ) → (A → List (List ℕ) → Option R) → Option R
with_word read [] f = None
with_word read (w ∷ ws) f = given (read w) (λ a. f a ws)

abbrev pub with_set : {R : Type 0} → List (List ℕ) → (Members → List (List ℕ) → Option R) → Option R
with_set = with_word argument

abbrev pub with_number : {R : Type 0} → List (List ℕ) → (ℕ → List (List ℕ) → Option R) → Option R
with_number = with_word numeral

unfoldable pub with_nothing : {R : Type 0} → List (List ℕ) → R → Option R
with_nothing [] r = Some r
with_nothing (w ∷ ws) r = None

-- every word is a number
unfoldable pub joined : Option ℕ → Option (List ℕ) → Option (List ℕ)
joined None o = None
joined (Some n) None = None
joined (Some n) (Some l) = Some (n ∷ l)

unfoldable pub numbers : List (List ℕ) → Option (List ℕ)
numbers [] = Some []
numbers (w ∷ ws) = joined (numeral w) (numbers ws)

-- `look S K` and `near S K`
unfoldable pub reading : {R : Type 0} → (Members → ℕ → R) → List (List ℕ) → Option R
reading make ws = with_set ws λ s ws. with_number ws λ k ws. with_nothing ws (make s k)

-- `ins S T K V` and `upd S T K V`
unfoldable pub changing : {R : Type 0} → (Members → Members → ℕ → ℕ → R) → List (List ℕ) → Option R
changing make ws =
    with_set ws λ s ws. with_set ws λ t ws. with_number ws λ k ws. with_number ws λ v ws. with_nothing ws (make s t k v)

-- `del S T K`
unfoldable pub removing : {R : Type 0} → (Members → Members → ℕ → R) → List (List ℕ) → Option R
removing make ws = with_set ws λ s ws. with_set ws λ t ws. with_number ws λ k ws. with_nothing ws (make s t k)

-- `suite R W votes..`, with any number of votes
unfoldable pub created : ℕ → ℕ → List ℕ → Creation
created r w votes = record { read = r; write = w; votes = padded 8 votes; count = length votes }

unfoldable pub voting : ℕ → ℕ → List (List ℕ) → Option Creation
voting r w ws = given (numbers ws) λ votes. Some (created r w votes)

unfoldable pub creating : List (List ℕ) → Option Creation
creating ws = with_number ws λ r ws. with_number ws λ w ws. voting r w ws

unfoldable pub suite_asked : Creation → Command
suite_asked b = Suite b.read b.write

-- the command of a first word w, with the other words
unfoldable pub command_in : List ℕ → List (List ℕ) → Option Command
command_in w ws =
    cond (same w (ascii "look")) (reading Look ws)
    (cond (same w (ascii "near")) (reading Near ws)
    (cond (same w (ascii "ins")) (changing Insert ws)
    (cond (same w (ascii "upd")) (changing Update ws)
    (cond (same w (ascii "del")) (removing Remove ws)
    (cond (same w (ascii "suite")) (option_map suite_asked (creating ws))
    None)))))

-- what a `suite` line asks for; a line of another command asks for no suite
unfoldable pub ballots_in : List ℕ → List (List ℕ) → Option Creation
ballots_in w ws = cond (same w (ascii "suite")) (creating ws) None

unfoldable pub given_with : {R : Type 0} → (List ℕ → List (List ℕ) → Option R) → List (List ℕ) → Option R
given_with give [] = None
given_with give (w ∷ ws) = give w ws

-- "A line over 80 bytes (newline not counted), an empty one, or one of any other form is 14"
unfoldable pub longest_line : ℕ
longest_line = 80

unfoldable pub given_of : {R : Type 0} → (List ℕ → List (List ℕ) → Option R) → List ℕ → Option R
given_of give line = cond (leb (length line) longest_line) (given_with give (words line)) None

unfoldable pub command_of : List ℕ → Option Command
command_of = given_of command_in

unfoldable pub ballots_of : List ℕ → Option Creation
ballots_of = given_of ballots_in
