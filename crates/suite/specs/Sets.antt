-- Sets are given as a number; bit i names member i.
use Rattle.std.specs.Prelude.{List, [], ◌∷◌, Bool, true, cond, ◌&&◌, ℕ, ◌+◌, ◌/◌, ◌%◌, ◌^◌, length, eqb}

-- what a set names of a list, one for each member, lowest-numbered first
unfoldable pub chosen : {A : Type 0} → List A → ℕ → List A
chosen [] set = []
chosen (a ∷ l) set = cond (eqb (set % 2) 1) (a ∷ chosen l (set / 2)) (chosen l (set / 2))

-- f done to what the set names, the others as they were
unfoldable pub changed : {A : Type 0} → (A → A) → List A → ℕ → List A
changed f [] set = []
changed f (a ∷ l) set = cond (eqb (set % 2) 1) (f a) a ∷ changed f l (set / 2)

-- a set names only members that exist
abbrev pub exists : List ℕ → ℕ → Bool
exists votes set = eqb (set / 2 ^ length votes) 0

unfoldable pub total : List ℕ → ℕ
total [] = 0
total (v ∷ l) = v + total l

abbrev pub votes_of : List ℕ → ℕ → ℕ
votes_of votes set = total (chosen votes set)

unfoldable pub all : {A : Type 0} → (A → Bool) → List A → Bool
all f [] = true
all f (a ∷ l) = f a && all f l
