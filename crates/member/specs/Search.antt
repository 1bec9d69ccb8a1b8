-- Where a name or an end belongs among ascending entries. An end is LOW, 0, or the name n, n + 1, or HIGH.
use Rattle.std.specs.Prelude.{List, [], ◌∷◌, cond, ℕ, zero, suc, ◌+◌, ◌-◌, length, get_or, ltb, leb, eqb}
use Rattle.member.specs.Limits.{largest_name, high}
use Rattle.member.specs.Tile.{none}
use Rattle.member.specs.declared.Row.{Row}

-- the end of a name; a name past the largest, which no sound member holds, counts as HIGH
abbrev pub end_of : ℕ → ℕ
end_of n = cond (leb n largest_name) (n + 1) high

-- how many entries stand below a name
unfoldable pub seat_in : List Row → ℕ → ℕ
seat_in [] x = 0
seat_in (r ∷ l) x = cond (ltb r.name x) (suc (seat_in l x)) 0

-- how many entries stand at or below a name
unfoldable pub next_in : List Row → ℕ → ℕ
next_in [] x = 0
next_in (r ∷ l) x = cond (ltb r.name x) (suc (next_in l x)) (cond (eqb r.name x) 1 0)

-- the same of an end: none below LOW, all below HIGH
abbrev pub of_end : (List Row → ℕ → ℕ) → List Row → ℕ → ℕ
of_end f l e = cond (eqb e 0) 0 (cond (leb high e) (length l) (f l (e - 1)))

unfoldable pub below_end : List Row → ℕ → ℕ
below_end l e = of_end seat_in l e

unfoldable pub past_end : List Row → ℕ → ℕ
past_end l e = of_end next_in l e

-- the version of the gap below place i: the lowest gap's, or that of the gap above the entry before
abbrev pub gap_below : ℕ → List Row → ℕ → ℕ
gap_below g l zero = g
gap_below g l (suc i) = (get_or l i none).gap

-- the lower end of that gap
abbrev pub end_below : List Row → ℕ → ℕ
end_below l zero = 0
end_below l (suc i) = end_of (get_or l i none).name

-- the upper end of that gap
abbrev pub end_at : List Row → ℕ → ℕ
end_at l i = cond (ltb i (length l)) (end_of (get_or l i none).name) high
