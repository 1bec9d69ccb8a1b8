-- A tile's entries, its reading at a name, and the tile with other entries in place of its own.
use Rattle.std.specs.Prelude.{List, [], ◌∷◌, ◌++◌, cond, ℕ, length, take, drop, get_or, replicate, ltb, eqb}
use Rattle.member.specs.Limits.{slots}
use Rattle.member.specs.declared.Row.{Row}
use Rattle.member.specs.declared.Member.{Member}
use Rattle.member.specs.declared.Reading.{Reading}
use Rattle.member.specs.declared.Reading.TheVariants.{Entry, Gap}

-- what an unused place holds
abbrev pub none : Row
none = record { name = 0; version = 0; value = 0; gap = 0 }

abbrev pub empty_tile : ℕ → Member
empty_tile g = record { low = g; count = 0; rows = replicate slots none }

-- A fresh member has no entry and one gap of version 0.
abbrev pub fresh_tile : Member
fresh_tile = empty_tile 0

-- the entries stand in the lowest places; a count past the last place counts as all places
abbrev pub entries : Member → List Row
entries m = take m.count m.rows

abbrev pub unused : Member → List Row
unused m = drop m.count m.rows

abbrev pub row_of : Member → ℕ → Row
row_of m i = get_or (entries m) i none

-- A member's reading at a name: its entry (version, value), or else the version of the gap around the name.
-- g is the version of the gap below the rows.
unfoldable pub reading_in : ℕ → List Row → ℕ → Reading
reading_in g [] x = Gap g
reading_in g (r ∷ l) x =
    cond (eqb r.name x) (Entry r.version r.value) (cond (ltb r.name x) (reading_in r.gap l x) (Gap g))

abbrev pub reading_of : Member → ℕ → Reading
reading_of m x = reading_in m.low (entries m) x

-- the member with this lowest gap and these entries in place of its own; a place that falls free holds zero
unfoldable pub holding : Member → ℕ → List Row → Member
holding m g l =
    record { low = g; count = length l; rows = l ++ drop (length l) (replicate (length (entries m)) none ++ unused m) }
