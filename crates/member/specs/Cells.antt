-- A tile's memory: 130 numbers. The first is the count of its entries, the second the version of the gap above LOW; then
-- 32 places of four numbers: name, version, value, version of the gap above. This says which member they are.
use Rattle.std.specs.Prelude.{List, [], ◌∷◌, ℕ, zero, suc, get_or, drop}
use Rattle.member.specs.Limits.{slots}
use Rattle.member.specs.declared.Row.{Row}
use Rattle.member.specs.declared.Member.{Member}

-- the row that begins a list of numbers
abbrev pub row_at : List ℕ → Row
row_at l = record { name = get_or l 0 0; version = get_or l 1 0; value = get_or l 2 0; gap = get_or l 3 0 }

-- n rows, one after another
unfoldable pub rows_in : ℕ → List ℕ → List Row
rows_in zero l = []
rows_in (suc n) l = row_at l ∷ rows_in n (drop 4 l)

abbrev pub tile_in : List ℕ → Member
tile_in l = record { low = get_or l 1 0; count = get_or l 0 0; rows = rows_in slots (drop 2 l) }
