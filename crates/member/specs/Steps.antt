-- The steps of the code: a member with one row, its lowest gap or its count replaced; and those of a coalescing, the entries past s
-- moved to their place, and the rows of p and s put in front of them.
use Rattle.std.specs.Prelude.{◌++◌, ℕ, ◌+◌, ◌-◌, length, take, drop, replicate, set}
use Rattle.std.proofs.lemmas.List.Edits.{sets}
use Rattle.member.specs.Tile.{none, entries, unused}
use Rattle.member.specs.Rounds.{bare}
use Rattle.member.specs.Change.{low_set}
use Rattle.member.specs.EndLaws.{end_row}
use Rattle.member.specs.declared.Row.{Row}
use Rattle.member.specs.declared.Bound.{Bound}
use Rattle.member.specs.declared.Member.{Member}

abbrev pub with_row : Member → ℕ → Row → Member
with_row m i r = record { low = m.low; count = m.count; rows = set m.rows i r }

abbrev pub with_low : Member → ℕ → Member
with_low m g = record { low = g; count = m.count; rows = m.rows }

abbrev pub with_count : Member → ℕ → Member
with_count m n = record { low = m.low; count = n; rows = m.rows }

-- the entries from place i on moved to begin at place j; a place that falls free past them holds zero
unfoldable pub moved_at : Member → ℕ → ℕ → Member
moved_at m i j =
    let n = j + (length (entries m) - i) in record {
      low = m.low;
      count = n;
      rows = take j m.rows ++ (drop i (entries m) ++ drop n (replicate (length (entries m)) none ++ unused m));
    }

-- how many rows an end has
abbrev pub own : ℕ → ℕ
own e = length (end_row (bare e) 0)

-- the row of an end in place i, and the version of the gap above the end
abbrev pub end_put : Member → ℕ → Bound → ℕ → Member
end_put m i b g = record { low = low_set m.low b.end g; count = m.count; rows = sets m.rows i (end_row b g) }
