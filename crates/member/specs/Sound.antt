-- A member obeys the paper's rules and ranges, and its unused places hold zero.
use Rattle.std.specs.Prelude.{List, [], ◌∷◌, Bool, true, ◌&&◌, ℕ, ◌+◌, leb, eqb}
use Rattle.member.specs.Limits.{largest_name, largest_value, largest_version, slots}
use Rattle.member.specs.Tile.{entries, unused}
use Rattle.member.specs.declared.Row.{Row}
use Rattle.member.specs.declared.Member.{Member}

-- the ranges of an entry's name, version and value, and of the gap above it
unfoldable pub in_range : Row → Bool
in_range r =
    leb r.name largest_name
    && (leb 1 r.version && (leb r.version largest_version && (leb r.value largest_value && leb r.gap largest_version)))

-- entries ascend strictly by name, from x on
unfoldable pub ascends : ℕ → List Row → Bool
ascends x [] = true
ascends x (r ∷ l) = leb x r.name && (in_range r && ascends (r.name + 1) l)

unfoldable pub is_none : Row → Bool
is_none r = eqb r.name 0 && (eqb r.version 0 && (eqb r.value 0 && eqb r.gap 0))

unfoldable pub all_none : List Row → Bool
all_none [] = true
all_none (r ∷ l) = is_none r && all_none l

unfoldable pub sound_member : Member → Bool
sound_member m =
    leb m.count slots && (leb m.low largest_version && (ascends 0 (entries m) && all_none (unused m)))
