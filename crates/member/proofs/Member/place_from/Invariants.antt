-- `place_from` goes down through a half. The invariant: the places from i on say `at`.
use mathlib.Core.Path.{◌≡◌}
use Prim.Native.Nat.{◌≤◌, ◌+◌}
use lib.ListN.{length, drop}
use Rattle.member.specs.Tile.{entries}
use Rattle.member.specs.Search.{seat_in}
use Rattle.member.proofs.Halves.{half_from}
use Rattle.member.proofs.Member.place_from.Given as goal

abbrev pub invariant-loop-i : goal.invariant-loop-i
invariant-loop-i l = (l.from ≤ 16) × (l.at ≤ 16) × (length (entries (half_from l.self l.from)) ≡ 16)
    × (l.at ≡ l.i + seat_in (drop l.i (entries (half_from l.self l.from))) l.name)
