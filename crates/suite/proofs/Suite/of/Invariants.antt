-- `of` reads tile after tile.
use mathlib.Core.List.{[]}
use lib.ListN.{get_or}
use Rattle.member.specs.Cells.{tile_in}
use Rattle.member.proofs.Filled.{Filled}
use Rattle.suite.proofs.Suite.of.Given as goal

abbrev pub invariant-loop-i : goal.invariant-loop-i
invariant-loop-i l = Filled (tile_in []) 8 (λ j. tile_in (get_or l.lent j [])) l.member-items l.i
