-- `of` reads place after place.
use lib.ListN.{drop, get_or}
use Rattle.member.specs.Tile.{none}
use Rattle.member.specs.Cells.{rows_in}
use Rattle.member.proofs.Filled.{Filled}
use Rattle.member.proofs.Member.of.Given as goal

abbrev pub invariant-loop-i : goal.invariant-loop-i
invariant-loop-i l = Filled none 32 (λ j. get_or (rows_in 32 (drop 2 l.cells)) j none) l.row-items l.i
