-- `ascending` goes up through the entries. The invariant: the answer is that of the entries from this one on, which start at `from`.
use mathlib.Core.Path.{◌≡◌}
use lib.ListN.{drop}
use Rattle.member.specs.Tile.{entries}
use Rattle.member.specs.Sound.{ascends}
use Rattle.member.proofs.Member.ascending.Given as goal

abbrev pub invariant-loop-row : goal.invariant-loop-row
invariant-loop-row l =
    (l.row-items ≡ entries l.fn.self) × (ascends 0 l.row-items ≡ ascends l.from (drop l.row-index l.row-items))
