-- `copy` copies byte after byte.
use mathlib.Core.Path.{◌≡◌}
use mathlib.Core.List.{◌++◌}
use lib.ListN.{length, take, drop}
use Rattle.image.proofs.writer.copy.Given as goal

abbrev pub invariant-loop-i : goal.invariant-loop-i
invariant-loop-i l = (l.to ≡ take l.i l.from ++ drop l.i l.initial.to) × (length l.to ≡ length l.initial.to)
