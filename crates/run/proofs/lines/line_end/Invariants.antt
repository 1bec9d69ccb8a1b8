-- `run::lines::line_end`: how far the next newline is from the place reached.
use Prim.Native.Nat.{◌+◌, ◌<◌}
use mathlib.Core.Path.{◌≡◌}
use lib.ListN.{length, drop}
use Rattle.run.specs.Course.{end_in}
use Rattle.run.proofs.lines.line_end.Given as goal

abbrev pub invariant-loop-i : goal.invariant-loop-i
invariant-loop-i l = (l.i + end_in (drop l.i l.text) < length l.text) × (l.i + end_in (drop l.i l.text) ≡ l.from + end_in (drop l.from l.text))

abbrev pub decreases-loop-i : goal.decreases-loop-i
decreases-loop-i l = end_in (drop l.i l.text)
