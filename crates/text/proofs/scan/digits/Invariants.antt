-- `text::scan::digits`: the number is that of the digits ahead, after those passed, which come to no more than is allowed.
use Prim.Native.Nat.{◌≤◌}
use mathlib.Core.Path.{◌≡◌}
use lib.ListN.{drop}
use Rattle.text.specs.Words.{largest}
use Rattle.text.specs.Scan.{number_on}
use Rattle.text.proofs.scan.digits.Given as goal

abbrev pub invariant-loop-i : goal.invariant-loop-i
invariant-loop-i l = (l.value ≤ largest) × (number_on l.value l.i (drop l.i l.line) ≡ number_on l.initial.value l.at (drop l.at l.line))
