-- `text::write::number`: the digits, last first, until less than ten is left.
use Rattle.text.proofs.Writing.{Digits}
use Rattle.text.proofs.write.number.Given as goal

abbrev pub invariant-loop-left : goal.invariant-loop-left
invariant-loop-left l = Digits l.initial.text l.at l.n l.text l.from l.left

abbrev pub decreases-loop-left : goal.decreases-loop-left
decreases-loop-left l = l.left
