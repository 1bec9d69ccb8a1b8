-- `text::write::number`: the digits, last first, until less than ten is left.
use native.Mathlib.Omega.{arith}
use Rattle.text.proofs.Writing.{decimal_some, digits_begin, digits-room, digits_more, digits-end}
use Rattle.text.proofs.write.number.Goals as goal

pub overflow_sub-from : goal.overflow_sub-from
overflow_sub-from c = omega (arith, decimal_some c.args.n)

pub loop-left-init : goal.loop-left-init
loop-left-init c = digits_begin _ _ _ c.requires.0 c.requires.1 c.ranges.n.fits

pub overflow_sub-from-in-loop-left : goal.overflow_sub-from-in-loop-left
overflow_sub-from-in-loop-left c = let r = digits-room c.loop-left.invariant c.loop-left-test.true in omega arith

pub loop-left-preserved : goal.loop-left-preserved
loop-left-preserved c = digits_more c.loop-left.invariant c.loop-left-test.true

pub returns : goal.returns
returns c = digits-end c.loop-left.invariant c.loop-left-test.false
