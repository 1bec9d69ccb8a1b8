-- `run::lines::line_end`: how far the next newline is from the place reached.
use Rattle.std.proofs.Common.{◌+◌, arith}
use Rattle.run.proofs.Ends.{at_newline, passed, passed-two}
use Rattle.run.proofs.lines.line_end.Goals as goal

pub bounds-text-i-in-loop-i : goal.bounds-text-i-in-loop-i
bounds-text-i-in-loop-i c = omega (arith, passed c.args.text.now c.loop-i.i c.loop-i.invariant.0 c.loop-i-test.true)

pub returns-then-text-i-eq10 : goal.returns-then-text-i-eq10
returns-then-text-i-eq10 c =
    let l = c.loop-i in
    let text = c.args.text.now in
    let p = passed text l.i l.invariant.0 c.loop-i-test.true in
    omega (arith, p, at_newline text (l.i + 1) (omega (arith, p)) c.if-text-i-eq10.true)

pub loop-i-smaller : goal.loop-i-smaller
loop-i-smaller c =
    let l = c.loop-i in
    omega (arith, passed-two c.args.text.now l.i l.invariant.0 c.loop-i-test.true c.if-text-i-eq10.false)

pub loop-i-preserved : goal.loop-i-preserved
loop-i-preserved c =
    let l = c.loop-i in
    omega (arith, passed-two c.args.text.now l.i l.invariant.0 c.loop-i-test.true c.if-text-i-eq10.false)

pub returns : goal.returns
returns c = omega (arith, at_newline c.args.text.now c.loop-i.i (omega arith) c.loop-i-test.false)
