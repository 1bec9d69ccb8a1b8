-- `text::write::line`: by the kind of the answer.
use native.Mathlib.Omega.{arith}
use Rattle.text.specs.Words.{ascii}
use Rattle.text.specs.Answer.{saying, text_of}
use Rattle.text.proofs.Writing.{written_then}
use Rattle.text.proofs.Sizes.{text_some, text_sized}
use Rattle.text.proofs.write.line.Goals as goal

pub prepend-end-requires : goal.prepend-end-requires
prepend-end-requires c = omega (arith, text_some c.args.reply)

pub prepend-requires : goal.prepend-requires
prepend-requires c = omega (arith, text_sized c.in-SuiteOk.is, c.prepend-end.ensures.place, c.prepend-end.auto.text)

pub one-requires : goal.one-requires
one-requires c = omega (arith, text_sized c.in-Ok.is, c.prepend-end.ensures.place, c.prepend-end.auto.text)

pub two-requires : goal.two-requires
two-requires c = omega (arith, text_sized c.in-Removed.is, c.prepend-end.ensures.place, c.prepend-end.auto.text)

pub two-requires-in-At : goal.two-requires-in-At
two-requires-in-At c = omega (arith, text_sized c.in-At.is, c.prepend-end.ensures.place, c.prepend-end.auto.text)

pub one-requires-in-Absent : goal.one-requires-in-Absent
one-requires-in-Absent c = omega (arith, text_sized c.in-Absent.is, c.prepend-end.ensures.place, c.prepend-end.auto.text)

pub near-requires : goal.near-requires
near-requires c = omega (arith, text_sized c.in-Near.is, c.prepend-end.ensures.place, c.prepend-end.auto.text)

pub one-requires-in-Refused : goal.one-requires-in-Refused
one-requires-in-Refused c = omega (arith, text_sized c.in-Refused.is, c.prepend-end.ensures.place, c.prepend-end.auto.text)

pub returns-in-SuiteOk : goal.returns-in-SuiteOk
unfolding text_of saying ascii
returns-in-SuiteOk c = rw c.in-SuiteOk.is (written_then c.prepend-end.ensures c.prepend.ensures)

pub returns-in-Ok : goal.returns-in-Ok
unfolding text_of saying ascii
returns-in-Ok c = rw c.in-Ok.is (written_then c.prepend-end.ensures c.one.ensures)

pub returns-in-Removed : goal.returns-in-Removed
unfolding text_of saying ascii
returns-in-Removed c = rw c.in-Removed.is (written_then c.prepend-end.ensures c.two.ensures)

pub returns-in-At : goal.returns-in-At
unfolding text_of saying ascii
returns-in-At c = rw c.in-At.is (written_then c.prepend-end.ensures c.two-in-At.ensures)

pub returns-in-Absent : goal.returns-in-Absent
unfolding text_of saying ascii
returns-in-Absent c = rw c.in-Absent.is (written_then c.prepend-end.ensures c.one-in-Absent.ensures)

pub returns-in-Near : goal.returns-in-Near
unfolding text_of saying ascii
returns-in-Near c = rw c.in-Near.is (written_then c.prepend-end.ensures c.near.ensures)

pub returns-in-Refused : goal.returns-in-Refused
unfolding text_of saying ascii
returns-in-Refused c = rw c.in-Refused.is (written_then c.prepend-end.ensures c.one-in-Refused.ensures)
