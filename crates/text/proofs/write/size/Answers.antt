-- `text::write::size`: by the kind of the answer.
use native.Mathlib.Omega.{arith}
use Rattle.text.proofs.Sizes.{text_size}
use Rattle.text.proofs.write.size.Goals as goal

pub returns-in-SuiteOk : goal.returns-in-SuiteOk
returns-in-SuiteOk c = rw (c.in-SuiteOk.is, text_size)

pub returns-in-Ok : goal.returns-in-Ok
returns-in-Ok c = rw (c.in-Ok.is, text_size) (omega arith)

pub returns-in-Removed : goal.returns-in-Removed
returns-in-Removed c = rw (c.in-Removed.is, text_size) (omega arith)

pub returns-in-At : goal.returns-in-At
returns-in-At c = rw (c.in-At.is, text_size) (omega arith)

pub returns-in-Absent : goal.returns-in-Absent
returns-in-Absent c = rw (c.in-Absent.is, text_size) (omega arith)

pub returns-in-Near : goal.returns-in-Near
returns-in-Near c = rw (c.in-Near.is, text_size) (omega arith)

pub returns-in-Refused : goal.returns-in-Refused
returns-in-Refused c = rw (c.in-Refused.is, text_size) (omega arith)
