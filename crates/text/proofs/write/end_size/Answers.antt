-- `text::write::end_size`: LOW, HIGH or a name.
use native.Mathlib.Omega.{arith}
use Rattle.text.specs.Words.{ascii}
use Rattle.text.specs.Answer.{high_end}
use Rattle.text.proofs.Writing.{end_low, end_high, end_name}
use Rattle.text.proofs.write.end_size.Goals as goal

pub returns-then-end-eq0 : goal.returns-then-end-eq0
unfolding ascii
returns-then-end-eq0 c = (rw (end_low _ c.if-end-eq0.true), omega arith)

pub returns-then-end-eq-HIGH : goal.returns-then-end-eq-HIGH
unfolding ascii high_end
returns-then-end-eq-HIGH c = (rw (end_high _ c.if-end-eq0.false c.if-end-eq-HIGH.true), omega arith)

pub returns : goal.returns
unfolding high_end
returns c = (rw (end_name _ c.if-end-eq0.false c.if-end-eq-HIGH.false) c.digits.ensures.0, c.digits.ensures.1)
