-- `text::write::end`: LOW, HIGH or a name.
use mathlib.Core.Path.{ap}
use native.Mathlib.Omega.{arith}
use lib.ListN.{length}
use Rattle.text.specs.Words.{ascii}
use Rattle.text.specs.Answer.{high_end}
use Rattle.text.proofs.Writing.{end_low, end_high, end_name}
use Rattle.text.proofs.write.end.Goals as goal

pub prepend-requires : goal.prepend-requires
unfolding ascii
prepend-requires c = omega (arith, ap length (end_low _ c.if-e-eq0.true))

pub returns-then-e-eq0 : goal.returns-then-e-eq0
unfolding ascii
returns-then-e-eq0 c = rw (end_low _ c.if-e-eq0.true) c.prepend.ensures

pub prepend-requires-then-e-eq-HIGH : goal.prepend-requires-then-e-eq-HIGH
unfolding ascii high_end
prepend-requires-then-e-eq-HIGH c = omega (arith, ap length (end_high _ c.if-e-eq0.false c.if-e-eq-HIGH.true))

pub returns-then-e-eq-HIGH : goal.returns-then-e-eq-HIGH
unfolding ascii high_end
returns-then-e-eq-HIGH c = rw (end_high _ c.if-e-eq0.false c.if-e-eq-HIGH.true) c.prepend-then-e-eq-HIGH.ensures

pub number-requires : goal.number-requires
unfolding high_end
number-requires c = omega (arith, ap length (end_name _ c.if-e-eq0.false c.if-e-eq-HIGH.false))

pub returns : goal.returns
unfolding high_end
returns c = rw (end_name _ c.if-e-eq0.false c.if-e-eq-HIGH.false) c.number.ensures
