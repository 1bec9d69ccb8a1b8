-- `text::write::digits`: as many as the number is large.
use mathlib.Core.Path.{sym}
use native.Mathlib.Omega.{arith}
use Rattle.text.proofs.Writing.{decimal_one, decimal_digits}
use Rattle.text.proofs.write.digits.Goals as goal

pub returns-then-n-lt10 : goal.returns-then-n-lt10
returns-then-n-lt10 c = (sym (decimal_one _ c.if-n-lt10.true), omega arith)

pub returns-then-n-lt100 : goal.returns-then-n-lt100
returns-then-n-lt100 c = (sym (decimal_digits 1 _ (omega arith) (omega arith) (omega arith)), omega arith)

pub returns-then-n-lt1000 : goal.returns-then-n-lt1000
returns-then-n-lt1000 c = (sym (decimal_digits 2 _ (omega arith) (omega arith) (omega arith)), omega arith)

pub returns-then-n-lt10000 : goal.returns-then-n-lt10000
returns-then-n-lt10000 c = (sym (decimal_digits 3 _ (omega arith) (omega arith) (omega arith)), omega arith)

pub returns-then-n-lt100000 : goal.returns-then-n-lt100000
returns-then-n-lt100000 c = (sym (decimal_digits 4 _ (omega arith) (omega arith) (omega arith)), omega arith)

pub returns-then-n-lt1000000 : goal.returns-then-n-lt1000000
returns-then-n-lt1000000 c = (sym (decimal_digits 5 _ (omega arith) (omega arith) (omega arith)), omega arith)

pub returns-then-n-lt10000000 : goal.returns-then-n-lt10000000
returns-then-n-lt10000000 c = (sym (decimal_digits 6 _ (omega arith) (omega arith) (omega arith)), omega arith)

pub returns-then-n-lt100000000 : goal.returns-then-n-lt100000000
returns-then-n-lt100000000 c = (sym (decimal_digits 7 _ (omega arith) (omega arith) (omega arith)), omega arith)

pub returns-then-n-lt1000000000 : goal.returns-then-n-lt1000000000
returns-then-n-lt1000000000 c = (sym (decimal_digits 8 _ (omega arith) (omega arith) (omega arith)), omega arith)

pub returns : goal.returns
returns c = (sym (decimal_digits 9 _ (omega arith) (omega arith) (omega (arith, c.ranges.n.fits))), omega arith)
