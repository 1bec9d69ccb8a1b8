-- `put_end` stores the lowest gap for LOW, a row for a name and nothing for HIGH.
use borrow.Author.Tests.{eq-eqb, ne_eqb, lt-ltb, le-ltb}
use native.Mathlib.Omega.{arith}
use Rattle.member.specs.Limits.{high}
use Rattle.member.specs.EndLaws.{end_row}
use Rattle.member.proofs.Fits.{own_name}
use Rattle.member.proofs.Member.put_end.Goals as goal

pub returns-then-b-eq0 : goal.returns-then-b-eq0
unfolding end_row
returns-then-b-eq0 c =
    let e = c.args.b.end in
    rw (eq-eqb e 0 (omega arith), le-ltb 0 e (omega arith))

pub bounds-self-at : goal.bounds-self-at
bounds-self-at c = omega (arith, own_name c.args.b.end (omega arith) (omega arith))

pub returns-then-b-lt-HIGH : goal.returns-then-b-lt-HIGH
unfolding end_row
returns-then-b-lt-HIGH c =
    let e = c.args.b.end in
    rw (ne_eqb e 0 (λ r. omega arith), lt-ltb 0 e (omega arith), lt-ltb e high (omega arith))

pub returns-else-b-lt-HIGH : goal.returns-else-b-lt-HIGH
unfolding end_row
returns-else-b-lt-HIGH c =
    let e = c.args.b.end in
    rw (ne_eqb e 0 (λ r. omega arith), lt-ltb 0 e (omega arith), le-ltb e high (omega arith))
