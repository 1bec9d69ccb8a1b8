-- `read_suite` reads the first four fields, and then the votes and the members, and ends with the first fault.
use native.Mathlib.Omega.{arith}
use mathlib.Core.Path.{refl}
use borrow.Author.Tests.{eq-eqb, ne_eqb}
use Rattle.std.proofs.lemmas.Result.{err_from_is_err_and}
use Rattle.image.specs.Reader.{then, judged, read_suite}
use Rattle.image.proofs.reader.read_suite.Goals as goal

pub returns-in_err-number : goal.returns-in_err-number
unfolding read_suite then judged
returns-in_err-number c =
    let p = err_from_is_err_and c.from_residual.result c.from_residual.ensures.1 in
    rw (p.1, p.2, ← c.in_err-number.ensures.taken) (refl, tt)

pub returns-then-number-ne-EDITION : goal.returns-then-number-ne-EDITION
unfolding read_suite then judged
returns-then-number-ne-EDITION c =
    rw (← c.in_ok-number.ensures.taken, ne_eqb c.in_ok-number.number 1 c.if-number-ne-EDITION.true) (refl, tt)

pub returns-in_err-less : goal.returns-in_err-less
unfolding read_suite then judged
returns-in_err-less c =
    let p = err_from_is_err_and c.from_residual-in_err-less.result c.from_residual-in_err-less.ensures.1 in
    rw (p.1, p.2, ← c.in_ok-number.ensures.taken, eq-eqb c.in_ok-number.number 1 c.if-number-ne-EDITION.false, ← c.in_err-less.ensures.taken) (refl, tt)

pub returns-in_err-read : goal.returns-in_err-read
unfolding read_suite then judged
returns-in_err-read c =
    let p = err_from_is_err_and c.from_residual-in_err-read.result c.from_residual-in_err-read.ensures.1 in
    rw (
      p.1,
      p.2,
      ← c.in_ok-number.ensures.taken,
      eq-eqb c.in_ok-number.number 1 c.if-number-ne-EDITION.false,
      ← c.in_ok-less.ensures.taken,
      ← c.in_err-read.ensures.taken,
    ) (refl, tt)

pub returns-in_err-write : goal.returns-in_err-write
unfolding read_suite then judged
returns-in_err-write c =
    let p = err_from_is_err_and c.from_residual-in_err-write.result c.from_residual-in_err-write.ensures.1 in
    rw (
      p.1,
      p.2,
      ← c.in_ok-number.ensures.taken,
      eq-eqb c.in_ok-number.number 1 c.if-number-ne-EDITION.false,
      ← c.in_ok-less.ensures.taken,
      ← c.in_ok-read.ensures.taken,
      ← c.in_err-write.ensures.taken,
    ) (refl, tt)

pub read_voted-requires : goal.read_voted-requires
read_voted-requires c = (omega arith, (omega (arith, c.in_ok-less.ensures.small), c.requires))

pub returns : goal.returns
unfolding read_suite then judged
returns c =
    rw (
      ← c.in_ok-number.ensures.taken,
      eq-eqb c.in_ok-number.number 1 c.if-number-ne-EDITION.false,
      ← c.in_ok-less.ensures.taken,
      ← c.in_ok-read.ensures.taken,
      ← c.in_ok-write.ensures.taken,
    ) c.read_voted.ensures
