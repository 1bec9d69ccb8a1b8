-- `read_last_row` reads the four fields of an entry, and ends with the first fault.
use native.Mathlib.Nat.{add_assoc}
use native.Mathlib.Omega.{arith}
use borrow.Author.Tests.{le-leb, lt-leb}
use Rattle.std.proofs.lemmas.Result.{err_from_is_err_and}
use Rattle.image.specs.Reader.{then, judged, read_row}
use Rattle.image.proofs.entries.read_last_row.Goals as goal

pub returns-in_err-name : goal.returns-in_err-name
unfolding read_row then judged
returns-in_err-name c =
    let p = err_from_is_err_and c.from_residual.result c.from_residual.ensures.1 in
    rw (p.1, p.2, ← c.in_err-name.ensures.taken)

pub returns-then-from-lowest : goal.returns-then-from-lowest
unfolding read_row then judged
returns-then-from-lowest c =
    rw (← c.in_ok-name.ensures.taken, lt-leb c.args.lowest c.in_ok-name.name (omega (arith, c.if-from-lowest.true, c.from.ensures)))

pub returns-in_err-version : goal.returns-in_err-version
unfolding read_row then judged
returns-in_err-version c =
    let p = err_from_is_err_and c.from_residual-in_err-version.result c.from_residual-in_err-version.ensures.1 in
    rw (p.1, p.2, ← c.in_ok-name.ensures.taken, le-leb c.args.lowest c.in_ok-name.name (omega (arith, c.if-from-lowest.false, c.from.ensures)), ← c.in_err-version.ensures.taken)

pub returns-then-version-eq0 : goal.returns-then-version-eq0
unfolding read_row then judged
returns-then-version-eq0 c =
    rw (← c.in_ok-name.ensures.taken, le-leb c.args.lowest c.in_ok-name.name (omega (arith, c.if-from-lowest.false, c.from.ensures)), ← c.in_ok-version.ensures.taken, lt-leb 1 c.in_ok-version.version (omega (arith, c.if-version-eq0.true)))

pub returns-in_err-field : goal.returns-in_err-field
unfolding read_row then judged
returns-in_err-field c =
    let p = err_from_is_err_and c.from_residual-in_err-field.result c.from_residual-in_err-field.ensures.1 in
    rw (p.1, p.2, ← c.in_ok-name.ensures.taken, le-leb c.args.lowest c.in_ok-name.name (omega (arith, c.if-from-lowest.false, c.from.ensures)), ← c.in_ok-version.ensures.taken, le-leb 1 c.in_ok-version.version (omega (arith, c.if-version-eq0.false)), add_assoc c.args.at 20 24, ← c.in_err-field.ensures.taken)

pub returns-in_err-field-2 : goal.returns-in_err-field-2
unfolding read_row then judged
returns-in_err-field-2 c =
    let p = err_from_is_err_and c.from_residual-in_err-field-2.result c.from_residual-in_err-field-2.ensures.1 in
    rw (p.1, p.2, ← c.in_ok-name.ensures.taken, le-leb c.args.lowest c.in_ok-name.name (omega (arith, c.if-from-lowest.false, c.from.ensures)), ← c.in_ok-version.ensures.taken, le-leb 1 c.in_ok-version.version (omega (arith, c.if-version-eq0.false)), add_assoc c.args.at 20 24, ← c.in_ok-field.ensures.taken, add_assoc c.args.at 44 16, ← c.in_err-field-2.ensures.taken)

pub returns : goal.returns
unfolding read_row then judged
returns c =
    rw (← c.in_ok-name.ensures.taken, le-leb c.args.lowest c.in_ok-name.name (omega (arith, c.if-from-lowest.false, c.from.ensures)), ← c.in_ok-version.ensures.taken, le-leb 1 c.in_ok-version.version (omega (arith, c.if-version-eq0.false)), add_assoc c.args.at 20 24, ← c.in_ok-field.ensures.taken, add_assoc c.args.at 44 16, ← c.in_ok-field-2.ensures.taken, add_assoc c.args.at 60 24)
