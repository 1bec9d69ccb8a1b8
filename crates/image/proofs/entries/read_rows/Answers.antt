-- `read_rows` puts entry after entry into the member and counts them at the end, or ends with the first fault.
use native.Mathlib.Omega.{arith}
use Rattle.std.proofs.lemmas.Result.{err_from_is_err_and}
use Rattle.suite.specs.Outcome.{number_of}
use Rattle.image.proofs.Rows.{rows_start, rows_more, rows-fault, rows_end}
use Rattle.image.proofs.entries.read_rows.Goals as goal

pub loop-i-init : goal.loop-i-init
loop-i-init c =
    let a = c.args in
    let q = c.requires in
    rows_start a.bytes.now a.count a.low a.at q.1.0 a.member.now c.set_lowest.new.self q.1.1 c.set_lowest.ensures

pub loop-i-preserved : goal.loop-i-preserved
loop-i-preserved c =
    let a = c.args in
    let l = c.loop-i in
    rw c.from-lowest.ensures
    (rows_more a.bytes.now a.count a.low a.at (omega arith) l.member l.next l.lowest l.i l.invariant c.set_entry.new.self c.in_ok-row.row
    c.loop-i-test.true
    c.in_ok-row.ensures
    c.set_entry.ensures)

pub returns-in_err-row : goal.returns-in_err-row
returns-in_err-row c =
    let a = c.args in
    let l = c.loop-i in
    let p = err_from_is_err_and c.from_residual.result c.from_residual.ensures.1 in
    rw (p.1, p.2) (rows-fault a.bytes.now a.count a.low a.at (omega arith) l.member l.next l.lowest l.i l.invariant (number_of c.in_err-row.field-0.0) c.loop-i-test.true c.in_err-row.ensures, tt)

pub returns : goal.returns
returns c =
    let a = c.args in
    let q = c.requires in
    let l = c.loop-i in (
      rows_end a.bytes.now a.count a.low a.at q.1.0 l.member l.next l.lowest l.i l.invariant c.set_size.new.self c.loop-i-test.false c.set_size.ensures,
      omega (arith, l.invariant.place, l.invariant.so_far.few, q),
    )
