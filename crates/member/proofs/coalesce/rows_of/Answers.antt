-- `rows_of` is one for a name.
use mathlib.Core.Path.{sym}
use native.Mathlib.Omega.{arith}
use Rattle.member.proofs.Fits.{own_low, own_name, own-high}
use Rattle.member.proofs.coalesce.rows_of.Goals as goal
use Rattle.member.proofs.coalesce.rows_of.Goals.{else-end-gt0-via-then-end-gt0+else-end-lt-HIGH, else-end-gt0-via-else-end-gt0}

pub returns-then-end-lt-HIGH : goal.returns-then-end-lt-HIGH
returns-then-end-lt-HIGH c = (sym (own_name c.args.end (omega arith) (omega arith)), omega arith)

pub returns-else-end-gt0 : goal.returns-else-end-gt0
returns-else-end-gt0 c =
    let e = c.args.end in
    elim c.else-end-gt0.branch [
      | else-end-gt0-via-then-end-gt0+else-end-lt-HIGH w ↦ (sym (own-high e (omega arith)), omega arith)
      | else-end-gt0-via-else-end-gt0 w ↦ (sym (own_low e (omega arith)), omega arith)
    ]
