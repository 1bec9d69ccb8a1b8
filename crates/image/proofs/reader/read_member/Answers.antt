-- `read_member` reads the count, the lowest gap version and the entries, and ends with the first fault.
use native.Mathlib.Nat.{add_assoc}
use native.Mathlib.Omega.{arith}
use mathlib.Core.Path.{◌≡◌, refl, subst}
use Prim.Native.Nat.{ℕ, ◌+◌}
use borrow.Author.Tests.{le-leb, lt-leb}
use Rattle.std.proofs.lemmas.Result.{err_from_is_err_and}
use Rattle.image.specs.Reader.{then, judged, read_member}
use Rattle.image.specs.Steps.{ends_by}
use Rattle.image.proofs.reader.read_member.Goals as goal

pub returns-in_err-count : goal.returns-in_err-count
unfolding read_member then judged
returns-in_err-count c =
    let p = err_from_is_err_and c.from_residual.result c.from_residual.ensures.1 in
    rw (p.1, p.2, ← c.in_err-count.ensures.taken) (refl, tt)

pub returns-then-count-gt32 : goal.returns-then-count-gt32
unfolding read_member then judged
returns-then-count-gt32 c =
    rw (← c.in_ok-count.ensures.taken, lt-leb c.in_ok-count.count 32 (omega (arith, c.if-count-gt32.true))) (refl, tt)

pub returns-in_err-low : goal.returns-in_err-low
unfolding read_member then judged
returns-in_err-low c =
    let p = err_from_is_err_and c.from_residual-in_err-low.result c.from_residual-in_err-low.ensures.1 in
    rw (p.1, p.2, ← c.in_ok-count.ensures.taken, le-leb c.in_ok-count.count 32 (omega (arith, c.if-count-gt32.false)), ← c.in_err-low.ensures.taken) (refl, tt)

pub returns : goal.returns
unfolding read_member then judged
returns c =
    let e : c.args.at + 30 + 2688 ≡ c.args.at + 2718 = omega arith in
    rw (← c.in_ok-count.ensures.taken, le-leb c.in_ok-count.count 32 (omega (arith, c.if-count-gt32.false)), ← c.in_ok-low.ensures.taken, add_assoc c.args.at 6 24)
    (c.read_rows.ensures.0, subst (λ (n : ℕ). ends_by c.read_rows.result n) e c.read_rows.ensures.1)
