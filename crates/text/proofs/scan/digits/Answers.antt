-- `text::scan::digits`: the number is that of the digits ahead, after those passed.
use mathlib.Core.Path.{◌≡◌, refl, sym, ◌∙◌}
use native.Mathlib.Omega.{arith}
use Prim.Native.Nat.{◌+◌, ◌*◌, ◌-◌}
use lib.ListN.{length, get_or}
use Rattle.text.proofs.Numbers.{end_at_lem, space-at, digit_at, large-at, other_at, no_digit_below, no_digit_above}
use Rattle.text.proofs.scan.digits.Goals as goal

pub returns-in_err-checked_mul-in-48-to-57 : goal.returns-in_err-checked_mul-in-48-to-57
returns-in_err-checked_mul-in-48-to-57 c =
    let large = c.in_err-checked_mul-in-48-to-57.ensures in
    c.from_residual.ensures ∙ (sym (large-at _ _ _ (omega arith) (omega arith) (omega arith) refl (omega (arith, large))) ∙ c.loop-i.invariant.1)

pub returns-in_err-value-in-48-to-57 : goal.returns-in_err-value-in-48-to-57
returns-in_err-value-in-48-to-57 c =
    let large = c.in_err-value-in-48-to-57.ensures in
    let tenfold = c.in_ok-checked_mul-in-48-to-57.ensures in
    c.from_residual-in_err-value-in-48-to-57.ensures
    ∙ (sym (large-at _ _ _ (omega arith) (omega arith) (omega arith) c.from.ensures (omega (arith, large, tenfold))) ∙ c.loop-i.invariant.1)

pub loop-i-preserved : goal.loop-i-preserved
loop-i-preserved c =
    let tenfold = c.in_ok-checked_mul-in-48-to-57.ensures in
    let sum = c.in_ok-value-in-48-to-57.ensures in
    let more : c.in_ok-value-in-48-to-57.value ≡ c.loop-i.value * 10 + (get_or c.args.line.now c.loop-i.i 0 - 48) =
    omega (arith, tenfold, sum, c.from.ensures) in
    (omega (arith, sum), rw more (sym (digit_at _ _ _ (omega arith) (omega arith) (omega arith)) ∙ c.loop-i.invariant.1))

pub returns-in-32 : goal.returns-in-32
returns-in-32 c = sym (space-at _ _ _ (omega arith) c.in-32.is c.loop-i.invariant.0) ∙ c.loop-i.invariant.1

pub returns-in_default : goal.returns-in_default
returns-in_default c = sym (other_at _ _ _ (omega arith) (λ e. omega arith) (no_digit_below _ (omega arith))) ∙ c.loop-i.invariant.1

pub returns-in_default-2 : goal.returns-in_default-2
returns-in_default-2 c = sym (other_at _ _ _ (omega arith) (λ e. omega arith) (no_digit_above _ (omega arith))) ∙ c.loop-i.invariant.1

pub returns : goal.returns
returns c =
    let e : c.loop-i.i ≡ length c.args.line.now = omega arith in
    rw (← e) (sym (end_at_lem _ _ _ (omega arith) c.loop-i.invariant.0) ∙ c.loop-i.invariant.1)
