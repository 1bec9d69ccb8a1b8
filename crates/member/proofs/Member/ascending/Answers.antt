-- `ascending` goes up through the entries. The invariant: the answer is that of the entries from this one on, which start at `from`.
use mathlib.Core.Path.{◌≡◌, ◌∙◌, sym, ap, refl}
use mathlib.Core.Bool.{true, false}
use native.Mathlib.Omega.{arith}
use lib.ListN.{take, drop}
use Rattle.member.specs.Sound.{ascends}
use Rattle.member.proofs.Soundness.{ascends_low, ascends_step, ascends_end, take_used, in_range_name}
use Rattle.member.proofs.Member.ascending.Goals as goal
use Rattle.member.proofs.Member.ascending.Goals.{then-row-from-via-then-row-from, then-row-from-via-else-row-from+then-not-in_range}

pub loop-row-init : goal.loop-row-init
loop-row-init c = (take_used c.args.self.now c.used-n.result c.used-n.ensures.0, refl)

pub returns-then-row-from : goal.returns-then-row-from
returns-then-row-from c =
    let l = take c.used-n.result c.args.self.now.rows in
    let i = c.loop-row.row-index in
    let v = c.loop-row.invariant in
    let e : ascends c.loop-row.from (drop i l) ≡ false =
    elim c.then-row-from.branch [
      | then-row-from-via-then-row-from w ↦ ascends_low _ l i (omega arith) w.if-row-from.true
      | then-row-from-via-else-row-from+then-not-in_range w ↦
          ascends_step _ l i false (omega arith) (omega arith) (sym w.if-not-in_range.true ∙ w.in_range.ensures)
    ] in
    sym (ap (ascends 0) (sym v.0) ∙ v.1 ∙ e)

pub overflow_add-from : goal.overflow_add-from
overflow_add-from c = omega (arith, in_range_name _ (sym c.in_range.ensures ∙ c.if-not-in_range.false))

pub loop-row-preserved : goal.loop-row-preserved
loop-row-preserved c =
    let l = take c.used-n.result c.args.self.now.rows in
    let v = c.loop-row.invariant in
    let b : true ≡ _ = sym c.if-not-in_range.false ∙ c.in_range.ensures in
    (v.0, v.1 ∙ ascends_step _ l c.loop-row.row-index true (omega arith) (omega arith) b)

pub returns : goal.returns
returns c =
    let l = take c.used-n.result c.args.self.now.rows in
    let v = c.loop-row.invariant in
    sym (ap (ascends 0) (sym v.0) ∙ v.1 ∙ ascends_end l c.loop-row.from c.loop-row.row-index (omega arith))
