-- `best_row` holds the best row so far. The invariant: going on with it over the rows left comes to the best of all.
use Rattle.std.proofs.Common.{◌≡◌, ℕ, ◌<◌, List, [], refl, ap, sym, ◌∙◌, length, drop, get_or, Bor, rules, arith}
use Rattle.std.specs.Option.{unwrap_or}
use Rattle.suite.specs.Sets.{chosen}
use Rattle.suite.specs.SetLaws.{chosen_none}
use Rattle.suite.specs.Rows.{beats_at, no_row}
use Rattle.suite.proofs.Sets.{chosen_past}
use Rattle.suite.proofs.SetFolds.{best-taken, best-left, best-passed, best_end}
use Rattle.suite.proofs.table.best_row.Goals as goal
use Rattle.suite.proofs.table.best_row.Goals.{then-left-eq1+then-is_none_or, then-left-eq1+else-is_none_or, else-left-eq1, else-loop-row-test, then-loop-row-test+then-left-eq0}

abbrev now : Bor (List ℕ) → List ℕ
now r = r.now

pub loop-row-init : goal.loop-row-init
loop-row-init c = refl

pub loop-row-preserved : goal.loop-row-preserved
loop-row-preserved c =
    let a = c.args in
    let f = beats_at a.column a.then in
    let l = a.table.now in
    let k = c.loop-row in
    let i = k.row-index in
    let v = get_or l i [] in
    let h : i < length l = omega arith in
    let best = c.if-left-eq1.best in
    elim c.if-left-eq1.branch [
      | then-left-eq1+then-is_none_or w ↦ best-taken f no_row now l i k.left h k.best k.invariant best [] v w.if-left-eq1.true refl w.is_none_or.result w.is_none_or.ensures (λ y q. search rules) w.if-is_none_or.true w.best-is refl
      | then-left-eq1+else-is_none_or w ↦ best-left f no_row now l i k.left h k.best k.invariant best [] v w.if-left-eq1.true refl w.is_none_or.result w.is_none_or.ensures (λ y q. search rules) w.if-is_none_or.false w.best-is
      | else-left-eq1 w ↦ best-passed f no_row now l i k.left h k.best k.invariant best [] w.if-left-eq1.false w.best-is
    ]

pub returns : goal.returns
returns c =
    let a = c.args in
    let l = a.table.now in
    let k = c.loop-row in
    let none : chosen (drop k.row-index l) k.left ≡ [] = elim c.loop-row-test.branch [
      | else-loop-row-test w ↦ chosen_past l k.row-index k.left (omega (arith, w.loop-row-test.false))
      | then-loop-row-test+then-left-eq0 w ↦ rw w.if-left-eq0.true (chosen_none (drop k.row-index l))
    ] in
    c.unwrap_or.ensures
    ∙ ap (λ o. unwrap_or o no_row) c.copied.ensures
    ∙ sym (k.invariant ∙ best_end (beats_at a.column a.then) no_row now k.best none)
