-- `best_row` holds the best row so far. The invariant: going on with it over the rows left comes to the best of all.
use Rattle.std.proofs.Common.{◌≡◌, List, ℕ, drop, Bor}
use Rattle.suite.specs.Best.{best}
use Rattle.suite.specs.Sets.{chosen}
use Rattle.suite.specs.Rows.{beats_at, no_row}
use Rattle.suite.proofs.SetFolds.{best_on}
use Rattle.suite.proofs.table.best_row.Given as goal

abbrev pub invariant-loop-row : goal.invariant-loop-row
invariant-loop-row l =
    let f = beats_at l.column l.then in
    best f no_row (chosen l.table l.set)
    ≡ best_on f no_row (λ (r : Bor (List ℕ)). r.now) l.best (chosen (drop l.row-index l.table) l.left)
