-- `newest` holds the newest reading so far. The invariant: going on with it over the members left comes to the newest of all.
use Rattle.std.proofs.Common.{◌≡◌, drop}
use Rattle.member.specs.declared.Reading.{Reading}
use Rattle.member.specs.declared.Reading.TheVariants.{Gap}
use Rattle.suite.specs.Best.{best}
use Rattle.suite.specs.Sets.{chosen}
use Rattle.suite.specs.Calls.{newer}
use Rattle.suite.proofs.SetFolds.{best_on}
use Rattle.suite.proofs.Reading.{readings}
use Rattle.suite.proofs.Suite.newest.Given as goal

abbrev pub invariant-loop-member : goal.invariant-loop-member
invariant-loop-member l =
    let read = readings l.name l.member-items in
    best newer (Gap 0) (chosen read l.set)
    ≡ best_on newer (Gap 0) (λ (r : Reading). r) l.best (chosen (drop l.member-index read) l.left)
