-- `reading_at` goes by the place that the search gave.
use native.Mathlib.Omega.{arith}
use borrow.Author.Tests.{ne_eqb}
use mathlib.Core.Path.{◌≡◌, ◌∙◌}
use mathlib.Core.Bool.{false}
use Rattle.member.specs.Tile.{entries}
use Rattle.member.proofs.Seats.{held_in, seat_le, held-here, held-nowhere, reads-entry, reads-gap}
use Rattle.member.proofs.Member.reading_at.Goals as goal
use Rattle.member.proofs.Member.reading_at.Goals.{then-at-used+else-row-name, else-at-used}

pub returns-then-row-name : goal.returns-then-row-name
returns-then-row-name c =
    let a = c.args in
    reads-entry a.self.now a.name a.at c.requires (omega arith) c.if-row-name.true

pub gap_below-requires : goal.gap_below-requires
gap_below-requires c = omega (arith, seat_le (entries c.args.self.now) c.args.name)

pub returns : goal.returns
returns c =
    let a = c.args in
    let m = a.self.now in
    let f : held_in (entries m) a.name ≡ false =
    elim c.if-at-used.branch [
      | then-at-used+else-row-name w ↦ held-here m a.name a.at c.requires (omega arith) ∙ ne_eqb _ a.name w.if-row-name.false
      | else-at-used w ↦ held-nowhere m a.name a.at c.requires (omega arith)
    ] in
    reads-gap m a.name a.at c.requires f _ c.gap_below.ensures
