use borrow.Author.Rules.{rules}
use mathlib.Core.Path.{◌≡◌}
use native.Mathlib.Omega.{arith}
use lib.ListN.{length}
use Rattle.member.proofs.Rows.{length_of_map, entries_le, gap_below_at}
use Rattle.member.proofs.Member.gap_below.Goals as goal

-- src/search.rt:84:40
pub offset_bounds-self-at : goal.offset_bounds-self-at
offset_bounds-self-at c =
    let m = c.args.self.now in
    let e : length m.rows ≡ 32 = search (rules, length_of_map) in
    omega (arith, entries_le m 32 e)

-- src/search.rt:84:40
pub bounds-self-at : goal.bounds-self-at
bounds-self-at c =
    let m = c.args.self.now in
    let e : length m.rows ≡ 32 = search (rules, length_of_map) in
    omega (arith, entries_le m 32 e)

-- src/search.rt:80:5
pub returns-else-at-eq0 : goal.returns-else-at-eq0
returns-else-at-eq0 c = gap_below_at c.args.self.now c.args.at (omega arith) c.requires
