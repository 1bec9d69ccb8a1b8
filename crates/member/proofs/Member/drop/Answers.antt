-- `drop` moves the rows above the place down by one.
use mathlib.Core.Path.{◌≡◌, sym}
use borrow.Author.Rules.{rules}
use native.Mathlib.Omega.{arith}
use lib.ListN.{length}
use Rattle.member.proofs.Rows.{length_of_map, entries_le}
use Rattle.member.proofs.Changes.{drop_past}
use Rattle.member.proofs.Moves.{drop-done}
use Rattle.member.proofs.Member.drop.Goals as goal

pub returns-then-at-used : goal.returns-then-at-used
returns-then-at-used c =
    let m = c.args.self in
    let e : length m.rows ≡ 32 = search (rules, length_of_map) in
    drop-done m c.shift.new.self c.args.at (omega arith) (omega (arith, entries_le m 32 e)) c.shift.ensures

pub returns-else-at-used : goal.returns-else-at-used
returns-else-at-used c = sym (drop_past c.args.self c.args.at (omega arith))
