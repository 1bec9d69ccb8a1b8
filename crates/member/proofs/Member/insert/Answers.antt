-- `insert` moves the rows from the place on up by one, and puts its row there.
use mathlib.Core.Path.{◌≡◌}
use borrow.Author.Rules.{rules}
use native.Mathlib.Omega.{arith}
use lib.ListN.{length}
use Rattle.member.proofs.Rows.{length_of_map}
use Rattle.member.proofs.Moves.{insert-done}
use Rattle.member.proofs.Member.insert.Goals as goal

pub returns : goal.returns
returns c =
    let a = c.args in
    let m = a.self.now in
    let e : length m.rows ≡ 32 = search (rules, length_of_map) in
    insert-done m a.row c.shift.new.self a.at c.requires.0 (omega arith) c.shift.ensures
