-- `place` searches the second half where the first does not hold the place.
use mathlib.Core.Path.{◌≡◌}
use borrow.Author.Rules.{rules}
use lib.ListN.{length}
use Rattle.member.proofs.Rows.{length_of_map}
use Rattle.member.proofs.Halves.{first-half, second-half}
use Rattle.member.proofs.Member.place.Goals as goal

pub returns-then-at-lt16 : goal.returns-then-at-lt16
returns-then-at-lt16 c =
    let a = c.args in
    let r : length a.self.now.rows ≡ 32 = search (rules, length_of_map) in
    first-half a.self.now r a.name c.place_from-at.result c.place_from-at.ensures c.if-at-lt16.true

pub returns-else-at-lt16 : goal.returns-else-at-lt16
returns-else-at-lt16 c =
    let a = c.args in
    let r : length a.self.now.rows ≡ 32 = search (rules, length_of_map) in
    let low = c.place_from-at in
    second-half a.self.now r a.name low.result low.ensures c.if-at-lt16.false c.place_from.result c.place_from.ensures
