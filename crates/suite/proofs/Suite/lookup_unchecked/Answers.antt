-- `lookup_unchecked` is the lookup of the definitions.
use mathlib.Core.Path.{◌≡◌}
use borrow.Author.Rules.{rules}
use lib.ListN.{length}
use Rattle.std.proofs.lemmas.Result.{err_from_is_err_and}
use Rattle.member.proofs.Rows.{length_of_map}
use Rattle.suite.proofs.Calling.{Passed, passed_all, lookup-no, lookup-done}
use Rattle.suite.proofs.Suite.lookup_unchecked.Goals as goal
use Rattle.suite.proofs.Suite.lookup_unchecked.Goals.{In_ok-judge}

-- none of the refusals 5 to 9
fine : (c : In_ok-judge) → Passed c.args.self.now 0 c.args.name 0 c.args.set 0
fine c =
    let h : length c.args.self.now.members ≡ 8 = search (rules, length_of_map) in
    let k : length c.args.self.now.votes ≡ 8 = search rules in
    passed_all c.args.self.now 0 c.args.name 0 c.args.set 0 h k c.in_ok-judge.ensures

pub returns-in_err-judge : goal.returns-in_err-judge
returns-in_err-judge c =
    let a = c.args in
    let p = err_from_is_err_and c.from_residual.result c.from_residual.ensures.1 in
    rw (p.1, p.2) (lookup-no a.self.now a.set 0 a.name 0 c.in_err-judge.field-0.0 c.in_err-judge.ensures)

pub returns : goal.returns
returns c =
    let a = c.args in lookup-done a.self.now a.set a.name (fine (goal.at.returns c).In_ok-judge) c.newest.result c.newest.ensures
