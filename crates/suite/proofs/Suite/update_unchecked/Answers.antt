-- `update_unchecked` is the update of the definitions.
use mathlib.Core.Path.{◌≡◌}
use borrow.Author.Rules.{rules}
use lib.ListN.{length}
use Rattle.std.proofs.lemmas.Result.{err_from_is_err_and}
use Rattle.member.proofs.Rows.{length_of_map}
use Rattle.suite.proofs.Calling.{Passed, passed_all, update-no, update-held, update-new}
use Rattle.suite.proofs.Suite.update_unchecked.Goals as goal
use Rattle.suite.proofs.Suite.update_unchecked.Goals.{In_ok-judge}

-- none of the refusals 5 to 9
fine : (c : In_ok-judge) → Passed c.args.self.now c.args.self.now.write c.args.name c.args.value c.args.read c.args.write
fine c =
    let h : length c.args.self.now.members ≡ 8 = search (rules, length_of_map) in
    let k : length c.args.self.now.votes ≡ 8 = search rules in
    passed_all c.args.self.now c.args.self.now.write c.args.name c.args.value c.args.read c.args.write h k c.in_ok-judge.ensures

pub returns-in_err-judge : goal.returns-in_err-judge
returns-in_err-judge c =
    let a = c.args in
    let p = err_from_is_err_and c.from_residual.result c.from_residual.ensures.1 in
    rw (p.1, p.2) (update-no a.self.now a.read a.write a.name a.value c.in_err-judge.field-0.0 c.in_err-judge.ensures)

pub returns-in_default : goal.returns-in_default
returns-in_default c = update-new (fine (goal.at.returns-in_default c).In_ok-judge) c.in_default.ensures

pub put-requires : goal.put-requires
put-requires c = (fine (goal.at.put-requires c).In_ok-judge).writes

pub returns : goal.returns
returns c = update-held (fine (goal.at.returns c).In_ok-judge) c.in-Entry.ensures c.put.ensures
