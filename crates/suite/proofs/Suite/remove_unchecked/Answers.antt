-- `remove_unchecked` is the remove of the definitions.
use mathlib.Core.Path.{◌≡◌}
use borrow.Author.Rules.{rules}
use lib.ListN.{length}
use Rattle.std.proofs.lemmas.Result.{err_from_is_err_and}
use Rattle.member.proofs.Rows.{length_of_map}
use Rattle.suite.proofs.Calling.{Passed, passed_all, remove-no, remove-held, remove-new}
use Rattle.suite.proofs.Suite.remove_unchecked.Goals as goal
use Rattle.suite.proofs.Suite.remove_unchecked.Goals.{In_ok-judge}

-- none of the refusals 5 to 9
fine : (c : In_ok-judge) → Passed c.args.self.now c.args.self.now.write c.args.name 0 c.args.read c.args.write
fine c =
    let h : length c.args.self.now.members ≡ 8 = search (rules, length_of_map) in
    let k : length c.args.self.now.votes ≡ 8 = search rules in
    passed_all c.args.self.now c.args.self.now.write c.args.name 0 c.args.read c.args.write h k c.in_ok-judge.ensures

pub returns-in_err-judge : goal.returns-in_err-judge
returns-in_err-judge c =
    let a = c.args in
    let p = err_from_is_err_and c.from_residual.result c.from_residual.ensures.1 in
    rw (p.1, p.2) (remove-no a.self.now a.read a.write a.name 0 c.in_err-judge.field-0.0 c.in_err-judge.ensures)

pub survey-found-requires : goal.survey-found-requires
survey-found-requires c = (fine c).reads

pub returns-in_default : goal.returns-in_default
returns-in_default c =
    remove-new (fine (goal.at.returns-in_default c).In_ok-judge) c.survey-found.result c.survey-found.ensures c.in_default.is

pub join-requires : goal.join-requires
join-requires c = (fine (goal.at.join-requires c).In_ok-judge).writes

pub returns : goal.returns
returns c =
    remove-held (fine (goal.at.returns c).In_ok-judge) c.survey-found.result c.survey-found.ensures c.in-Entry.is c.join.ensures
