-- `ask` fills the table. The invariant: up to place i the table is the target, and from there on the target is what is left to ask.
use Rattle.std.proofs.Common.{List, ℕ}
use Rattle.member.specs.declared.Member.{Member}
use Rattle.suite.specs.Asking.{AnswersAs}
use Rattle.suite.proofs.Asking.{Asked}
use Rattle.suite.proofs.Suite.ask.Given as goal

abbrev pub invariant-loop-i : goal.invariant-loop-i
invariant-loop-i g l =
    (row : Member → List ℕ) → AnswersAs g.F.Fn l.answer row → Asked row l.member-items l.set l.table l.left l.i
