-- `all_fit` stops at the first member named that says no. The invariant: the members left, by what is left of the set, decide as all do.
use Rattle.std.proofs.Common.{◌≡◌, Bool, drop}
use Rattle.member.specs.declared.Member.{Member}
use Rattle.suite.specs.Sets.{chosen, all}
use Rattle.suite.specs.Asking.{AnswersAs}
use Rattle.suite.proofs.Suite.all_fit.Given as goal

abbrev pub invariant-loop-member : goal.invariant-loop-member
invariant-loop-member g l =
    (room : Member → Bool)
    → AnswersAs g.F.Fn l.fn.fits room
    → all room (chosen l.member-items l.set) ≡ all room (chosen (drop l.member-index l.member-items) l.left)
