-- `change_members` changes the members that the set names. The invariant: up to place i they are the target, and from there on the
-- target is what is left to change.
use Rattle.std.proofs.Common.{take}
use Rattle.member.specs.declared.Member.{Member}
use Rattle.suite.specs.Asking.{ChangesAs}
use Rattle.suite.proofs.Asking.{Done}
use Rattle.suite.proofs.ask.change_members.Given as goal

abbrev pub invariant-loop-member : goal.invariant-loop-member
invariant-loop-member g l =
    (effect : Member → Member)
    → ChangesAs g.F.Fn l.fn.change effect
    → Done effect (take l.n l.fn.members) l.set l.member-items l.left l.member-index
