-- `change_members` changes the members that the set names. The invariant: up to place i they are the target, and from there on the
-- target is what is left to change.
use Rattle.std.proofs.Common.{ap, ◌∙◌, [], ◌++◌, take, drop, arith}
use Rattle.std.proofs.lemmas.List.{set-get_or}
use Rattle.member.specs.declared.Member.{Member}
use Rattle.suite.proofs.Asking.{done-start, done-named, done-passed, done_end}
use Rattle.suite.proofs.ask.change_members.Goals as goal
use Rattle.suite.proofs.ask.change_members.Goals.{then-left-eq1, else-left-eq1}

abbrev nobody : Member
nobody = record { low = 0; count = 0; rows = [] }

pub loop-member-init : goal.loop-member-init
loop-member-init g c effect says = done-start effect (take c.args.n c.args.members.now) c.args.set

pub loop-member-preserved : goal.loop-member-preserved
loop-member-preserved g c effect says =
    let a = c.args in
    let items = take a.n a.members.now in
    let k = c.loop-member in
    let i = k.member-index in
    let inv = k.invariant effect says in
    let now = c.if-left-eq1.member-items in
    elim c.if-left-eq1.branch [
      | then-left-eq1 w ↦ done-named effect items a.set k.member-items k.left i c.loop-member-test.true inv now nobody w.change.new.arg2 w.if-left-eq1.true (says _ _ w.change.ensures) w.member-items-is
      | else-left-eq1 w ↦ done-passed effect items a.set k.member-items k.left i c.loop-member-test.true inv now nobody w.if-left-eq1.false (w.member-items-is ∙ set-get_or k.member-items i nobody)
    ]

pub returns : goal.returns
returns g c effect says =
    let a = c.args in
    let k = c.loop-member in
    ap (λ l. l ++ drop a.n a.members.now)
    (done_end effect (take a.n a.members.now) a.set k.member-items k.left k.member-index (omega arith) (k.invariant effect says))
