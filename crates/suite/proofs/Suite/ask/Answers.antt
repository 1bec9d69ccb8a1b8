-- `ask` fills the table. The invariant: up to place i the table is the target, and from there on the target is what is left to ask.
use Rattle.std.proofs.Common.{◌<◌, refl, ap, ◌∙◌, [], take, arith}
use Rattle.std.proofs.lemmas.List.{length-take}
use Rattle.member.specs.declared.Member.{Member}
use Rattle.suite.specs.Rows.{table_of}
use Rattle.suite.proofs.Asking.{asked-start, asked-named, asked-passed, asked-end, counted}
use Rattle.suite.proofs.Suite.ask.Goals as goal
use Rattle.suite.proofs.Suite.ask.Goals.{then-left-eq1, else-left-eq1}

abbrev nobody : Member
nobody = record { low = 0; count = 0; rows = [] }

pub loop-i-init : goal.loop-i-init
loop-i-init g c row says = asked-start row (take c.size-n.result c.args.self.now.members) c.args.set

pub loop-i-preserved : goal.loop-i-preserved
loop-i-preserved g c row says =
    let a = c.args in
    let members = a.self.now.members in
    let items = take c.size-n.result members in
    let k = c.loop-i in
    let h = c.loop-i-test.true in
    let b : k.i < 8 = omega (arith, length-take c.size-n.result members) in
    let inv = k.invariant row says in
    let table = c.if-left-eq1.table in
    elim c.if-left-eq1.branch [
      | then-left-eq1 w ↦
          let said = says _ _ (record { shown = _; shows = refl; says = record { met = w.answer.ensures } }) in
          asked-named row items a.set k.table k.left k.i h b inv table nobody _ w.if-left-eq1.true said w.table-is
      | else-left-eq1 w ↦ asked-passed row items a.set k.table k.left k.i h b inv table nobody w.if-left-eq1.false w.table-is
    ]

pub returns : goal.returns
returns g c row says =
    let a = c.args in
    let m = a.self.now in
    let n = c.size-n in
    let k = c.loop-i in
    asked-end row (take n.result m.members) a.set k.table k.left k.i (omega arith) (k.invariant row says)
    ∙ ap (λ t. table_of row t a.set) (counted m.count n.result m.members n.ensures.0)
