-- `all_fit` stops at the first member named that says no. The invariant: the members left, by what is left of the set, decide as all do.
use Rattle.std.proofs.Common.{refl, sym, ap, ◌∙◌, [], take}
use Rattle.member.specs.declared.Member.{Member}
use Rattle.suite.specs.Sets.{chosen, all}
use Rattle.suite.proofs.SetFolds.{every-on, every-stop, every-passed, every-past}
use Rattle.suite.proofs.Asking.{counted}
use Rattle.suite.proofs.Suite.all_fit.Goals as goal
use Rattle.suite.proofs.Suite.all_fit.Goals.{else-left-eq1-via-then-left-eq1+else-not-fits, else-left-eq1-via-else-left-eq1}

abbrev nobody : Member
nobody = record { low = 0; count = 0; rows = [] }

pub returns-then-not-fits : goal.returns-then-not-fits
returns-then-not-fits g c room says =
    let m = c.args.self.now in
    let k = c.loop-member in
    let n = c.size-n in
    let items = take n.result m.members in
    let said = says _ _ (record { shown = _; shows = refl; says = record { met = c.fits.ensures } }) in
    sym (k.invariant room says ∙ every-stop room items k.member-index k.left nobody c.loop-member-test.true c.if-left-eq1.true (sym said ∙ c.if-not-fits.true))
    ∙ ap (λ t. all room (chosen t c.args.set)) (counted m.count n.result m.members n.ensures.0)

pub loop-member-preserved : goal.loop-member-preserved
loop-member-preserved g c room says =
    let k = c.loop-member in
    let items = take c.size-n.result c.args.self.now.members in
    elim c.else-left-eq1.branch [
      | else-left-eq1-via-then-left-eq1+else-not-fits w ↦
          let said = says _ _ (record { shown = _; shows = refl; says = record { met = w.fits.ensures } }) in
          k.invariant room says ∙ every-on room items k.member-index k.left nobody c.loop-member-test.true w.if-left-eq1.true (sym said ∙ w.if-not-fits.false)
      | else-left-eq1-via-else-left-eq1 w ↦ k.invariant room says ∙ every-passed room items k.member-index k.left nobody c.loop-member-test.true w.if-left-eq1.false
    ]

pub returns : goal.returns
returns g c room says =
    let m = c.args.self.now in
    let k = c.loop-member in
    let n = c.size-n in
    let items = take n.result m.members in
    sym (k.invariant room says ∙ every-past room items k.member-index k.left nobody c.loop-member-test.false)
    ∙ ap (λ t. all room (chosen t c.args.set)) (counted m.count n.result m.members n.ensures.0)
