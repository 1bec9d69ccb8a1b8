-- `newest` holds the newest reading so far. The invariant: going on with it over the members left comes to the newest of all.
use Rattle.std.proofs.Common.{◌≡◌, ◌<◌, Option, Some, None, [], refl, sym, ◌∙◌, length, take, rules, arith}
use Rattle.std.specs.Option.{unwrap_or, option_map}
use Rattle.member.specs.Tile.{reading_of}
use Rattle.member.specs.declared.Member.{Member}
use Rattle.member.specs.declared.Reading.{Reading}
use Rattle.member.specs.declared.Reading.TheVariants.{Gap}
use Rattle.suite.specs.Calls.{newer}
use Rattle.suite.proofs.Sets.{chosen_past}
use Rattle.suite.proofs.SetFolds.{best-taken, best-left, best-passed, best_end}
use Rattle.suite.proofs.Reading.{readings, readings-length, reading_in_lem, newest_in}
use Rattle.suite.proofs.Suite.newest.Goals as goal
use Rattle.suite.proofs.Suite.newest.Goals.{then-left-eq1+then-is_none_or, then-left-eq1+else-is_none_or, else-left-eq1}

abbrev same : Reading → Reading
same r = r

abbrev nobody : Member
nobody = record { low = 0; count = 0; rows = [] }

pub loop-member-preserved : goal.loop-member-preserved
loop-member-preserved c =
    let a = c.args in
    let items = take c.size-n.result a.self.now.members in
    let l = readings a.name items in
    let k = c.loop-member in
    let i = k.member-index in
    let h : i < length l = omega (arith, readings-length a.name items) in
    let best = c.if-left-eq1.best in
    let z = reading_of nobody a.name in
    elim c.if-left-eq1.branch [
      | then-left-eq1+then-is_none_or w ↦ best-taken newer (Gap 0) same l i k.left h k.best k.invariant best z w.reading-here.result w.if-left-eq1.true (w.reading-here.ensures ∙ sym (reading_in_lem a.name items i nobody)) w.is_none_or.result w.is_none_or.ensures (λ y q. search rules) w.if-is_none_or.true w.best-is refl
      | then-left-eq1+else-is_none_or w ↦ best-left newer (Gap 0) same l i k.left h k.best k.invariant best z w.reading-here.result w.if-left-eq1.true (w.reading-here.ensures ∙ sym (reading_in_lem a.name items i nobody)) w.is_none_or.result w.is_none_or.ensures (λ y q. search rules) w.if-is_none_or.false w.best-is
      | else-left-eq1 w ↦ best-passed newer (Gap 0) same l i k.left h k.best k.invariant best z w.if-left-eq1.false w.best-is
    ]

held : (best : Option Reading) → unwrap_or best (Gap 0) ≡ unwrap_or (option_map same best) (Gap 0)
held (Some r) = refl
held None = refl

pub returns : goal.returns
returns c =
    let a = c.args in
    let items = take c.size-n.result a.self.now.members in
    let k = c.loop-member in
    let none = chosen_past (readings a.name items) k.member-index k.left (omega (arith, readings-length a.name items, c.loop-member-test.false)) in
    c.unwrap_or.ensures
    ∙ held k.best
    ∙ sym (k.invariant ∙ best_end newer (Gap 0) same k.best none)
    ∙ newest_in a.self.now c.size-n.result c.size-n.ensures.0 a.set a.name
