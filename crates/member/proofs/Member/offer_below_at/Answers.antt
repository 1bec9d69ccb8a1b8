-- `offer_below_at` goes down from the place of the name. The invariant: the answer is what the entries below place i offer.
use Rattle.std.specs.Prelude.{Some}
use borrow.Author.Rules.{rules}
use native.Mathlib.Omega.{arith}
use mathlib.Core.Path.{◌≡◌, ap, ◌∙◌, sym}
use mathlib.Core.Bool.{true, false}
use lib.ListN.{length}
use Rattle.member.specs.Tile.{entries}
use Rattle.member.proofs.Rows.{length_of_map, entries_le}
use Rattle.member.proofs.Seats.{seat_le}
use Rattle.member.proofs.Offers.{below_from, last_step, last_end}
use Rattle.member.proofs.Member.offer_below_at.Goals as goal

pub loop-i-init : goal.loop-i-init
loop-i-init c =
    let a = c.args in
    let e : length a.self.now.rows ≡ 32 = search (rules, length_of_map) in
    let s = c.requires in
    (entries_le a.self.now 32 e, omega (arith, seat_le (entries a.self.now) a.name), below_from a.self.now a.name a.k a.v _ s)

pub returns-then-is_offered : goal.returns-then-is_offered
returns-then-is_offered c =
    let a = c.args in
    let is : true ≡ _ = sym c.if-is_offered.true ∙ c.is_offered.ensures in
    ap Some c.bound_of.ensures
    ∙ sym
    (c.loop-i.invariant.2
    ∙ last_step a.self.now a.k a.v c.loop-i.i _ _ true (omega arith) c.loop-i.invariant.1 c.end_of.ensures is)

pub loop-i-preserved : goal.loop-i-preserved
loop-i-preserved c =
    let a = c.args in
    let is-not : false ≡ _ = sym c.if-is_offered.false ∙ c.is_offered.ensures in (
      c.loop-i.invariant.0,
      omega arith,
      c.loop-i.invariant.2
          ∙ last_step a.self.now a.k a.v c.loop-i.i _ _ false (omega arith) c.loop-i.invariant.1 c.end_of.ensures is-not,
    )

pub returns : goal.returns
returns c =
    let a = c.args in
    c.offer_end.ensures ∙ sym (c.loop-i.invariant.2 ∙ last_end a.k a.v _ (entries a.self.now) c.loop-i.i (omega arith))
