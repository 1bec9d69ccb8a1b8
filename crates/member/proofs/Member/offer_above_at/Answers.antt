-- `offer_above_at` goes up from the place next above the name. The invariant: the answer is what the entries from this one on offer.
use Rattle.std.specs.Prelude.{Some}
use borrow.Rule.Slice.PartMut.{mid_of}
use native.Mathlib.Omega.{arith}
use mathlib.Core.Path.{◌≡◌, ap, ◌∙◌, sym}
use mathlib.Core.Bool.{true, false}
use Prim.Native.Nat.{◌≤◌, ◌-◌}
use Rattle.member.specs.Tile.{entries}
use Rattle.member.specs.Rounds.{bare_offer, first_offer}
use Rattle.member.specs.Limits.{high}
use Rattle.member.proofs.Seats.{next_le}
use Rattle.member.proofs.Offers.{above_from, rows_from, first_step, first_end}
use Rattle.member.proofs.Member.offer_above_at.Goals as goal

pub offset_bounds-self-from : goal.offset_bounds-self-from
offset_bounds-self-from c = omega (arith, next_le (entries c.args.self.now) c.args.name)

pub slice_bounds-row-items-count : goal.slice_bounds-row-items-count
slice_bounds-row-items-count c = omega (arith, next_le (entries c.args.self.now) c.args.name)

pub slice_bounds-row-items-start : goal.slice_bounds-row-items-start
slice_bounds-row-items-start c =
    let h : c.next-from.result ≤ c.used-n.result = omega (arith, next_le (entries c.args.self.now) c.args.name) in h

pub loop-row-init : goal.loop-row-init
loop-row-init c =
    let a = c.args in
    let m = a.self.now in
    let i = c.next-from.result in
    above_from m a.name a.k a.v i c.next-from.ensures
    ∙ ap (first_offer a.k a.v (bare_offer high a.k)) (sym (rows_from m i c.used-n.result c.used-n.ensures.0 (omega (arith, next_le (entries m) a.name))))

pub returns-then-is_offered : goal.returns-then-is_offered
returns-then-is_offered c =
    let a = c.args in
    let l = mid_of c.next-from.result (c.used-n.result - c.next-from.result) a.self.now.rows in
    let is : true ≡ _ = sym c.if-is_offered.true ∙ c.is_offered.ensures in
    ap Some c.bound_of.ensures
    ∙ sym (c.loop-row.invariant ∙ first_step a.k a.v l c.loop-row.row-index _ _ true (omega arith) c.end_of.ensures is)

pub loop-row-preserved : goal.loop-row-preserved
loop-row-preserved c =
    let a = c.args in
    let l = mid_of c.next-from.result (c.used-n.result - c.next-from.result) a.self.now.rows in
    let is-not : false ≡ _ = sym c.if-is_offered.false ∙ c.is_offered.ensures in
    c.loop-row.invariant ∙ first_step a.k a.v l c.loop-row.row-index _ _ false (omega arith) c.end_of.ensures is-not

pub returns : goal.returns
returns c =
    let a = c.args in
    let l = mid_of c.next-from.result (c.used-n.result - c.next-from.result) a.self.now.rows in
    c.offer_end.ensures ∙ ap (bare_offer high) {y = a.k} (omega arith) ∙ sym (c.loop-row.invariant ∙ first_end a.k a.v _ l c.loop-row.row-index (omega arith))
