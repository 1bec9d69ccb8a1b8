-- `join_in_order` moves the rows past s to their place and puts those of p and s in front of them.
use native.Mathlib.Omega.{arith}
use Rattle.member.specs.Tile.{entries}
use Rattle.member.specs.SearchLaws.{end_cut, below-le-length, past-le-length}
use mathlib.Core.Path.{◌≡◌}
use borrow.Author.Rules.{rules}
use lib.ListN.{length}
use Rattle.member.proofs.Rows.{length_of_map}
use Rattle.member.proofs.Removal.{coalesce-over, coalesce-put}
use Rattle.member.proofs.Member.join_in_order.Goals as goal

pub overflow_add-mid : goal.overflow_add-mid
overflow_add-mid c =
    let a = c.args in
    omega (arith, below-le-length (end_cut a.p.end) (entries a.self.now))

pub overflow_add-end : goal.overflow_add-end
overflow_add-end c =
    let a = c.args in
    omega (arith, below-le-length (end_cut a.p.end) (entries a.self.now))

pub overflow_sub-n : goal.overflow_sub-n
overflow_sub-n c =
    let a = c.args in
    omega (arith, past-le-length (end_cut a.s.end) (entries a.self.now))

pub overflow_add-end-2 : goal.overflow_add-end-2
overflow_add-end-2 c =
    let a = c.args in
    let m = a.self.now in
    omega (arith, below-le-length (end_cut a.p.end) (entries m), past-le-length (end_cut a.s.end) (entries m))

pub gap_below-above-requires : goal.gap_below-above-requires
gap_below-above-requires c =
    let a = c.args in
    omega (arith, past-le-length (end_cut a.s.end) (entries a.self.now))

pub shift-requires : goal.shift-requires
shift-requires c =
    let a = c.args in
    let past = past-le-length (end_cut a.s.end) (entries a.self.now) in
    (omega arith, omega arith)

pub returns-then-end-n-le-SLOTS : goal.returns-then-end-n-le-SLOTS
returns-then-end-n-le-SLOTS c =
    let a = c.args in
    let r : length a.self.now.rows ≡ 32 = search (rules, length_of_map) in
    coalesce-put a.self.now a.p a.s a.gap
    (record {
      order = c.requires;
      all = c.used-n.ensures.0;
      below = c.below_end-from.ensures;
      past = c.past_end-to.ensures;
      first = c.rows_of.ensures.0;
      last = c.rows_of-2.ensures.0;
    })
    c.if-end-n-le-SLOTS.true r c.gap_below-above.result c.shift.new.self c.put_end.new.self
    c.put_end-then-end-n-le-SLOTS.new.self c.gap_below-above.ensures c.shift.ensures c.put_end.ensures c.put_end-then-end-n-le-SLOTS.ensures

pub returns-else-end-n-le-SLOTS : goal.returns-else-end-n-le-SLOTS
returns-else-end-n-le-SLOTS c =
    let a = c.args in
    coalesce-over a.self.now a.p a.s a.gap
    (record {
      order = c.requires;
      all = c.used-n.ensures.0;
      below = c.below_end-from.ensures;
      past = c.past_end-to.ensures;
      first = c.rows_of.ensures.0;
      last = c.rows_of-2.ensures.0;
    })
    c.if-end-n-le-SLOTS.false
