-- `fits_coalesce` counts the entries that a coalescing leaves.
use native.Mathlib.Omega.{arith}
use mathlib.Core.Path.{ap, ◌∙◌}
use Prim.Native.Nat.{ℕ, ◌+◌, ◌-◌}
use lib.Dec.{leb}
use Rattle.member.specs.Limits.{slots}
use Rattle.member.specs.Tile.{entries}
use Rattle.member.specs.SearchLaws.{end_cut, below-le-length, past-le-length}
use Rattle.member.proofs.Fits.{fits-order}
use Rattle.member.proofs.Removal.{room, fits_two}
use Rattle.member.proofs.Member.fits_coalesce.Goals as goal

pub returns-then-s-p : goal.returns-then-s-p
returns-then-s-p c =
    let a = c.args in
    fits-order a.self.now a.p a.s c.if-s-p.true

pub returns-then-n-le-SLOTS : goal.returns-then-n-le-SLOTS
returns-then-n-le-SLOTS c =
    let a = c.args in
    fits_two a.self.now a.p a.s c.used-n.result c.if-s-p.false c.used-n.ensures.0 c.if-n-le-SLOTS.true

pub overflow_add-mid : goal.overflow_add-mid
overflow_add-mid c =
    let a = c.args in
    omega (arith, below-le-length (end_cut a.p) (entries a.self.now))

pub overflow_add-end : goal.overflow_add-end
overflow_add-end c =
    let a = c.args in
    omega (arith, below-le-length (end_cut a.p) (entries a.self.now))

pub overflow_sub-result : goal.overflow_sub-result
overflow_sub-result c =
    let a = c.args in
    omega (arith, past-le-length (end_cut a.s) (entries a.self.now))

pub overflow_add-result : goal.overflow_add-result
overflow_add-result c =
    let a = c.args in
    let m = a.self.now in
    omega (arith, below-le-length (end_cut a.p) (entries m), past-le-length (end_cut a.s) (entries m))

pub returns : goal.returns
returns c =
    let a = c.args in
    let n = c.below_end-from.result + c.rows_of.result + c.rows_of-2.result + (c.used-n.result - c.past_end-to.result) in
    ap (λ (k : ℕ). leb k slots) {y = n} (omega arith)
    ∙ room {m = a.self.now} {p = a.p} {s = a.s}
    (record {
      order = c.if-s-p.false;
      all = c.used-n.ensures.0;
      below = c.below_end-from.ensures;
      past = c.past_end-to.ensures;
      first = c.rows_of.ensures.0;
      last = c.rows_of-2.ensures.0;
    })
