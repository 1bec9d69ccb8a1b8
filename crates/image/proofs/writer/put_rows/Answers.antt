-- `put_rows` puts the entries of a member, one after another.
use native.Mathlib.Omega.{arith}
use mathlib.Core.Path.{sym, ap, subst}
use Prim.Native.Nat.{ℕ, ◌+◌, ◌≤◌, ◌<◌}
use lib.ListN.{length, get_or}
use Rattle.member.specs.Tile.{none, entries}
use Rattle.member.specs.declared.Row.{Row}
use Rattle.image.specs.Layout.{row_pieces}
use Rattle.image.specs.Writer.{Appended}
use Rattle.image.proofs.Lengths.{row_widths}
use Rattle.image.proofs.Putting.{put-start, put-more, put-end}
use Rattle.image.proofs.writer.put_rows.Goals as goal

pub loop-i-init : goal.loop-i-init
loop-i-init c = (put-start (row_pieces 20) _ _ _, omega arith)

pub put_row-requires : goal.put_row-requires
put_row-requires c =
    let l = c.loop-i in
    let same = l.invariant.0.put.same_length in
    omega arith

pub loop-i-preserved : goal.loop-i-preserved
loop-i-preserved c =
    let a = c.args in
    let l = c.loop-i in
    let m = a.member.now in
    let p = c.put_row in
    let h : l.i < length (entries m) = omega (arith, c.used-i-end.ensures.0, c.loop-i-test.true) in (
      put-more (row_pieces 20) (entries m) a.out.now a.at none l.out p.new.out l.next (l.next + 84) l.i l.invariant.0 h
          (subst (λ (r : Row). Appended l.out l.next (row_pieces 20 r) p.new.out) c.entry.ensures p.ensures)
          (ap (λ (k : ℕ). l.next + k) (sym (row_widths 20 (get_or (entries m) l.i none)))),
      omega arith,
    )

pub shape_of-out : goal.shape_of-out
shape_of-out c = c.loop-i.invariant.0.put.same_length

pub returns : goal.returns
returns c =
    let m = c.args.member.now in
    let h : length (entries m) ≤ c.loop-i.i = omega (arith, c.used-i-end.ensures.0, c.loop-i-test.false) in
    let e = put-end (row_pieces 20) (entries m) _ _ _ _ _ c.loop-i.invariant.0 h in
    (e.0, (omega (arith, c.loop-i.invariant.1, c.loop-i.invariant.0.few, c.used-i-end.ensures), e.1))
