-- `of` reads place after place.
use native.Mathlib.Omega.{arith}
use mathlib.Core.Path.{refl}
use mathlib.Core.List.{List}
use Prim.Native.Nat.{ℕ}
use lib.ListN.{drop, get_or}
use Rattle.member.specs.Tile.{none}
use Rattle.member.specs.Cells.{rows_in}
use Rattle.member.specs.declared.Row.{Row}
use Rattle.member.proofs.Changes.{member_path}
use Rattle.member.proofs.Filled.{filled_none, filled_more, filled_all}
use Rattle.member.proofs.Cells.{length_rows, row_cells}
use Rattle.member.proofs.Member.of.Goals as goal

abbrev read : List ℕ → ℕ → Row
read l j = get_or (rows_in 32 (drop 2 l)) j none

pub loop-i-init : goal.loop-i-init
loop-i-init c = filled_none none 32 (read c.args.cells.now) _ refl

pub loop-i-preserved : goal.loop-i-preserved
loop-i-preserved c =
    let l = c.args.cells.now in
    let i = c.loop-i.i in
    filled_more none 32 (read l) c.loop-i.row-items i _ (omega (arith, c.loop-i.invariant.all)) c.loop-i.invariant
    (row_cells l i (omega (arith, c.loop-i.invariant.all)))

pub returns : goal.returns
returns c =
    let l = c.args.cells.now in
    member_path refl (omega arith)
    (filled_all none 32 (read l) c.loop-i.row-items c.loop-i.i (rows_in 32 (drop 2 l)) (omega (arith, c.loop-i.invariant.all)) c.loop-i.invariant (length_rows 32 (drop 2 l)) (λ j k. refl))
