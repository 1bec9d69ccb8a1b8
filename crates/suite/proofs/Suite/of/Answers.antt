-- `of` reads tile after tile.
use native.Mathlib.Omega.{arith}
use mathlib.Core.Path.{refl, ap, ◌∙◌}
use mathlib.Core.List.{List, [], map}
use Prim.Native.Nat.{ℕ}
use lib.ListN.{length-map, get_or, get_or-map}
use Rattle.member.specs.Cells.{tile_in}
use Rattle.member.specs.declared.Member.{Member}
use Rattle.member.proofs.Filled.{filled_none, filled_more, filled_all}
use Rattle.suite.proofs.Suite.of.Goals as goal

abbrev read : List (List ℕ) → ℕ → Member
read l j = tile_in (get_or l j [])

pub loop-i-init : goal.loop-i-init
loop-i-init c = filled_none (tile_in []) 8 (read c.args.lent.now) _ refl

pub loop-i-preserved : goal.loop-i-preserved
loop-i-preserved c =
    filled_more (tile_in []) 8 (read c.args.lent.now) c.loop-i.member-items c.loop-i.i _ (omega (arith, c.loop-i.invariant.all)) c.loop-i.invariant
    (c.of.ensures ∙ ap (λ (k : ℕ). read c.args.lent.now k) (omega arith))

pub returns : goal.returns
returns c =
    let f = c.args.frame in
    let l = c.args.lent.now in
    ap (λ (m : List Member). record { members = m; votes = f.votes; read = f.read; write = f.write; count = f.count })
    (filled_all (tile_in []) 8 (read l) c.loop-i.member-items c.loop-i.i (map tile_in l) c.loop-i-test.false c.loop-i.invariant
    (length-map l tile_in ∙ c.told-lent)
    (λ j k. get_or-map tile_in l j []))
