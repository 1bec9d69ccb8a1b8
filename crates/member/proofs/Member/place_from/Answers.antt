-- `place_from` goes down through a half. The invariant: the places from i on say `at`.
use mathlib.Core.Path.{◌≡◌, refl}
use borrow.Author.Rules.{rules}
use Prim.Native.Nat.{◌+◌, ◌-◌}
use lib.ListN.{length}
use native.Mathlib.Omega.{arith}
use Rattle.member.specs.Tile.{entries}
use Rattle.member.proofs.Rows.{length_of_map, seat_end}
use Rattle.member.proofs.Halves.{half_from, half_length, half-here, half-on}
use Rattle.member.proofs.Member.place_from.Goals as goal

pub loop-i-init : goal.loop-i-init
loop-i-init c =
    let a = c.args in
    let r : length a.self.now.rows ≡ 32 = search (rules, length_of_map) in
    let e = half_length a.self.now a.from r c.requires in
    let s = seat_end (entries (half_from a.self.now a.from)) 16 a.name (omega arith) in
    (c.requires, omega arith, e, omega arith)

pub loop-i-preserved-then-name-self : goal.loop-i-preserved-then-name-self
loop-i-preserved-then-name-self c =
    let k = c.loop-i in
    let a = c.args in
    let s = half-here a.self.now a.from (k.i - 1) a.name _ refl (omega arith) c.if-name-self.true in
    (k.invariant.0, omega arith, k.invariant.2, omega arith)

pub loop-i-preserved : goal.loop-i-preserved
loop-i-preserved c =
    let k = c.loop-i in
    let a = c.args in
    let z : k.i - 1 + 1 ≡ k.i = omega arith in
    let s = rw z at (half-on a.self.now a.from (k.i - 1) a.name _ refl (omega arith) c.if-name-self.false) in
    (k.invariant.0, k.invariant.1, k.invariant.2, omega arith)
