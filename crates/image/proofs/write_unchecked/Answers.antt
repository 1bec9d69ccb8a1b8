-- `write_unchecked` appends the fields in a buffer of zeros, and fills the lent bytes with what they come to.
use native.Mathlib.Omega.{arith}
use mathlib.Core.Path.{◌≡◌, ap, ◌∙◌}
use mathlib.Core.List.{List}
use Prim.Native.Nat.{ℕ, ◌+◌, ◌/◌}
use lib.ListN.{take, length-take}
use Rattle.image.specs.Writer.{fill_of}
use Rattle.image.proofs.Writing.{whole}
use Rattle.image.proofs.write_unchecked.Goals as goal

pub slice_bounds-fill-end : goal.slice_bounds-fill-end
slice_bounds-fill-end c =
    let p = c.put_suite-bits in
    let held = whole c.args.suite.now p.new.out p.result p.ensures.0 p.ensures.1.1 in
    omega (arith, length-take c.div_ceil.result p.new.out, held.places, p.ensures.1.0, c.div_ceil.ensures)

pub returns : goal.returns
returns c =
    let out = c.args.out.now in
    let p = c.put_suite-bits in
    let held = whole c.args.suite.now p.new.out p.result p.ensures.0 p.ensures.1.1 in
    let n : c.div_ceil.result ≡ (p.result + 7) / 8 = omega (arith, c.div_ceil.ensures) in
    c.fill.ensures ∙ ap (λ (k : ℕ). fill_of (take k p.new.out) out) n ∙ ap (λ (l : List ℕ). fill_of l out) held.image
