-- `field` is what `fields::read` reads; a width of up to 32 bits fits a u32.
use native.Mathlib.Omega.{arith}
use mathlib.Core.Path.{sym, ◌∙◌}
use Prim.Native.Nat.{◌^◌, ◌≤◌}
use lib.Pow.{pow_mono}
use Rattle.fields.proofs.Reread.{read_range}
use Rattle.image.proofs.Matching.{field_is, field_short}
use Rattle.image.proofs.reader.field.Goals as goal

pub returns-in_default-clause-taken : goal.returns-in_default-clause-taken
returns-in_default-clause-taken c = sym (field_short c.args.bytes.now c.args.width c.args.at (sym c.read.ensures ∙ c.in_default.is))

pub overflow_cast-result : goal.overflow_cast-result
overflow_cast-result c =
    let small = read_range c.args.bytes.now c.args.at c.args.width c.in-Some.value (sym c.read.ensures ∙ c.in-Some.is) in
    let wide : 2 ^ c.args.width ≤ 2 ^ 32 = pow_mono c.requires in
    omega arith

pub returns-clause-taken : goal.returns-clause-taken
returns-clause-taken c = sym (field_is c.args.bytes.now c.args.width c.args.at c.in-Some.value (sym c.read.ensures ∙ c.in-Some.is))

pub returns-clause-small : goal.returns-clause-small
returns-clause-small c = read_range c.args.bytes.now c.args.at c.args.width c.in-Some.value (sym c.read.ensures ∙ c.in-Some.is)
