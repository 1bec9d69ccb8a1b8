-- `only_padding` looks at the length, and at the bits that are left of the last byte.
use mathlib.Core.Path.{ap, ◌∙◌}
use Prim.Native.Nat.{ℕ}
use lib.Dec.{eqb}
use Rattle.std.specs.Prelude.{Option, Some}
use Rattle.std.specs.Option.{option_eq}
use Rattle.image.proofs.Padding.{padding-long, padding-test}
use Rattle.image.proofs.reader.only_padding.Goals as goal

pub returns-then-bytes-last : goal.returns-then-bytes-last
returns-then-bytes-last c =
    padding-long c.args.bytes.now c.args.end c.requires.0 c.div_ceil-last.result c.div_ceil-last.ensures c.if-bytes-last.true

pub returns : goal.returns
returns c =
    c.eq.ensures
    ∙ ap (λ (o : Option ℕ). option_eq eqb o (Some 0)) c.read.ensures
    ∙ padding-test c.args.bytes.now c.args.end c.requires.0 c.div_ceil-last.result c.div_ceil-last.ensures c.if-bytes-last.false
