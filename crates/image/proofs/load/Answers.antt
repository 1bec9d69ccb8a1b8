-- `load` reads the suite and looks at what is left behind it.
use native.Mathlib.Omega.{arith}
use mathlib.Core.Path.{sym, ◌∙◌}
use Rattle.std.proofs.lemmas.Result.{err_from_is_err_and}
use Rattle.suite.specs.Outcome.{number_of}
use Rattle.image.proofs.Shapes.{suite-matches}
use Rattle.image.proofs.Loads.{image-fault, image-done, image-padding}
use Rattle.image.proofs.load.Goals as goal

pub returns-in_err-end : goal.returns-in_err-end
returns-in_err-end c =
    let p = err_from_is_err_and c.from_residual.result c.from_residual.ensures.1 in
    rw (p.1, p.2) (image-fault c.args.bytes.now (number_of c.in_err-end.field-0.0) c.in_err-end.ensures.0)

pub only_padding-requires : goal.only_padding-requires
only_padding-requires c =
    let s = c.read_suite.new.suite in (
      (((suite-matches c.args.bytes.now 20 (omega arith)).only s 0 c.in_ok-end.end (sym c.in_ok-end.ensures.0)).1 (omega arith)).within,
      c.in_ok-end.ensures.1,
    )

pub returns-then-only_padding : goal.returns-then-only_padding
returns-then-only_padding c =
    image-done c.args.bytes.now c.read_suite.new.suite c.in_ok-end.end c.in_ok-end.ensures.0 (sym c.only_padding.ensures ∙ c.if-only_padding.true)

pub returns-else-only_padding : goal.returns-else-only_padding
returns-else-only_padding c =
    image-padding c.args.bytes.now c.read_suite.new.suite c.in_ok-end.end c.in_ok-end.ensures.0 (sym c.only_padding.ensures ∙ c.if-only_padding.false)
