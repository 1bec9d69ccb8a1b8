-- `written` writes the image where it fits.
use Rattle.std.proofs.Common.{◌∙◌}
use Rattle.bench.proofs.Stepping.{answering-err, fill-refused, fill-written}
use Rattle.bench.proofs.answer.written.Goals as goal

pub returns-in_err-write_unchecked : goal.returns-in_err-write_unchecked
returns-in_err-write_unchecked c = λ answer.
    answering-err c.from_residual.result _ _ answer c.from_residual.ensures.1
    ∙ fill-refused _ _ c.args.out.now answer _ _ c.in_err-write_unchecked.ensures

pub returns : goal.returns
returns c = λ answer. fill-written _ _ c.args.out.now answer _ _ c.in_ok-write_unchecked.ensures
