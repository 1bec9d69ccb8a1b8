-- `kept` puts the image where it fits.
use Rattle.std.proofs.Common.{◌∙◌}
use Rattle.bench.proofs.Stepping.{answering-err, fill-refused, fill-written}
use Rattle.bench.proofs.answer.kept.Goals as goal

pub returns-in_err-fill : goal.returns-in_err-fill
returns-in_err-fill c = λ answer.
    let a = c.args in
    answering-err c.from_residual.result _ _ answer c.from_residual.ensures.1
    ∙ fill-refused a.numbers a.image.now a.out.now answer _ _ c.in_err-fill.ensures

pub returns : goal.returns
returns c = λ answer. fill-written c.args.numbers c.args.image.now c.args.out.now answer _ _ c.in_ok-fill.ensures
