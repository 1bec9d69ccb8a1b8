-- `directory_step` knows the operations 0 to 4.
use Rattle.std.proofs.Common.{ap, ◌∙◌, ℕ}
use Rattle.suite.specs.Outcome.{number_of}
use Rattle.bench.specs.Bench.{stepped}
use Rattle.bench.proofs.Stepping.{status-err, not-understood}
use Rattle.bench.proofs.directory_step.Goals as goal

pub returns-in_err-operation : goal.returns-in_err-operation
returns-in_err-operation c =
    let a = c.args in
    let h = c.in_err-operation.ensures in
    ap (λ (n : ℕ). stepped n a.out.now a.answer.now) (status-err c.from_residual.result _ c.from_residual.ensures.1 ∙ ap number_of h.1)
    ∙ not-understood a.operation a.read a.write a.name a.value a.image.now a.out.now a.answer.now h.0
