-- Answers a chunk: each turn takes a byte at least.
use Rattle.std.proofs.Common.{length}
use Rattle.console.proofs.answer.Given as goal

abbrev pub decreases-loop-rest : goal.decreases-loop-rest
decreases-loop-rest g l = length l.rest
