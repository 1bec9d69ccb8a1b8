-- `put_numbers` puts number after number.
use Rattle.std.proofs.Common.{◌≡◌, ◌++◌, ◌*◌, take, drop}
use Rattle.bench.specs.Bench.{bytes_of}
use Rattle.bench.proofs.answer.put_numbers.Given as goal

abbrev pub invariant-loop-i : goal.invariant-loop-i
invariant-loop-i l = l.answer ≡ bytes_of (take l.i l.number-items) ++ drop (4 * l.i) l.initial.answer
