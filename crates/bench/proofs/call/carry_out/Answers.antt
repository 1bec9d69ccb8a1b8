-- `carry_out` goes through the refusals in the paper's order, and makes the call on the suite that was read.
use Rattle.std.proofs.Common.{◌≡◌, ap, ◌∙◌, List, ℕ, arith}
use Rattle.fields.specs.Bits.{Below}
use Rattle.fields.proofs.Below.{below_of_lem}
use Rattle.image.specs.Reader.{loaded, read_image}
use Rattle.image.proofs.RoundTrip.{written_read}
use Rattle.bench.specs.Bench.{stepped, number_of}
use Rattle.bench.proofs.Stepping.{status-err, no_room, not-loaded, loads, outcome-read, suite-read, upto_4}
use Rattle.bench.proofs.call.carry_out.Goals as goal
use Rattle.bench.proofs.call.carry_out.Goals.{In_ok-read}

pub returns-then-answer-lt16 : goal.returns-then-answer-lt16
returns-then-answer-lt16 c =
    let a = c.args in
    let x = a.arguments in
    no_room (number_of a.operation) x.read x.write x.name x.value a.image.now a.out.now a.answer.now (upto_4 a.operation) (omega arith)

pub returns-in_err-read : goal.returns-in_err-read
returns-in_err-read c =
    let a = c.args in
    let x = a.arguments in
    ap (λ (n : ℕ). stepped n a.out.now a.answer.now) (status-err c.from_residual.result _ c.from_residual.ensures.1)
    ∙ not-loaded (number_of a.operation) x.read x.write x.name x.value a.image.now a.out.now a.answer.now (upto_4 a.operation) (omega arith) _
    (outcome-read a.image.now _ _ c.in_err-read.ensures)

-- the suite that was read
read-in : (c : In_ok-read) → read_image c.args.image.now ≡ loaded c.read.new.suite
read-in c = suite-read c.args.image.now _ _ c.in_ok-read.ensures

bytes-in : (c : In_ok-read) → Below 256 c.args.image.now
bytes-in c = below_of_lem 256 c.args.image.now (λ i k. omega (arith, c.type_inv.image i))

pub call-requires : goal.call-requires
call-requires c =
    let d = (goal.at.call-requires c).In_ok-read in
    written_read c.args.image.now c.read.new.suite (bytes-in d) (read-in d)

pub returns-in_err-numbers : goal.returns-in_err-numbers
returns-in_err-numbers c =
    let a = c.args in
    let x = a.arguments in
    ap (λ (n : ℕ). stepped n c.call.new.out a.answer.now) (status-err c.from_residual-in_err-numbers.result _ c.from_residual-in_err-numbers.ensures.1)
    ∙ loads (number_of a.operation) x.read x.write x.name x.value a.image.now a.out.now a.answer.now (upto_4 a.operation) (omega arith) _ _
    (read-in (goal.at.returns-in_err-numbers c).In_ok-read) (c.in_err-numbers.ensures a.answer.now)

pub returns : goal.returns
returns c =
    let a = c.args in
    let x = a.arguments in
    ap (λ (l : List ℕ). stepped 0 c.call.new.out l) c.put_numbers.ensures
    ∙ loads (number_of a.operation) x.read x.write x.name x.value a.image.now a.out.now a.answer.now (upto_4 a.operation) (omega arith) _ _
    (read-in (goal.at.returns c).In_ok-read) (c.in_ok-numbers.ensures a.answer.now)
