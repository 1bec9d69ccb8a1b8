-- `read_votes` reads vote after vote, or ends with the first fault.
use native.Mathlib.Omega.{arith}
use mathlib.Core.Path.{◌≡◌, ap, ◌∙◌}
use Prim.Native.Nat.{ℕ, ◌+◌, ◌*◌}
use lib.ListN.{length}
use Rattle.std.proofs.lemmas.Result.{err_from_is_err_and}
use Rattle.suite.specs.Outcome.{number_of}
use Rattle.image.specs.Reader.{took, field}
use Rattle.image.proofs.Reading.{places-start, places-more, places-fault, places-end}
use Rattle.image.proofs.reader.read_votes.Goals as goal

pub loop-vote-init : goal.loop-vote-init
loop-vote-init c = let a = c.args in (places-start (field a.bytes.now 4) 0 (length a.votes.now) a.at a.votes.now c.requires.1.1, omega arith)

pub returns-in_err-vote : goal.returns-in_err-vote
returns-in_err-vote c =
    let a = c.args in
    let l = c.loop-vote in
    let p = err_from_is_err_and c.from_residual.result c.from_residual.ensures.1 in
    rw (p.1, p.2)
    (places-fault (field a.bytes.now 4) 0 (length a.votes.now) a.at l.votes l.next l.vote-index l.invariant.0 (number_of c.in_err-vote.field-0.0) (omega arith) c.in_err-vote.ensures.taken)

pub loop-vote-preserved : goal.loop-vote-preserved
loop-vote-preserved c =
    let a = c.args in
    let l = c.loop-vote in (
      places-more (field a.bytes.now 4) 0 (length a.votes.now) a.at l.votes l.next l.vote-index l.invariant.0 (l.next + 4) c.in_ok-vote.field-0 (omega arith) c.in_ok-vote.ensures.taken,
      omega arith,
    )

pub returns : goal.returns
returns c =
    let a = c.args in
    let l = c.loop-vote in
    let e : a.at + 4 * length a.votes.now ≡ l.next = omega arith in
    ap (λ (n : ℕ). took l.votes n) e ∙ places-end (field a.bytes.now 4) 0 (length a.votes.now) a.at l.votes l.next l.vote-index l.invariant.0 (omega arith)
