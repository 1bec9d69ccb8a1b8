-- The rules paper, "Bench call": what it returns, and what stands afterwards in the bytes that the bench lends.
use Rattle.std.specs.Prelude.{List, [], ◌∷◌, ◌++◌, cond, ℕ, ◌/◌, ◌%◌, ◌^◌, length, take, drop, replicate, leb, ltb, eqb, Result, Ok, Err}
use Rattle.suite.specs.Outcome.{Outcome, answered, refused, judged_of}
use Rattle.suite.specs.Outcome as suite
use Rattle.suite.specs.Calls.{Call, lookup, insert, update, remove, neighbours, step_of}
use Rattle.suite.specs.declared.Suite.{Suite}
use Rattle.suite.specs.declared.Refusal.{Refusal}
use Rattle.image.specs.Layout.{image_of}
use Rattle.image.specs.Reader.{read_image}
use Rattle.bench.specs.declared.operation.Operation.{Operation}
use Rattle.bench.specs.declared.operation.Operation.TheVariants.{Lookup, Insert, Update, Remove, Neighbours}

-- It returns 0 or the refusal; and image out and the answer as they stand afterwards.
pub record Stepped : Type 0 where
  pub code : ℕ
  pub out : List ℕ
  pub answer : List ℕ

abbrev pub stepped : ℕ → List ℕ → List ℕ → Stepped
stepped code out answer = record { code = code; out = out; answer = answer }

-- 0, or the refusal's number
abbrev pub status_of : Result Unit Refusal → ℕ
status_of r = judged_of r

-- 32-bit numbers, most significant byte first.
unfoldable pub bytes_of : List ℕ → List ℕ
bytes_of [] = []
bytes_of (n ∷ l) = n / 2 ^ 24 % 256 ∷ n / 2 ^ 16 % 256 ∷ n / 2 ^ 8 % 256 ∷ n % 256 ∷ bytes_of l

-- what stands once the numbers of a call are in the answer's first 16 bytes, most significant byte first; a refusal leaves it
abbrev pub answering : Result (List ℕ) Refusal → List ℕ → List ℕ → Stepped
answering (Ok numbers) out answer = stepped 0 out (bytes_of numbers ++ drop 16 answer)
answering (Err refusal) out answer = stepped (suite.number_of refusal) out answer

abbrev pub number_of : Operation → ℕ
number_of Lookup = 0
number_of Insert = 1
number_of Update = 2
number_of Remove = 3
number_of Neighbours = 4

-- Operation number: 0 lookup, 1 insert, 2 update, 3 remove, 4 neighbours. Arguments an operation lacks are ignored.
unfoldable pub call_for : ℕ → ℕ → ℕ → ℕ → ℕ → Call
call_for operation rs ws x v =
    cond (eqb operation 0) (lookup rs x)
    (cond (eqb operation 1) (insert rs ws x v)
    (cond (eqb operation 2) (update rs ws x v)
    (cond (eqb operation 3) (remove rs ws x) (neighbours rs x))))

-- Four numbers: present, version, value, requests; or version, requests, 0, 0; or predecessor + 1 (LOW 0), successor + 1
-- (HIGH 1,048,577), requests, 0. They are the values that the call answers, and zeros.
unfoldable pub numbers_of : List ℕ → List ℕ
numbers_of vs = take 4 (vs ++ replicate 4 0)

-- 19 for the image out. On 0 image out starts with the new image and the answer's first 16 bytes are four numbers. Later bytes stay.
unfoldable pub filled : List ℕ → List ℕ → List ℕ → List ℕ → Stepped
filled numbers image out answer =
    cond (leb (length image) (length out))
    (stepped 0 (image ++ drop (length image) out) (bytes_of numbers ++ drop 16 answer))
    (stepped 19 out answer)

-- The operation's own refusal, and else the answer. A refusal returns its number alone; lent memory stays as it was.
abbrev pub settled : Outcome → List ℕ → List ℕ → List ℕ → Stepped
settled (refused n) image out answer = stepped n out answer
settled (answered vs) image out answer = filled (numbers_of vs) image out answer

-- 15 to 18, and else the call on the suite that the image holds.
abbrev pub carried : Outcome → Suite → Call → List ℕ → List ℕ → Stepped
carried (refused n) s c out answer = stepped n out answer
carried (answered vs) s c out answer = settled (step_of s c).outcome (image_of (step_of s c).suite) out answer

-- 14, and 19 for an answer under 16 bytes, before the rest.
unfoldable pub admitted : ℕ → List ℕ → List ℕ → Stepped → Stepped
admitted operation out answer rest =
    cond (ltb 4 operation) (stepped 14 out answer) (cond (ltb (length answer) 16) (stepped 19 out answer) rest)

-- Operation number, both sets, name, value, image in, image out, answer. Order: 14, 19 for an answer under 16 bytes, 15 to 18,
-- the operation's own, 19 for the image out.
unfoldable pub bench_of : ℕ → ℕ → ℕ → ℕ → ℕ → List ℕ → List ℕ → List ℕ → Stepped
bench_of operation rs ws x v image out answer =
    admitted operation out answer (carried (read_image image).outcome (read_image image).suite (call_for operation rs ws x v) out answer)
