-- A run goes from line to line.
use Rattle.std.specs.Prelude.{◌≡◌, ℕ, ◌+◌, ◌-◌, ◌≤◌, ◌<◌, List, [], ◌∷◌, ◌++◌, length}
use Rattle.std.proofs.Math.Path.{refl}
use borrow.Author.Tests.{lt-ltb, le-ltb}
use Rattle.text.specs.Answer.{text_of}
use Rattle.line.specs.Standing.{answer_of}
use Rattle.run.specs.Course.{lines_in, Course, holding, between, still, after, run_on}
use Rattle.run.specs.LineLaws.{lines_are}

module _ (room : ℕ) (c : Course) (p l : List ℕ) where
  pub run-stop : room < 33 → run_on room c (p ∷ lines_in l) ≡ still c
  unfolding run_on
  run-stop h = rw (lines_are l, lt-ltb room 33 h)

  pub run-line : 33 ≤ room
      → run_on room c (p ∷ lines_in l)
      ≡ after (length p + 1) (text_of (answer_of c.standing (c.held ++ p)).reply)
      (run_on (room - length (text_of (answer_of c.standing (c.held ++ p)).reply))
      (between (answer_of c.standing (c.held ++ p)).standing) (lines_in l))
  unfolding run_on
  run-line h = rw (lines_are l, le-ltb room 33 h)

  pub run-last : run_on room c (p ∷ []) ≡ record { course = holding c p; taken = length p; said = [] }
  unfolding run_on
  run-last = refl
