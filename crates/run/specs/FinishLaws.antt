-- The end of the text, where the suite is sound and an answer has room, is the end of the text without limit.
use Rattle.std.specs.Prelude.{◌≡◌, refl, ℕ, ◌≤◌, [], ◌∷◌, Bool, true, false, cond, length, eqb}
use Rattle.std.proofs.Common.{le-ltb}
use Rattle.suite.specs.Outcome.{answered}
use Rattle.run.specs.Course.{newline, lines_in, Course, still, run_on, unsound, due, run_of, finish_of}
use Rattle.run.specs.Answers.{run_all, closing}

ends : (c : Course) (room : ℕ) → unsound c.standing ≡ false → 33 ≤ room
    → run_of c (newline ∷ []) room ≡ record { outcome = answered []; run = run_all c (lines_in (newline ∷ [])) }
unfolding run_of lines_in newline due run_on run_all
ends c room s k = rw (s, le-ltb room 33 k)

pub finished : (c : Course) (room : ℕ) → unsound c.standing ≡ false → 33 ≤ room
    → finish_of c room ≡ record { outcome = answered []; run = closing c }
unfolding finish_of closing
finished c room s k = go (eqb (length c.held) 0)
  where
    go : (t : Bool)
        → cond t (record { outcome = answered []; run = still c }) (run_of c (newline ∷ []) room)
        ≡ record { outcome = answered []; run = cond t (still c) (run_all c (lines_in (newline ∷ []))) }
    go true = refl
    go false = ends c room s k
