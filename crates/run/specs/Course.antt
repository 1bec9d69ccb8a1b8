-- The run of the line program over a text. The rules paper, "Line program": "one command a line, one output line each".
use Rattle.std.specs.Prelude.{ℕ, suc, ◌+◌, ◌-◌, List, [], ◌∷◌, ◌++◌, Bool, true, false, ◌&&◌, not, cond, length, take, ltb, eqb}
use Rattle.text.specs.Words.{onto}
use Rattle.text.specs.Answer.{text_of}
use Rattle.suite.specs.Suite.{sound_suite}
use Rattle.suite.specs.Outcome.{Outcome, answered, refused}
use Rattle.line.specs.Standing.{Standing, answer_of}

-- the pieces of a text between its newlines: each but the last is a line, and the last is not ended yet
unfoldable pub newline : ℕ
newline = 10

unfoldable pub lines_in : List ℕ → List (List ℕ)
lines_in [] = [] ∷ []
lines_in (b ∷ l) = cond (eqb b newline) ([] ∷ lines_in l) (onto b (lines_in l))

-- how many bytes stand before the first newline, or in all
unfoldable pub end_in : List ℕ → ℕ
end_in [] = 0
end_in (b ∷ l) = cond (eqb b newline) 0 (suc (end_in l))

-- What stands between two chunks of the text: what stood after the last line that was answered, and the bytes of the line that
-- is not ended. Of these 81 are kept: "A line over 80 bytes (newline not counted) .. is 14", and 81 are enough to know it
pub record Course : Type 0 where
  pub standing : Standing
  pub held : List ℕ

abbrev pub most_held : ℕ
most_held = 81

abbrev pub holding : Course → List ℕ → Course
holding c more = record { standing = c.standing; held = take most_held (c.held ++ more) }

-- a line was answered, and no byte of the next is there
abbrev pub between : Standing → Course
between s = record { standing = s; held = [] }

-- what a run leaves, how many bytes of the text it took, and what it said
pub record Run : Type 0 where
  pub course : Course
  pub taken : ℕ
  pub said : List ℕ

abbrev pub still : Course → Run
still c = record { course = c; taken = 0; said = [] }

-- a run that goes on after n bytes were taken and a text was said
abbrev pub after : ℕ → List ℕ → Run → Run
after n text r = record { course = r.course; taken = n + r.taken; said = text ++ r.said }

-- the longest answer, with its newline
abbrev pub longest : ℕ
longest = 33

-- Lines are answered one after another as long as the longest answer has room; a line that is not answered is not taken.
-- What follows the last newline is held
unfoldable pub run_on : ℕ → Course → List (List ℕ) → Run
run_on room c [] = still c
run_on room c (p ∷ []) = record { course = holding c p; taken = length p; said = [] }
run_on room c (p ∷ (q ∷ ps)) =
    let a = answer_of c.standing (c.held ++ p) in
    let text = text_of a.reply in
    cond (ltb room longest) (still c)
    (after (length p + 1) text (run_on (room - length text) (between a.standing) (q ∷ ps)))

-- refusal 1: "the suite handed in isn't sound"
unfoldable pub unsound : Standing → Bool
unsound s = s.made && not (sound_suite s.suite)

-- whether a line ends in the text, so that an answer is due
unfoldable pub due : List (List ℕ) → Bool
due [] = false
due (p ∷ []) = false
due (p ∷ (q ∷ ps)) = true

-- a call's outcome, and the run; a refused call takes nothing, says nothing and changes nothing
pub record Told : Type 0 where
  pub outcome : Outcome
  pub run : Run

abbrev pub refusal : ℕ → Course → Told
refusal n c = record { outcome = refused n; run = still c }

-- refusal 1, then refusal 19: "a lent output buffer is too short"
unfoldable pub run_of : Course → List ℕ → ℕ → Told
run_of c text room =
    cond (unsound c.standing) (refusal 1 c)
    (cond (due (lines_in text) && ltb room longest) (refusal 19 c)
    (record { outcome = answered []; run = run_on room c (lines_in text) }))

-- the end of the text ends a line too, if that is not empty: "The last newline may be missing"
unfoldable pub finish_of : Course → ℕ → Told
finish_of c room =
    cond (eqb (length c.held) 0) (record { outcome = answered []; run = still c }) (run_of c (newline ∷ []) room)
