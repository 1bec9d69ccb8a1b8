-- What the answers to a whole text are, and what it is to run over it in chunks: the words of the theorems of this crate.
use Rattle.std.specs.Prelude.{ℕ, ◌+◌, List, [], ◌∷◌, ◌++◌, cond, length, take, eqb}
use Rattle.text.specs.Answer.{text_of}
use Rattle.line.specs.Standing.{Standing, Answer, answer_of}
use Rattle.run.specs.Course.{newline, lines_in, Course, Run, holding, between, still, after, run_of}

-- "one command a line, one output line each": the answers to lines, one after another
unfoldable pub answers_of : Standing → List (List ℕ) → List Answer
answers_of s [] = []
answers_of s (line ∷ lines) = let a = answer_of s line in a ∷ answers_of a.standing lines

unfoldable pub texts_of : List Answer → List ℕ
texts_of [] = []
texts_of (a ∷ l) = text_of a.reply ++ texts_of l

-- "The last newline may be missing": the last piece is a line too, if it is not empty
unfoldable pub whole_lines : List (List ℕ) → List (List ℕ)
whole_lines [] = []
whole_lines (p ∷ []) = cond (eqb (length p) 0) [] (p ∷ [])
whole_lines (p ∷ (q ∷ ps)) = p ∷ whole_lines (q ∷ ps)

-- a run without limit of room
unfoldable pub run_all : Course → List (List ℕ) → Run
run_all c [] = still c
run_all c (p ∷ []) = record { course = holding c p; taken = length p; said = [] }
run_all c (p ∷ (q ∷ ps)) =
    let a = answer_of c.standing (c.held ++ p) in
    after (length p + 1) (text_of a.reply) (run_all (between a.standing) (q ∷ ps))

-- the end of the text
unfoldable pub closing : Course → Run
closing c = cond (eqb (length c.held) 0) (still c) (run_all c (lines_in (newline ∷ [])))

-- a run, and then another from the course that it leaves
abbrev pub then_run : Run → (Course → Run) → Run
then_run r next = after r.taken r.said (next r.course)

-- a chunk of text that is handed over, and the room for answers
pub record Chunk : Type 0 where
  pub text : List ℕ
  pub room : ℕ

-- one call after another, refused or not, and the bytes that were taken
unfoldable pub run_chunks : Course → List Chunk → Run
run_chunks c [] = still c
run_chunks c (k ∷ ks) = then_run (run_of c k.text k.room).run (λ d. run_chunks d ks)

unfoldable pub taken_of : Course → List Chunk → List ℕ
taken_of c [] = []
taken_of c (k ∷ ks) =
    let r = (run_of c k.text k.room).run in
    take r.taken k.text ++ taken_of r.course ks
