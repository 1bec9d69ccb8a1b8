-- What insert and update answer with.
use Rattle.std.specs.Prelude.{ℕ}
use mathlib.Core.List.{List, ◌++◌}
use Rattle.suite.specs.Calls.{Marked, asked_of, reading_answers}
use Rattle.suite.specs.declared.Suite.{Suite}
use Rattle.suite.specs.Question as question

-- insert and update ask alike
abbrev pub put_answers : Suite → ℕ → ℕ → ℕ → List Marked
put_answers s rs ws x = reading_answers s rs x ++ asked_of s ws (question.FitsWrite x)
