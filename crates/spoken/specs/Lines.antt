-- A run of lines, with the plain directory beside what stands.
use Rattle.std.specs.Prelude.{List, [], ◌∷◌, Option, None, Some, cond, ℕ}
use Rattle.text.specs.Line.{command_of, ballots_of}
use Rattle.text.specs.declared.Reply.{Reply}
use Rattle.text.specs.declared.Reply.TheVariants.{Refused}
use Rattle.suite.specs.Calls.{Call}
use Rattle.suite.specs.declared.Suite.{Suite}
use Rattle.line.specs.Standing.{Standing, accepted, fresh, call_for, spoken, replied, creation_for, without_suite, answer_of}
use Rattle.history.specs.Directory.{Directory}
use Rattle.history.specs.Run.{Reached, follow}
use Rattle.history.specs.Told.{told_of}

-- What lines come to, with the plain directory of their history: no suite was accepted yet, and the directory is empty; or a suite
-- stands that a run of calls reaches.
pub data Lined : Standing → Directory → Type 0 where
  nothing : (s : Suite) → Lined (fresh s) []
  suited : {s : Suite} {d : Directory} → Reached s d → Lined (accepted s) d

-- What a line is told where t stands and the plain directory is d: on an accepted suite what the plain directory tells of the call
-- (the suite beside it gives versions, votes and room), in the line program's words; before that the directory has no part in it.
unfoldable pub told_on : Suite → Directory → Option Call → Reply
told_on s d None = Refused 14
told_on s d (Some c) = replied (spoken c) (told_of s d c)

unfoldable pub told : Standing → Directory → List ℕ → Reply
told t d line =
    cond t.made (told_on t.suite d (call_for t.suite (command_of line)))
    (without_suite t (creation_for (ballots_of line))).reply

-- The plain directory after the line: it got the change if that was accepted. A suite begins with the empty directory.
unfoldable pub next_on : Suite → Directory → Option Call → Directory
next_on s d None = d
next_on s d (Some c) = follow d c (told_of s d c)

unfoldable pub next : Standing → Directory → List ℕ → Directory
next t d line = cond t.made (next_on t.suite d (call_for t.suite (command_of line))) []

-- what lines are answered, and what stands after them
unfoldable pub replies : Standing → List (List ℕ) → List Reply
replies t [] = []
replies t (line ∷ l) = (answer_of t line).reply ∷ replies (answer_of t line).standing l

unfoldable pub standing_after : Standing → List (List ℕ) → Standing
standing_after t [] = t
standing_after t (line ∷ l) = standing_after (answer_of t line).standing l

-- what they are told, with the plain directory beside the suite, and that directory after them
unfoldable pub tells : Standing → Directory → List (List ℕ) → List Reply
tells t d [] = []
tells t d (line ∷ l) = told t d line ∷ tells (answer_of t line).standing (next t d line) l

unfoldable pub directory_after : Standing → Directory → List (List ℕ) → Directory
directory_after t d [] = d
directory_after t d (line ∷ l) = directory_after (answer_of t line).standing (next t d line) l
