-- What a session is, and what a run reports.
use Rattle.std.specs.Prelude.{List, [], ◌++◌, ℕ, ◌+◌, ◌-◌, length, take, drop, replicate, Option, None, Result, Ok, Err}
use Rattle.text.specs.Line.{padded}
use Rattle.suite.specs.Outcome.{Outcome, answered, refused, number_of}
use Rattle.suite.specs.declared.Refusal.{Refusal}
use Rattle.suite.specs.declared.Suite.{Suite}
use Rattle.line.specs.Standing.{Standing}
use Rattle.line.specs.Lent.{standing_in}
use Rattle.run.specs.Course.{lines_in, Course, Run, Told, between, run_on}
use Rattle.run.specs.declared.Session.{Session}
use Rattle.run.specs.declared.Ran.{Ran}

-- the held line; a count past 81 counts as 81
abbrev pub held_in : Session → List ℕ
held_in s = take s.held s.line

abbrev pub course_in : Session → Course
course_in s = record { standing = standing_in s.standing; held = held_in s }

-- a session that holds these bytes of a line: zeros stand behind them
abbrev pub session_of : Option Suite → List ℕ → Session
session_of standing held = record { standing = standing; line = padded 81 held; held = length held }

-- before any text
abbrev pub fresh_session : Session
fresh_session = record { standing = None; line = replicate 81 0; held = 0 }

-- the session that a call leaves: one that was run on has zeros behind its held bytes, a refused one is the one that went in
abbrev pub left_by : Result Ran Refusal → Session → Session → Session
left_by (Ok r) old new = session_of new.standing (held_in new)
left_by (Err e) old new = old

-- what a call answers in numbers, with the course that the session holds after it
pub record Report : Type 0 where
  pub outcome : Outcome
  pub course : Course
  pub taken : ℕ
  pub written : ℕ

abbrev pub ran_in : Ran → Session → Report
ran_in r s = record { outcome = answered []; course = course_in s; taken = r.taken; written = r.written }

-- a refused call takes and writes nothing
abbrev pub report_in : Result Ran Refusal → Session → Report
report_in (Ok r) s = ran_in r s
report_in (Err e) s = record { outcome = refused (number_of e); course = course_in s; taken = 0; written = 0 }

abbrev pub report_of : Told → Report
report_of t = record { outcome = t.outcome; course = t.run.course; taken = t.run.taken; written = length t.run.said }

-- the lent output: what was said stands at its start, and every later byte is as it was
abbrev pub placed : Told → List ℕ → List ℕ
placed t out = t.run.said ++ drop (length t.run.said) out

-- the same for the run from some byte of the text on, where a line begins, with the output filled up to some byte
abbrev pub run_from : Standing → List ℕ → ℕ → List ℕ → ℕ → Run
run_from s text at out filled = run_on (length out - filled) (between s) (lines_in (drop at text))

abbrev pub report_from : ℕ → ℕ → Run → Report
report_from at filled r =
    record { outcome = answered []; course = r.course; taken = at + r.taken; written = filled + length r.said }

abbrev pub placed_from : ℕ → Run → List ℕ → List ℕ
placed_from filled r out = take filled out ++ (r.said ++ drop (filled + length r.said) out)
