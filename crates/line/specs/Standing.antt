-- What a line is answered, and what it leaves. The rules paper, "Line program".
use Rattle.std.specs.Prelude.{ℕ, ◌-◌, ◌^◌, List, Option, None, Some, Bool, true, false, cond, length, take, get_or, ltb, eqb}
use Rattle.text.specs.Line.{command_of, ballots_of}
use Rattle.text.specs.declared.Members.{Members}
use Rattle.text.specs.declared.Members.TheVariants.{Everyone, Only}
use Rattle.text.specs.declared.Command.{Command}
use Rattle.text.specs.declared.Command.TheVariants as command
use Rattle.text.specs.declared.Creation.{Creation}
use Rattle.text.specs.declared.Reply.{Reply}
use Rattle.text.specs.declared.Reply.TheVariants.{SuiteOk, Ok, Removed, At, Absent, Near, Refused}
use Rattle.suite.specs.Suite.{ballots}
use Rattle.suite.specs.Outcome.{Outcome, answered, refused}
use Rattle.suite.specs.Calls.{Call, lookup, insert, update, remove, neighbours, Result, step_of}
use Rattle.suite.specs.Create.{create_of, not_created}
use Rattle.suite.specs.declared.Suite.{Suite}

-- whether a suite has been accepted, and the suite
pub record Standing : Type 0 where
  pub made : Bool
  pub suite : Suite

-- a line's answer, and what stands after it
pub record Answer : Type 0 where
  pub reply : Reply
  pub standing : Standing

abbrev pub accepted : Suite → Standing
accepted s = record { made = true; suite = s }

-- none was, whatever suite is named beside
abbrev pub fresh : Suite → Standing
fresh s = record { made = false; suite = s }

-- "A set written `-` means all members": as many as there are votes
abbrev pub set_of : List ℕ → Members → ℕ
set_of votes Everyone = 2 ^ length votes - 1
set_of votes (Only n) = n

-- the call that a command makes on a suite; another `suite`, or a line of any other form, makes none
abbrev pub call_for : Suite → Option Command → Option Call
call_for s (Some (command.Look rs x)) = Some (lookup (set_of (ballots s) rs) x)
call_for s (Some (command.Near rs x)) = Some (neighbours (set_of (ballots s) rs) x)
call_for s (Some (command.Insert rs ws x v)) = Some (insert (set_of (ballots s) rs) (set_of (ballots s) ws) x v)
call_for s (Some (command.Update rs ws x v)) = Some (update (set_of (ballots s) rs) (set_of (ballots s) ws) x v)
call_for s (Some (command.Remove rs ws x)) = Some (remove (set_of (ballots s) rs) (set_of (ballots s) ws) x)
call_for s (Some (command.Suite r w)) = None
call_for s None = None

-- "`ok` shows the version, after `del` also requests; `at` version and value; `none` version; `near` predecessor (or LOW),
-- successor (or HIGH), requests": of the values that a call answers
abbrev pub found : List ℕ → Reply
found vs = cond (eqb (get_or vs 0 0) 1) (At (get_or vs 1 0) (get_or vs 2 0)) (Absent (get_or vs 1 0))

abbrev pub put : List ℕ → Reply
put vs = Ok (get_or vs 0 0)

abbrev pub removed : List ℕ → Reply
removed vs = Removed (get_or vs 0 0) (get_or vs 1 0)

abbrev pub near : List ℕ → Reply
near vs = Near (get_or vs 0 0) (get_or vs 1 0) (get_or vs 2 0)

abbrev pub spoken : Call → List ℕ → Reply
spoken (lookup rs x) = found
spoken (insert rs ws x v) = put
spoken (update rs ws x v) = put
spoken (remove rs ws x) = removed
spoken (neighbours rs x) = near

-- "`no` the refusal"
abbrev pub replied : (List ℕ → Reply) → Outcome → Reply
replied say (answered vs) = say vs
replied say (refused n) = Refused n

-- on a suite that was accepted: "afterwards another `suite` is 14"
unfoldable pub on_suite : Suite → Option Call → Answer
on_suite s None = record { reply = Refused 14; standing = accepted s }
on_suite s (Some c) = record { reply = replied (spoken c) (step_of s c).outcome; standing = accepted (step_of s c).suite }

-- the creation that a line asks for. A line's first eight votes are kept, with the count of all: over eight is refusal 2
abbrev pub creation_for : Option Creation → Option Result
creation_for (Some p) = Some (cond (ltb 8 p.count) (not_created 2) (create_of p.read p.write (take p.count p.votes)))
creation_for None = None

-- "A refused `suite` may be tried again."
abbrev pub created : Standing → Suite → Outcome → Answer
created t s (answered vs) = record { reply = SuiteOk; standing = accepted s }
created t s (refused n) = record { reply = Refused n; standing = t }

-- "`suite R W votes..` comes first and once; until one is accepted every other command is 14"
unfoldable pub without_suite : Standing → Option Result → Answer
without_suite t None = record { reply = Refused 14; standing = t }
without_suite t (Some r) = created t r.suite r.outcome

-- the answer to a line, its newline not among its bytes
unfoldable pub answer_of : Standing → List ℕ → Answer
answer_of t line =
    cond t.made (on_suite t.suite (call_for t.suite (command_of line))) (without_suite t (creation_for (ballots_of line)))
