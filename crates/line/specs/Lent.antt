-- What stands, where a suite was accepted or none.
use Rattle.std.specs.Prelude.{Option, None, Some}
use Rattle.text.specs.declared.Command.{Command}
use Rattle.text.specs.declared.Reply.{Reply}
use Rattle.suite.specs.Create.{blank}
use Rattle.suite.specs.declared.Suite.{Suite}
use Rattle.line.specs.Standing.{Standing, Answer, accepted, fresh, call_for, on_suite}

abbrev pub standing_in : Option Suite → Standing
standing_in None = fresh blank
standing_in (Some s) = accepted s

abbrev pub answer_in : Reply → Option Suite → Answer
answer_in r t = record { reply = r; standing = standing_in t }

-- the same where a suite was accepted before
abbrev pub reply_in : Reply → Suite → Answer
reply_in r s = record { reply = r; standing = accepted s }

-- what a command comes to there
abbrev pub carried_out : Suite → Option Command → Answer
carried_out s k = on_suite s (call_for s k)
