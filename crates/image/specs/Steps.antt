-- What the reader's own steps answer.
use Rattle.std.specs.Prelude.{ℕ, ◌≤◌, Result, Ok, Err}
use Rattle.suite.specs.Outcome.{number_of}
use Rattle.suite.specs.Calls as calls
use Rattle.suite.specs.declared.Refusal.{Refusal}
use Rattle.suite.specs.declared.Suite.{Suite}
use Rattle.image.specs.Reader.{Taken, took, fault, loaded, not_loaded}

-- what was read, which ends at bit n
abbrev pub taken_of : {A : Type 0} → Result A Refusal → ℕ → Taken A
taken_of (Ok a) n = took a n
taken_of (Err f) n = fault (number_of f)

-- a, up to the place that was answered
abbrev pub placed_of : {A : Type 0} → Result ℕ Refusal → A → Taken A
placed_of (Ok n) a = took a n
placed_of (Err f) a = fault (number_of f)

-- a, which ends at bit n
abbrev pub passed_of : {A : Type 0} → Result Unit Refusal → A → ℕ → Taken A
passed_of (Ok u) a n = took a n
passed_of (Err f) a n = fault (number_of f)

-- the place is at most bit n
abbrev pub ends_by : Result ℕ Refusal → ℕ → Type 0
ends_by (Ok m) n = m ≤ n
ends_by (Err f) n = Unit {0}

-- s whole, or the refusal
abbrev pub ended_of : Result Unit Refusal → Suite → calls.Result
ended_of (Ok u) s = loaded s
ended_of (Err f) s = not_loaded (number_of f)
