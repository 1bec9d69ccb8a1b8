-- What a call comes to, in the paper's numbers: a refusal's number alone, or the values answered.
use Rattle.std.specs.Prelude.{List, [], ◌∷◌, ℕ, Result, Ok, Err}
use Rattle.member.specs.declared.Reading.{Reading}
use Rattle.member.specs.declared.Reading.TheVariants.{Entry, Gap}
use Rattle.suite.specs.declared.Refusal.{Refusal}
use Rattle.suite.specs.declared.Refusal.TheVariants.{Unsound, Members, Vote, Quorum, Name, Value, NoMember, ReadVotes, WriteVotes, Present, Absent, Version, Full, NotUnderstood, Short, Edition, Field, Padding, Buffer}
use Rattle.suite.specs.declared.Looked.{Looked}
use Rattle.suite.specs.declared.Near.{Near}
use Rattle.suite.specs.declared.Done.{Done}

pub data Outcome : Type 0 where
  answered : List ℕ → Outcome
  refused : ℕ → Outcome

-- the paper's table of refusals
abbrev pub number_of : Refusal → ℕ
number_of Unsound = 1
number_of Members = 2
number_of Vote = 3
number_of Quorum = 4
number_of Name = 5
number_of Value = 6
number_of NoMember = 7
number_of ReadVotes = 8
number_of WriteVotes = 9
number_of Present = 10
number_of Absent = 11
number_of Version = 12
number_of Full = 13
number_of NotUnderstood = 14
number_of Short = 15
number_of Edition = 16
number_of Field = 17
number_of Padding = 18
number_of Buffer = 19

-- Lookup: present, version, value, requests; or absent, version, value 0, requests.
abbrev pub reading_values : Reading → ℕ → List ℕ
reading_values (Entry v x) q = 1 ∷ v ∷ x ∷ q ∷ []
reading_values (Gap v) q = 0 ∷ v ∷ 0 ∷ q ∷ []

abbrev pub looked_of : Result Looked Refusal → Outcome
looked_of (Ok l) = answered (reading_values l.reading l.requests)
looked_of (Err r) = refused (number_of r)

-- Neighbours: predecessor + 1 (LOW 0), successor + 1 (HIGH 1,048,577), requests.
abbrev pub near_of : Result Near Refusal → Outcome
near_of (Ok n) = answered (n.below ∷ n.above ∷ n.requests ∷ [])
near_of (Err r) = refused (number_of r)

-- Insert, update and remove: version, requests.
abbrev pub change_of : Result Done Refusal → Outcome
change_of (Ok d) = answered (d.version ∷ d.requests ∷ [])
change_of (Err r) = refused (number_of r)

-- 0 where no refusal applies
abbrev pub judged_of : Result Unit Refusal → ℕ
judged_of (Ok u) = 0
judged_of (Err r) = number_of r
