-- Sequences of calls, with the plain directory beside the suite.
use Rattle.std.specs.Prelude.{◌≡◌, List, [], ◌∷◌, Bool, false, ℕ, eqb}
use Rattle.suite.specs.Outcome.{Outcome, answered, refused}
use Rattle.suite.specs.Calls.{Call, lookup, insert, update, remove, neighbours, call_of}
use Rattle.suite.specs.Create.{create_of}
use Rattle.suite.specs.declared.Suite.{Suite}
use Rattle.history.specs.Directory.{Directory}
use Rattle.history.specs.Directory as plain

-- what an accepted call does to the plain directory
abbrev pub applied : Directory → Call → Directory
applied d (lookup rs x) = d
applied d (neighbours rs x) = d
applied d (insert rs ws x v) = plain.insert d x v
applied d (update rs ws x v) = plain.update d x v
applied d (remove rs ws x) = plain.remove d x

-- 'one plain directory that got only the accepted changes'
abbrev pub follow : Directory → Call → Outcome → Directory
follow d c (answered vs) = applied d c
follow d c (refused n) = d

-- A suite that can be reached, with the plain directory of its history: a fresh suite; a suite after any call, accepted or refused,
-- with sets picked freely; a suite loaded from an image of a suite so reached. What a load gives is the suite that was saved (the
-- image's round trip), and its history is the saved suite's.
pub data Reached : Suite → Directory → Type 0 where
  created : (r w : ℕ) (votes : List ℕ) → (create_of r w votes).outcome ≡ answered [] → Reached (create_of r w votes).suite []
  called : {s : Suite} {d : Directory} → Reached s d → (c : Call) → Reached (call_of s c).suite (follow d c (call_of s c).outcome)
  loaded : {s : Suite} {d : Directory} → Reached s d → (t : Suite) → t ≡ s → Reached t d

-- a step of a run: a call, or the load of an image saved from any suite so reached, in this run or another
pub data Step : Type 0 where
  call : Call → Step
  load : (s : Suite) (d : Directory) → Reached s d → Step

-- a call of a run: the suite and the plain directory before it, and its answer
pub record Stood : Type 0 where
  pub suite : Suite
  pub directory : Directory
  pub asked : Call
  pub outcome : Outcome

-- the calls of a run, in order
unfoldable pub run : Suite → Directory → List Step → List Stood
run s d [] = []
run s d (call c ∷ l) =
    record { suite = s; directory = d; asked = c; outcome = (call_of s c).outcome } ∷ run (call_of s c).suite (follow d c (call_of s c).outcome) l
run s d (load t e r ∷ l) = run t e l

-- is this an accepted insert of x?
abbrev pub insert_of : ℕ → Call → Bool
insert_of x (lookup rs y) = false
insert_of x (neighbours rs y) = false
insert_of x (insert rs ws y v) = eqb y x
insert_of x (update rs ws y v) = false
insert_of x (remove rs ws y) = false

abbrev pub inserted : ℕ → Call → Outcome → Bool
inserted x c (answered vs) = insert_of x c
inserted x c (refused n) = false

-- The history of one suite from s on, in which no insert of x was accepted: calls, and loads of what was saved.
pub data Since (x : ℕ) (s : Suite) : Suite → Type 0 where
  now : Since x s s
  then : {t : Suite} → Since x s t → (c : Call) → inserted x c (call_of t c).outcome ≡ false → Since x s (call_of t c).suite
  saved : {t : Suite} → Since x s t → (u : Suite) → u ≡ t → Since x s u
