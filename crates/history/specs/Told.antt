-- What a call of a run comes to, where the plain directory before it is d: its refusal, or its values.
use Rattle.std.specs.Prelude.{List, [], ◌∷◌, Bool, true, false, cond, ℕ, ltb, eqb}
use Rattle.member.specs.Limits.{largest_name, largest_version}
use Rattle.member.specs.Change.{fits_write, fits_coalesce}
use Rattle.member.specs.declared.Member.{Member}
use Rattle.suite.specs.Sets.{chosen, exists, votes_of, all}
use Rattle.suite.specs.Suite.{tiles, ballots}
use Rattle.suite.specs.Outcome.{Outcome, answered}
use Rattle.suite.specs.Calls.{Call, lookup, insert, update, remove, neighbours, version_of, newest, write_set, answers, judged, passed}
use Rattle.suite.specs.Requests.{read_set, requests_of}
use Rattle.suite.specs.Accepted.{name_of, value_of, needed_of, new_version}
use Rattle.suite.specs.declared.Suite.{Suite}
use Rattle.history.specs.Directory.{Directory}
use Rattle.history.specs.Directory as plain

-- Refusals 5 to 9, from the call's own numbers, the votes, R and W.
abbrev pub own_refusal : Suite → Call → ℕ
own_refusal s c = judged (ballots s) s.read (needed_of s.write c) (name_of c) (value_of c) (read_set c) (write_set c)

-- 10, insert: name present; 11, update, remove: name absent. Presence is the plain directory's.
abbrev pub presence_refusal : Directory → Call → ℕ
presence_refusal d (lookup rs x) = 0
presence_refusal d (neighbours rs x) = 0
presence_refusal d (insert rs ws x v) = cond (plain.present d x) 10 0
presence_refusal d (update rs ws x v) = cond (plain.present d x) 0 11
presence_refusal d (remove rs ws x) = cond (plain.present d x) 0 11

-- does the call fit this member of the write set? A removal coalesces between the plain directory's neighbours.
abbrev pub fits_one : Directory → Call → Member → Bool
fits_one d (lookup rs x) m = true
fits_one d (neighbours rs x) m = true
fits_one d (insert rs ws x v) m = fits_write m x
fits_one d (update rs ws x v) m = fits_write m x
fits_one d (remove rs ws x) m = fits_coalesce m (plain.predecessor d x) (plain.successor d x)

-- 12, the new version would exceed the largest; 13, some member of the write set would hold over 32 entries.
abbrev pub limits : ℕ → Bool → ℕ
limits version fit = cond (ltb largest_version version) 12 (cond fit 0 13)

abbrev pub limit_refusal : Suite → Directory → Call → ℕ
limit_refusal s d c = limits (new_version c (answers s c)) (all (fits_one d c) (chosen (tiles s) (write_set c)))

-- the first that applies, or 0
abbrev pub first : ℕ → ℕ → ℕ
first a b = cond (eqb a 0) b a

abbrev pub refusal_of : Suite → Directory → Call → ℕ
refusal_of s d c = first (own_refusal s c) (first (presence_refusal d c) (limit_refusal s d c))

-- what this comes to for lookup and neighbours: 5, 7 and 8
abbrev pub read_refusal : Suite → ℕ → ℕ → ℕ
read_refusal s rs x = cond (ltb largest_name x) 5 (cond (exists (ballots s) rs) (cond (ltb (votes_of (ballots s) rs) s.read) 8 0) 7)

-- 'present' is 1, 'absent' is 0
abbrev pub flag : Bool → ℕ
flag true = 1
flag false = 0

-- Presence, value and neighbours are the plain directory's, which has no versions. Requests are those of the call's sets.
abbrev pub values_of : Suite → Directory → Call → List ℕ
values_of s d (lookup rs x) =
    flag (plain.present d x) ∷ version_of (newest (answers s (lookup rs x))) ∷ plain.value_of d x ∷ requests_of (lookup rs x) ∷ []
values_of s d (neighbours rs x) = plain.predecessor d x ∷ plain.successor d x ∷ requests_of (neighbours rs x) ∷ []
values_of s d (insert rs ws x v) = new_version (insert rs ws x v) (answers s (insert rs ws x v)) ∷ requests_of (insert rs ws x v) ∷ []
values_of s d (update rs ws x v) = new_version (update rs ws x v) (answers s (update rs ws x v)) ∷ requests_of (update rs ws x v) ∷ []
values_of s d (remove rs ws x) = new_version (remove rs ws x) (answers s (remove rs ws x)) ∷ requests_of (remove rs ws x) ∷ []

unfoldable pub told_of : Suite → Directory → Call → Outcome
told_of s d c = passed (refusal_of s d c) (answered (values_of s d c))
