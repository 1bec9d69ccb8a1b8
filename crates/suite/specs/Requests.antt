-- Requests: how many member answers a call has, by how many bits its sets have.
use Rattle.std.specs.Prelude.{◌≡◌, refl, List, [], ◌∷◌, map, true, ℕ, zero, suc, ◌+◌, ◌*◌, length}
use Rattle.std.proofs.Common.{sym, ap, ◌∙◌, arith, length-append}
use Rattle.std.specs.Int.Count.{ones}
use Rattle.member.specs.declared.Member.{Member}
use Rattle.suite.specs.Sets.{chosen, exists}
use Rattle.suite.specs.SetLaws.{exists_lt, length-chosen, chosen-map}
use Rattle.suite.specs.Suite.{tiles, ballots}
use Rattle.suite.specs.Calls.{Call, lookup, insert, update, remove, neighbours, write_set, asked, asked_of, rounds, answers}
use Rattle.suite.specs.declared.Suite.{Suite}
use Rattle.suite.specs.Question.{Question}
use Rattle.suite.specs.Question as question

abbrev pub read_set : Call → ℕ
read_set (lookup rs x) = rs
read_set (neighbours rs x) = rs
read_set (insert rs ws x v) = rs
read_set (update rs ws x v) = rs
read_set (remove rs ws x) = rs

-- one per read member for lookup, two for neighbours; insert and update add one per write member to lookup's; remove adds one
-- per write member to neighbours'
abbrev pub requests_of : Call → ℕ
requests_of (lookup rs x) = ones rs
requests_of (neighbours rs x) = 2 * ones rs
requests_of (insert rs ws x v) = ones rs + ones ws
requests_of (update rs ws x v) = ones rs + ones ws
requests_of (remove rs ws x) = 2 * ones rs + ones ws

asked-length : (q : Question) (i : ℕ) (l : List Member) → length (asked q i l) ≡ length l
unfolding asked
asked-length q i [] = refl
asked-length q i (m ∷ l) = ap suc (asked-length q (suc i) l)

-- each answer is marked with a member that the set names, lowest-numbered first
unfoldable pub up_from : ℕ → ℕ → List ℕ
up_from i zero = []
up_from i (suc n) = i ∷ up_from (suc i) n

asked_marks : (q : Question) (i : ℕ) (l : List Member) → map (λ a. a.member) (asked q i l) ≡ up_from i (length l)
unfolding asked up_from
asked_marks q i [] = refl
asked_marks q i (m ∷ l) = ap (λ t. i ∷ t) (asked_marks q (suc i) l)

pub marks : (s : Suite) (set : ℕ) (q : Question) → map (λ a. a.member) (asked_of s set q) ≡ chosen (up_from 0 (length (tiles s))) set
marks s set q = sym (chosen-map (λ a. a.member) (asked q 0 (tiles s)) set) ∙ ap (λ l. chosen l set) (asked_marks q 0 (tiles s))

-- In a suite each member has its votes, and the sets name only members that exist.
module _ (s : Suite) (each : length (tiles s) ≡ length (ballots s)) where
  pub one_each : (set : ℕ) → exists (ballots s) set ≡ true → (q : Question) → length (asked_of s set q) ≡ ones set
  one_each set h q =
      let n : length (asked q 0 (tiles s)) ≡ length (ballots s) = asked-length q 0 (tiles s) ∙ each in
      length-chosen (asked q 0 (tiles s)) set (rw n (exists_lt (ballots s) set h))

  two-each : (set x : ℕ) → exists (ballots s) set ≡ true → length (rounds s set x) ≡ 2 * ones set
  unfolding rounds
  two-each set x h = simp (length-append, one_each set h) (omega arith)

  pub answers-length : (c : Call) → exists (ballots s) (read_set c) ≡ true → exists (ballots s) (write_set c) ≡ true
      → length (answers s c) ≡ requests_of c
  unfolding answers
  answers-length (lookup rs x) h k = one_each rs h (question.Reading x)
  answers-length (neighbours rs x) h k = two-each rs x h
  answers-length (insert rs ws x v) h k = simp (length-append, one_each rs h, one_each ws k)
  answers-length (update rs ws x v) h k = simp (length-append, one_each rs h, one_each ws k)
  answers-length (remove rs ws x) h k = simp (length-append, two-each rs x h, one_each ws k)
