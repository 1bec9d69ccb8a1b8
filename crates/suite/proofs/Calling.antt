-- What a call comes to, by the way that the code takes: refused for its own numbers, refused later, or done.
use mathlib.Core.Path.{◌≡◌, sym, ap, ap₂, ◌∙◌}
use mathlib.Core.List.{[], ◌∷◌}
use mathlib.Core.Bool.{true, false}
use Prim.Native.Nat.{ℕ, ◌+◌, ◌*◌, ◌^◌, ◌≤◌, ◌<◌, max}
use native.Mathlib.Omega.{arith}
use borrow.Author.Tests.{le-ltb, ne_eqb}
use lib.Count.{ones}
use lib.ListN.{length}
use Rattle.member.specs.Limits.{largest_version}
use Rattle.member.specs.declared.Reading.{Reading}
use Rattle.member.specs.declared.Reading.TheVariants.{Entry, Gap}
use Rattle.suite.specs.Sets.{changed, exists}
use Rattle.suite.specs.SetLaws.{exists_lt}
use Rattle.suite.specs.Suite.{tiles, ballots, with_tiles}
use Rattle.suite.specs.Outcome.{Outcome, answered, refused, number_of, reading_values}
use Rattle.suite.specs.Calls.{lookup, insert, update, remove, neighbours, Result, asked_of, newest, reading_answers, rounds, predecessor, successor, all_fit, judged, passed, settle, answers, effect_of, step_of}
use Rattle.suite.specs.Rows.{survey_of}
use Rattle.suite.specs.Steps.{granted_of, put_of, join_of}
use Rattle.suite.specs.Agree.{refusal, step_outcome, step_refused}
use Rattle.suite.specs.Accepted.{Fine, one_vote_each, judged_fine}
use Rattle.suite.specs.Requests.{answers-length}
use Rattle.suite.specs.declared.Suite.{Suite}
use Rattle.suite.specs.declared.rounds.Survey.{Survey}
use Rattle.suite.specs.Question.{Question}
use Rattle.suite.specs.Question as question
use Rattle.suite.specs.Effect.{Effect}
use Rattle.suite.specs.Effect as effect
use Rattle.suite.specs.declared.Refusal.{Refusal}
use Rattle.suite.specs.declared.Refusal.TheVariants.{Unsound, Members, Vote, Quorum, Name, Value, NoMember, ReadVotes, WriteVotes, Present, Absent, Version, Full, NotUnderstood, Short, Edition, Field, Padding, Buffer}
use Rattle.suite.proofs.Stepping.{insert-gap, insert_entry, update-gap, update-entry, remove-gap, remove_entry}

-- a refusal's number is not 0
numbered : (r : Refusal) → number_of r ≡ 0 → ⊥
numbered Unsound e = omega arith
numbered Members e = omega arith
numbered Vote e = omega arith
numbered Quorum e = omega arith
numbered Name e = omega arith
numbered Value e = omega arith
numbered NoMember e = omega arith
numbered ReadVotes e = omega arith
numbered WriteVotes e = omega arith
numbered Present e = omega arith
numbered Absent e = omega arith
numbered Version e = omega arith
numbered Full e = omega arith
numbered NotUnderstood e = omega arith
numbered Short e = omega arith
numbered Edition e = omega arith
numbered Field e = omega arith
numbered Padding e = omega arith
numbered Buffer e = omega arith

-- The judging of a call's own numbers said no.
passed_no : (n : ℕ) (o : Outcome) (r : Refusal) → number_of r ≡ n → passed n o ≡ refused (number_of r)
passed_no n o r e = rw (← e) (rw (ne_eqb (number_of r) 0 (numbered r)))

module _ (s : Suite) (rs ws x v : ℕ) (r : Refusal) where
  pub lookup-no : number_of r ≡ judged (ballots s) s.read 0 x 0 rs 0 → refused (number_of r) ≡ (step_of s (lookup rs x)).outcome
  unfolding settle
  lookup-no e = sym (step_outcome s (lookup rs x) ∙ passed_no (judged (ballots s) s.read 0 x 0 rs 0) _ r e)

  pub neighbours-no : number_of r ≡ judged (ballots s) s.read 0 x 0 rs 0 → refused (number_of r) ≡ (step_of s (neighbours rs x)).outcome
  unfolding settle
  neighbours-no e = sym (step_outcome s (neighbours rs x) ∙ passed_no (judged (ballots s) s.read 0 x 0 rs 0) _ r e)

  pub insert-no : number_of r ≡ judged (ballots s) s.read s.write x v rs ws → refusal s (number_of r) ≡ step_of s (insert rs ws x v)
  unfolding settle
  insert-no e = sym (step_refused s (insert rs ws x v) (number_of r) (passed_no (judged (ballots s) s.read s.write x v rs ws) _ r e))

  pub update-no : number_of r ≡ judged (ballots s) s.read s.write x v rs ws → refusal s (number_of r) ≡ step_of s (update rs ws x v)
  unfolding settle
  update-no e = sym (step_refused s (update rs ws x v) (number_of r) (passed_no (judged (ballots s) s.read s.write x v rs ws) _ r e))

  pub remove-no : number_of r ≡ judged (ballots s) s.read s.write x 0 rs ws → refusal s (number_of r) ≡ step_of s (remove rs ws x)
  unfolding settle
  remove-no e = sym (step_refused s (remove rs ws x) (number_of r) (passed_no (judged (ballots s) s.read s.write x 0 rs ws) _ r e))

-- It said nothing: each member has its votes, and the sets name only members that exist.
pub record Passed (s : Suite) (w x v rs ws : ℕ) : Type 0 where
  pub each : length (tiles s) ≡ length (ballots s)
  pub none : judged (ballots s) s.read w x v rs ws ≡ 0
  pub fine : Fine (ballots s) s.read w x v rs ws
  pub reads : rs < 2 ^ length (tiles s)
  pub writes : ws < 2 ^ length (tiles s)

-- a set of members that exist names places within the suite
within : (s : Suite) → length (tiles s) ≡ length (ballots s) → (set : ℕ) → exists (ballots s) set ≡ true → set < 2 ^ length (tiles s)
within s each set h = rw each (exists_lt (ballots s) set h)

pub passed_all : (s : Suite) (w x v rs ws : ℕ) → length s.members ≡ 8 → length s.votes ≡ 8 → 0 ≡ judged (ballots s) s.read w x v rs ws
    → Passed s w x v rs ws
passed_all s w x v rs ws h k e =
    let each = one_vote_each s h k in
    let fine = judged_fine (ballots s) s.read w x v rs ws (sym e) in
    record {
      each = each;
      none = sym e;
      fine = fine;
      reads = within s each rs fine.reads;
      writes = within s each ws fine.writes;
    }

-- The calls that only read.
module _ (s : Suite) (rs x : ℕ) (p : Passed s 0 x 0 rs 0) where
  pub lookup-done : (r : Reading) → r ≡ newest (reading_answers s rs x) → answered (reading_values r (ones rs)) ≡ (step_of s (lookup rs x)).outcome
  unfolding settle answers
  lookup-done r e =
      sym
      (step_outcome s (lookup rs x)
      ∙ rw p.none
      (ap₂ (λ (t : Reading) (n : ℕ). answered (reading_values t n)) (sym e) (answers-length s p.each (lookup rs x) p.fine.reads p.fine.writes)))

  pub neighbours-done : (found : Survey) → found ≡ survey_of (rounds s rs x)
      → answered (found.below.end ∷ found.above.end ∷ 2 * ones rs ∷ []) ≡ (step_of s (neighbours rs x)).outcome
  unfolding settle answers survey_of
  neighbours-done found e =
      ap (λ (t : Survey). answered (t.below.end ∷ t.above.end ∷ 2 * ones rs ∷ [])) e
      ∙ sym
      (step_outcome s (neighbours rs x)
      ∙ rw p.none
      (ap (λ (n : ℕ). answered ((predecessor (rounds s rs x)).end ∷ (successor (rounds s rs x)).end ∷ n ∷ []))
      (answers-length s p.each (neighbours rs x) p.fine.reads p.fine.writes)))

-- The name's presence decides the others: the call ends with a refusal, or with what the change comes to.
module _ {s : Suite} {rs ws x v : ℕ} (p : Passed s s.write x v rs ws) where
  pub insert-held : {u y : ℕ} → Entry u y ≡ newest (reading_answers s rs x) → refusal s 10 ≡ step_of s (insert rs ws x v)
  insert-held {u} {y} e = sym (insert_entry s p.each rs ws x p.fine.reads p.fine.writes v p.none u y (sym e))

  pub insert-new : {u : ℕ} → Gap u ≡ newest (reading_answers s rs x) → {t : Result} → t ≡ put_of s rs ws x u v → t ≡ step_of s (insert rs ws x v)
  insert-new {u} e q = q ∙ sym (insert-gap s p.each rs ws x p.fine.reads p.fine.writes v p.none u (sym e))

  pub update-held : {u y : ℕ} → Entry u y ≡ newest (reading_answers s rs x) → {t : Result} → t ≡ put_of s rs ws x u v → t ≡ step_of s (update rs ws x v)
  update-held {u} {y} e q = q ∙ sym (update-entry s p.each rs ws x p.fine.reads p.fine.writes v p.none u y (sym e))

  pub update-new : {u : ℕ} → Gap u ≡ newest (reading_answers s rs x) → refusal s 11 ≡ step_of s (update rs ws x v)
  update-new {u} e = sym (update-gap s p.each rs ws x p.fine.reads p.fine.writes v p.none u (sym e))

module _ {s : Suite} {rs ws x : ℕ} (p : Passed s s.write x 0 rs ws) (found : Survey) (n : found ≡ survey_of (rounds s rs x)) where
  shown : (survey_of (rounds s rs x)).reading ≡ found.reading
  shown = sym (ap (λ (t : Survey). t.reading) n)

  pub remove-held : {u y : ℕ} → found.reading ≡ Entry u y → {t : Result} → t ≡ join_of s rs ws u found → t ≡ step_of s (remove rs ws x)
  remove-held {u} {y} e q =
      q ∙ ap (join_of s rs ws u) n ∙ sym (remove_entry s p.each rs ws x p.fine.reads p.fine.writes p.none u y (shown ∙ e))

  pub remove-new : {u : ℕ} → found.reading ≡ Gap u → refusal s 11 ≡ step_of s (remove rs ws x)
  remove-new {u} e = sym (remove-gap s p.each rs ws x p.fine.reads p.fine.writes p.none u (shown ∙ e))

-- Refusal 13, and a change made.
module _ (s : Suite) (ws g q : ℕ) (fit : Question) (e : Effect) where
  pub granted-full : g ≤ largest_version → all_fit (asked_of s ws fit) ≡ false → refusal s 13 ≡ granted_of s ws g q fit e
  unfolding granted_of
  granted-full h k = rw (le-ltb largest_version g h, k)

  pub granted-done : g ≤ largest_version → all_fit (asked_of s ws fit) ≡ true → (t : Suite) → t ≡ with_tiles s (changed (effect_of e) (tiles s) ws)
      → ◌≡◌ {A = Result} (record { outcome = answered (g ∷ q ∷ []); suite = t }) (granted_of s ws g q fit e)
  unfolding granted_of
  granted-done h k t o = ap (λ u. record { outcome = answered (g ∷ q ∷ []); suite = u }) o ∙ rw (le-ltb largest_version g h, k)

-- the greatest of the three versions, as the code finds it
pub joined : (s : Suite) (rs ws v : ℕ) (found : Survey) (m n : ℕ) → m ≡ max found.lower found.upper → n ≡ max v m
    → granted_of s ws (n + 1) (2 * ones rs + ones ws) (question.FitsCoalesce found.below.end found.above.end) (effect.Coalesce found.below found.above (n + 1))
    ≡ join_of s rs ws v found
joined s rs ws v found m n e k =
    ap
    (λ t. granted_of s ws (t + 1) (2 * ones rs + ones ws) (question.FitsCoalesce found.below.end found.above.end) (effect.Coalesce found.below found.above (t + 1)))
    (k ∙ ap (max v) e)
