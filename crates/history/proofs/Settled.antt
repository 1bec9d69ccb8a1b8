-- What each call comes to, where the invariant holds: as told by the plain directory.
use Rattle.std.specs.Prelude.{◌≡◌, refl, Bool, true, false, cond, ◌&&◌, ℕ, ◌+◌, ◌≤◌, ltb, eqb}
use Rattle.std.proofs.Math.Path.{sym, ap}
use Rattle.std.proofs.Common.{subst, ◌∙◌, eqb-true}
use mathlib.Core.List.{List, [], ◌∷◌, map}
use Rattle.std.proofs.Math.ListN.{length}
use Rattle.member.specs.Limits.{largest_name, largest_version}
use Rattle.member.specs.Tile.{reading_of}
use Rattle.member.specs.Change.{fits_write, fits_coalesce}
use Rattle.member.specs.declared.Member.{Member}
use Rattle.member.specs.declared.Reading.{Reading}
use Rattle.member.specs.declared.Reading.TheVariants.{Entry, Gap}
use Rattle.suite.specs.Sets.{chosen, votes_of, all}
use Rattle.suite.specs.Suite.{tiles, ballots}
use Rattle.suite.specs.Outcome.{Outcome, answered, refused, reading_values}
use Rattle.suite.specs.Calls.{Call, lookup, insert, update, remove, neighbours, Marked, answer_to, asked_of, picked, its_reading, its_fit, all_fit, newest, version_of, removal, predecessor, successor, reading_answers, rounds, answers, granted, settle_insert, settle_update, settle_remove, settle, passed}
use Rattle.suite.specs.AnswerLaws.{picked_one, skip-last, put_fits, join_fits, remove_survey}
use Rattle.suite.specs.Requests.{requests_of, answers-length}
use Rattle.suite.specs.Accepted.{Fine, judged_fine}
use Rattle.suite.specs.Agree.{settled}
use Rattle.suite.specs.Rows.{survey_of}
use Rattle.suite.specs.declared.Suite.{Suite}
use Rattle.suite.specs.declared.rounds.Survey.{Survey}
use Rattle.suite.specs.Question.{Question}
use Rattle.suite.specs.Question as question
use Rattle.ideal.specs.Forget.{is_entry}
use Rattle.ideal.specs.Forget as forget
use Rattle.history.specs.Directory.{Directory}
use Rattle.history.specs.Directory as plain
use Rattle.history.specs.Held.{Held, newest-won, newest-is}
use Rattle.history.specs.Near.{readings, near-below, near-above}
use Rattle.history.specs.Removal.{Surveyed}
use Rattle.history.proofs.Removal.{true-predecessor, true-successor}
use Rattle.history.proofs.ToldLaws.{nothing_written}
use Rattle.history.specs.Told.{own_refusal, limits, limit_refusal, first, flag, values_of, told_of}
use Rattle.history.specs.Settled.{put_answers}

-- Refusals in their order.
past : (j k : ℕ) (o o' : Outcome) → (j ≡ 0 → o ≡ passed k o') → passed j o ≡ passed (first j k) o'
past j k o o' h = go (eqb j 0) refl
  where
    go : (t : Bool) → eqb j 0 ≡ t → cond t o (refused j) ≡ passed (cond t k j) o'
    go true e = h (eqb-true j 0 e)
    go false e = rw e

granted-told : (version n : ℕ) (l : List Marked) (fit : Bool) → all_fit l ≡ fit → length l ≡ n →
    granted version l ≡ passed (limits version fit) (answered (version ∷ n ∷ []))
unfolding granted
granted-told version n l fit e q = rw (e, q) (go (ltb largest_version version) fit)
  where
    go : (a b : Bool) → cond a (refused 12) (cond b (answered (version ∷ n ∷ [])) (refused 13)) ≡ passed (cond a 12 (cond b 0 13)) (answered (version ∷ n ∷ []))
    go true b = refl
    go false true = refl
    go false false = refl

module _ (l : List Marked) (k : ℕ) (o : Outcome) where
  insert-told : (r : Reading) (p : Bool) → is_entry r ≡ p → granted (version_of r + 1) l ≡ passed k o →
      settle_insert r l ≡ passed (first (cond p 10 0) k) o
  insert-told (Entry v y) p e h = subst (λ p. refused 10 ≡ passed (first (cond p 10 0) k) o) e refl
  insert-told (Gap v) p e h = subst (λ p. granted (v + 1) l ≡ passed (first (cond p 10 0) k) o) e h

  update-told : (r : Reading) (p : Bool) → is_entry r ≡ p → granted (version_of r + 1) l ≡ passed k o →
      settle_update r l ≡ passed (first (cond p 0 11) k) o
  update-told (Entry v y) p e h = subst (λ p. granted (v + 1) l ≡ passed (first (cond p 0 11) k) o) e h
  update-told (Gap v) p e h = subst (λ p. refused 11 ≡ passed (first (cond p 0 11) k) o) e refl

  remove-told : (r : Reading) (p : Bool) → is_entry r ≡ p → granted (removal (version_of r) l) l ≡ passed k o →
      settle_remove r l ≡ passed (first (cond p 0 11) k) o
  remove-told (Entry v y) p e h = subst (λ p. granted (removal v l) l ≡ passed (first (cond p 0 11) k) o) e h
  remove-told (Gap v) p e h = subst (λ p. refused 11 ≡ passed (first (cond p 0 11) k) o) e refl

reading-told : (r : Reading) (p : Bool) (v n m : ℕ) → is_entry r ≡ p → forget.value_of r ≡ v → n ≡ m →
    reading_values r n ≡ flag p ∷ version_of r ∷ v ∷ m ∷ []
reading-told (Entry w y) p v n m e f q = rw (← e, ← f, q)
reading-told (Gap w) p v n m e f q = rw (← e, ← f, q)

-- what the members of a set answer of fitting
all_map : {A : Type 0} (g : A → Bool) (l : List A) → all (λ b. b) (map g l) ≡ all g l
unfolding all
all_map g [] = refl
all_map g (a ∷ l) = ap (λ t. g a && t) (all_map g l)

asked_fit : (s : Suite) (ws : ℕ) (q : Question) (g : Member → Bool) → ((m : Member) → its_fit (answer_to q m) ≡ g m ∷ []) →
    all_fit (asked_of s ws q) ≡ all g (chosen (tiles s) ws)
asked_fit s ws q g h = ap (all (λ b. b)) (picked_one its_fit g q h 0 (tiles s) ws) ∙ all_map g (chosen (tiles s) ws)

-- The answers of a call whose read set gives readings at x, and those of its write set.
asked-readings : (s : Suite) (rs x : ℕ) → picked its_reading (reading_answers s rs x) ≡ map (λ m. reading_of m x) (chosen (tiles s) rs)
asked-readings s rs x = picked_one its_reading (λ m. reading_of m x) (question.Reading x) (λ m. refl) 0 (tiles s) rs

pub lookup_readings : (s : Suite) (rs x : ℕ) → picked its_reading (answers s (lookup rs x)) ≡ map (λ m. reading_of m x) (chosen (tiles s) rs)
unfolding answers
lookup_readings s rs x = asked-readings s rs x

pub put-readings : (s : Suite) (rs ws x : ℕ) → picked its_reading (put_answers s rs ws x) ≡ map (λ m. reading_of m x) (chosen (tiles s) rs)
put-readings s rs ws x = skip-last s ws (question.FitsWrite x) its_reading (λ m. refl) (reading_answers s rs x) ∙ asked-readings s rs x

put_fit : (s : Suite) (rs ws x : ℕ) → all_fit (put_answers s rs ws x) ≡ all (λ m. fits_write m x) (chosen (tiles s) ws)
put_fit s rs ws x =
    put_fits s rs x (asked_of s ws (question.FitsWrite x)) ∙ asked_fit s ws (question.FitsWrite x) (λ m. fits_write m x) (λ m. refl)

remove_fit : (s : Suite) (rs ws x : ℕ) → all_fit (answers s (remove rs ws x)) ≡
    all (λ m. fits_coalesce m (predecessor (rounds s rs x)).end (successor (rounds s rs x)).end) (chosen (tiles s) ws)
unfolding answers
remove_fit s rs ws x =
    let p = (predecessor (rounds s rs x)).end in
    let n = (successor (rounds s rs x)).end in
    join_fits s rs x (asked_of s ws (question.FitsCoalesce p n)) ∙ asked_fit s ws (question.FitsCoalesce p n) (λ m. fits_coalesce m p n) (λ m. refl)

module _ {s : Suite} {d : Directory} (h : Held s d) where
  -- presence and value of what a read set shows
  module _ (rs x : ℕ) (name : x ≤ largest_name) (r : s.read ≤ votes_of (ballots s) rs) (l : List Marked)
      (are : picked its_reading l ≡ map (λ m. reading_of m x) (chosen (tiles s) rs)) where
    shows-presence : is_entry (newest l) ≡ plain.present d x
    shows-presence = ap is_entry (newest-is h rs r x name l are) ∙ h.presence x name

    shows-value : forget.value_of (newest l) ≡ plain.value_of d x
    shows-value = ap forget.value_of (newest-is h rs r x name l are) ∙ h.value x name

  -- what the two rounds come to
  pub surveyed : (rs x : ℕ) → x ≤ largest_name → (r : s.read ≤ votes_of (ballots s) rs) → Surveyed h rs x (survey_of (rounds s rs x))
  unfolding survey_of
  surveyed rs x name r =
      let w = newest-won h rs r x name (rounds s rs x) (readings h rs r x name) in
      record { winner = w.0; best = w.1; reading = w.2; low = near-below h rs r x name; up = near-above h rs r x name }

  pub surveyed-remove : (rs ws x : ℕ) → x ≤ largest_name → (r : s.read ≤ votes_of (ballots s) rs) →
      Surveyed h rs x (survey_of (answers s (remove rs ws x)))
  surveyed-remove rs ws x name r = subst (Surveyed h rs x) (sym (remove_survey s rs ws x)) (surveyed rs x name r)

  -- the ends that the rounds find are the plain directory's neighbours
  true-ends : (rs x : ℕ) → x ≤ largest_name → s.read ≤ votes_of (ballots s) rs →
      (plain.predecessor d x ≡ (predecessor (rounds s rs x)).end) × (plain.successor d x ≡ (successor (rounds s rs x)).end)
  unfolding survey_of
  true-ends rs x name r =
      let t = survey_of (rounds s rs x) in
      let v = surveyed rs x name r in
      (true-predecessor h rs x name t v, true-successor h rs x name t v)

  remove-presence : (rs ws x : ℕ) → x ≤ largest_name → s.read ≤ votes_of (ballots s) rs →
      is_entry (newest (answers s (remove rs ws x))) ≡ plain.present d x
  unfolding survey_of
  remove-presence rs ws x name r =
      ap (λ (t : Survey). is_entry t.reading) (remove_survey s rs ws x) ∙ shows-presence rs x name r (rounds s rs x) (readings h rs r x name)

  lookup-is : (rs x : ℕ) → settled s (lookup rs x) ≡ told_of s d (lookup rs x)
  unfolding settle told_of
  lookup-is rs x = past (own_refusal s (lookup rs x)) (limit_refusal s d (lookup rs x)) _ _ on
    where
      on : own_refusal s (lookup rs x) ≡ 0 → answered (reading_values (newest (answers s (lookup rs x))) (length (answers s (lookup rs x)))) ≡
          passed (limit_refusal s d (lookup rs x)) (answered (values_of s d (lookup rs x)))
      on e =
          let f = judged_fine (ballots s) s.read 0 x 0 rs 0 e in
          let l = answers s (lookup rs x) in
          let are = lookup_readings s rs x in
          rw (nothing_written s)
          (ap answered (reading-told (newest l) (plain.present d x) (plain.value_of d x) (length l) (requests_of (lookup rs x))
          (shows-presence rs x f.name f.read-votes l are) (shows-value rs x f.name f.read-votes l are)
          (answers-length s h.each (lookup rs x) f.reads f.writes)))

  neighbours-is : (rs x : ℕ) → settled s (neighbours rs x) ≡ told_of s d (neighbours rs x)
  unfolding settle told_of answers
  neighbours-is rs x = past (own_refusal s (neighbours rs x)) (limit_refusal s d (neighbours rs x)) _ _ on
    where
      -- the ends, of the rounds' answers
      ends : (l : List Marked) (p n k : ℕ) → p ≡ (predecessor l).end → n ≡ (successor l).end → length l ≡ k →
          answered ((predecessor l).end ∷ (successor l).end ∷ length l ∷ []) ≡ answered (p ∷ n ∷ k ∷ [])
      ends l p n k a b c = cc

      on : own_refusal s (neighbours rs x) ≡ 0 → answered ((predecessor (answers s (neighbours rs x))).end ∷ (successor (answers s (neighbours rs x))).end ∷ length (answers s (neighbours rs x)) ∷ []) ≡
          passed (limit_refusal s d (neighbours rs x)) (answered (values_of s d (neighbours rs x)))
      on e =
          let f = judged_fine (ballots s) s.read 0 x 0 rs 0 e in
          let n = answers-length s h.each (neighbours rs x) f.reads f.writes in
          let t = true-ends rs x f.name f.read-votes in
          rw (nothing_written s)
          (ends (answers s (neighbours rs x)) (plain.predecessor d x) (plain.successor d x) (requests_of (neighbours rs x)) t.0 t.1 n)

  put_is : (rs ws x v : ℕ) → Fine (ballots s) s.read s.write x v rs ws → (k : ℕ) → length (put_answers s rs ws x) ≡ k →
      granted (version_of (newest (put_answers s rs ws x)) + 1) (put_answers s rs ws x) ≡
      passed (limits (version_of (newest (put_answers s rs ws x)) + 1) (all (λ m. fits_write m x) (chosen (tiles s) ws)))
      (answered ((version_of (newest (put_answers s rs ws x)) + 1) ∷ k ∷ []))
  put_is rs ws x v f k n =
      granted-told (version_of (newest (put_answers s rs ws x)) + 1) k (put_answers s rs ws x) (all (λ m. fits_write m x) (chosen (tiles s) ws)) (put_fit s rs ws x) n

  insert-is : (rs ws x v : ℕ) → settled s (insert rs ws x v) ≡ told_of s d (insert rs ws x v)
  unfolding settle told_of answers
  insert-is rs ws x v = past (own_refusal s (insert rs ws x v)) (first (cond (plain.present d x) 10 0) (limit_refusal s d (insert rs ws x v))) _ _ on
    where
      on : own_refusal s (insert rs ws x v) ≡ 0 → settle_insert (newest (put_answers s rs ws x)) (put_answers s rs ws x) ≡
          passed (first (cond (plain.present d x) 10 0) (limit_refusal s d (insert rs ws x v))) (answered (values_of s d (insert rs ws x v)))
      on e =
          let f = judged_fine (ballots s) s.read s.write x v rs ws e in
          let l = put_answers s rs ws x in
          insert-told l (limit_refusal s d (insert rs ws x v)) (answered (values_of s d (insert rs ws x v))) (newest l) (plain.present d x)
          (shows-presence rs x f.name f.read-votes l (put-readings s rs ws x))
          (put_is rs ws x v f (requests_of (insert rs ws x v)) (answers-length s h.each (insert rs ws x v) f.reads f.writes))

  update-is : (rs ws x v : ℕ) → settled s (update rs ws x v) ≡ told_of s d (update rs ws x v)
  unfolding settle told_of answers
  update-is rs ws x v = past (own_refusal s (update rs ws x v)) (first (cond (plain.present d x) 0 11) (limit_refusal s d (update rs ws x v))) _ _ on
    where
      on : own_refusal s (update rs ws x v) ≡ 0 → settle_update (newest (put_answers s rs ws x)) (put_answers s rs ws x) ≡
          passed (first (cond (plain.present d x) 0 11) (limit_refusal s d (update rs ws x v))) (answered (values_of s d (update rs ws x v)))
      on e =
          let f = judged_fine (ballots s) s.read s.write x v rs ws e in
          let l = put_answers s rs ws x in
          update-told l (limit_refusal s d (update rs ws x v)) (answered (values_of s d (update rs ws x v))) (newest l) (plain.present d x)
          (shows-presence rs x f.name f.read-votes l (put-readings s rs ws x))
          (put_is rs ws x v f (requests_of (update rs ws x v)) (answers-length s h.each (update rs ws x v) f.reads f.writes))

  remove-is : (rs ws x : ℕ) → settled s (remove rs ws x) ≡ told_of s d (remove rs ws x)
  unfolding settle told_of
  remove-is rs ws x = past (own_refusal s (remove rs ws x)) (first (cond (plain.present d x) 0 11) (limit_refusal s d (remove rs ws x))) _ _ on
    where
      on : own_refusal s (remove rs ws x) ≡ 0 → settle_remove (newest (answers s (remove rs ws x))) (answers s (remove rs ws x)) ≡
          passed (first (cond (plain.present d x) 0 11) (limit_refusal s d (remove rs ws x))) (answered (values_of s d (remove rs ws x)))
      on e =
          let f = judged_fine (ballots s) s.read s.write x 0 rs ws e in
          let l = answers s (remove rs ws x) in
          let t = true-ends rs x f.name f.read-votes in
          let p = sym t.0 in
          let n = sym t.1 in
          remove-told l (limit_refusal s d (remove rs ws x)) (answered (values_of s d (remove rs ws x))) (newest l) (plain.present d x)
          (remove-presence rs ws x f.name f.read-votes)
          (granted-told (removal (version_of (newest l)) l) (requests_of (remove rs ws x)) l
          (all (λ m. fits_coalesce m (plain.predecessor d x) (plain.successor d x)) (chosen (tiles s) ws))
          (remove_fit s rs ws x ∙ (λ j. all (λ m. fits_coalesce m (p j) (n j)) (chosen (tiles s) ws)))
          (answers-length s h.each (remove rs ws x) f.reads f.writes))

  pub told : (c : Call) → settled s c ≡ told_of s d c
  told (lookup rs x) = lookup-is rs x
  told (neighbours rs x) = neighbours-is rs x
  told (insert rs ws x v) = insert-is rs ws x v
  told (update rs ws x v) = update-is rs ws x v
  told (remove rs ws x) = remove-is rs ws x
