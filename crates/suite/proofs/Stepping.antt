-- The steps of the code, put together, are the calls of the definitions.
use Rattle.std.specs.Prelude.{None}
use mathlib.Core.Path.{◌≡◌, refl, sym, ap, ◌∙◌}
use mathlib.Core.List.{List, [], ◌∷◌, ◌++◌}
use mathlib.Core.Bool.{Bool, true, false, cond}
use Prim.Native.Nat.{ℕ, ◌+◌, ◌*◌}
use lib.Count.{ones}
use lib.Dec.{ltb}
use lib.ListN.{length}
use Rattle.member.specs.Limits.{largest_version}
use Rattle.member.specs.declared.Reading.{Reading}
use Rattle.member.specs.declared.Reading.TheVariants.{Entry, Gap}
use Rattle.suite.specs.Best.{best}
use Rattle.suite.specs.Sets.{changed, exists}
use Rattle.suite.specs.Suite.{tiles, ballots, with_tiles}
use Rattle.suite.specs.Outcome.{answered, refused}
use Rattle.suite.specs.Calls.{Call, insert, update, remove, Marked, asked_of, its_reading, its_below, its_above, its_offer_below, its_offer_above, newest, newer, higher, no_side, version_of, reading_answers, round_one, round_two, rounds, answers, gap_below_in, gap_above_in, predecessor, successor, bound_or, nearer, rank_below, rank_above, all_fit, judged, granted, settle, effect_of, written, write_set, resulting, step_of}
use Rattle.suite.specs.Rows.{survey_of}
use Rattle.suite.specs.Steps.{granted_of, put_of, gap_of, join_of}
use Rattle.suite.specs.Requests.{answers-length}
use Rattle.suite.specs.AnswerLaws.{skip-last, skip_first, put-newest, put_fits, remove_survey, join_fits}
use Rattle.suite.specs.declared.Suite.{Suite}
use Rattle.suite.specs.Question.{Question}
use Rattle.suite.specs.Question as question
use Rattle.suite.specs.Effect.{Effect}
use Rattle.suite.specs.Effect as effect
use Rattle.suite.specs.declared.rounds.Survey.{Survey}

-- What the two rounds come to: the readings and gaps are round one's, the neighbours round two's.
pub rounds_survey : (s : Suite) (set x : ℕ)
    → ◌≡◌ {A = Survey}
    (record {
      reading = newest (round_one s set x);
      lower = (gap_below_in (round_one s set x)).version;
      upper = (gap_above_in (round_one s set x)).version;
      below = predecessor (round_two s set x (round_one s set x));
      above = successor (round_two s set x (round_one s set x));
    })
    (survey_of (rounds s set x))
unfolding survey_of rounds
rounds_survey s set x =
    let one = round_one s set x in
    let two = round_two s set x one in
    let q = question.Offers x (gap_below_in one) (gap_above_in one) in
    let reading = ap (best newer (Gap 0)) (skip-last s set q its_reading (λ m. refl) one) in
    let lower = ap (best higher no_side) (skip-last s set q its_below (λ m. refl) one) in
    let upper = ap (best higher no_side) (skip-last s set q its_above (λ m. refl) one) in
    let below = ap (best (nearer rank_below) None) (skip_first s set (question.Around x) its_offer_below (λ m. refl) two) in
    let above = ap (best (nearer rank_above) None) (skip_first s set (question.Around x) its_offer_above (λ m. refl) two) in
    λ j.
    record {
      reading = sym reading j;
      lower = (sym lower j).version;
      upper = (sym upper j).version;
      below = bound_or (sym below j);
      above = bound_or (sym above j);
    }

-- An accepted or refused change, from its parts.
granted_result : (s : Suite) (c : Call) (l : List Marked) (g q : ℕ) (fit : Question) (e : Effect)
    → all_fit l ≡ all_fit (asked_of s (write_set c) fit) → length l ≡ q → written c l ≡ effect_of e
    → resulting s c l (granted g l) ≡ granted_of s (write_set c) g q fit e
unfolding granted granted_of
granted_result s c l g q fit e fits count makes =
    rw (fits, count) (go (ltb largest_version g) (all_fit (asked_of s (write_set c) fit)))
  where
    go : (a b : Bool)
        → resulting s c l (cond a (refused 12) (cond b (answered (g ∷ q ∷ [])) (refused 13)))
        ≡ cond a (record { outcome = refused 12; suite = s })
        (cond b (record { outcome = answered (g ∷ q ∷ []); suite = with_tiles s (changed (effect_of e) (tiles s) (write_set c)) })
        (record { outcome = refused 13; suite = s }))
    go true b = refl
    go false true = λ j. record { outcome = answered (g ∷ q ∷ []); suite = with_tiles s (changed (makes j) (tiles s) (write_set c)) }
    go false false = refl

-- In a suite each member has its votes, and the sets name only members that exist.
module _ (s : Suite) (each : length (tiles s) ≡ length (ballots s)) (rs ws x : ℕ)
    (h : exists (ballots s) rs ≡ true) (k : exists (ballots s) ws ≡ true) where
  -- Insert and update.
  module _ (v : ℕ) where
    abbrev list : List Marked
    list = reading_answers s rs x ++ asked_of s ws (question.FitsWrite x)

    abbrev fine : ℕ
    fine = judged (ballots s) s.read s.write x v rs ws

    same-newest : newest list ≡ newest (reading_answers s rs x)
    same-newest = put-newest s ws x (reading_answers s rs x)

    put_step : (c : Call) → write_set c ≡ ws → length list ≡ ones rs + ones ws → (r : Reading) → newest list ≡ r
        → written c list ≡ effect_of (effect.Write x (version_of (newest list) + 1) v)
        → resulting s c list (granted (version_of r + 1) list) ≡ put_of s rs ws x (version_of r) v
    put_step c w count r e makes =
        let fit = question.FitsWrite x in
        let write = effect.Write x (version_of r + 1) v in
        granted_result s c list (version_of r + 1) (ones rs + ones ws) fit write
        (rw w (put_fits s rs x (asked_of s ws fit))) count (makes ∙ ap (λ (t : Reading). effect_of (effect.Write x (version_of t + 1) v)) e)
        ∙ ap (λ t. granted_of s t (version_of r + 1) (ones rs + ones ws) fit write) w

    pub insert-gap : fine ≡ 0 → (u : ℕ) → newest (reading_answers s rs x) ≡ Gap u → step_of s (insert rs ws x v) ≡ put_of s rs ws x u v
    unfolding step_of answers settle
    insert-gap f u e =
        let g : newest list ≡ Gap u = same-newest ∙ e in
        let n : length list ≡ ones rs + ones ws = answers-length s each (insert rs ws x v) h k in
        rw (f, g) (put_step (insert rs ws x v) refl n (Gap u) g refl)

    pub insert_entry : fine ≡ 0 → (u y : ℕ) → newest (reading_answers s rs x) ≡ Entry u y
        → step_of s (insert rs ws x v) ≡ record { outcome = refused 10; suite = s }
    unfolding step_of answers settle
    insert_entry f u y e = let g : newest list ≡ Entry u y = same-newest ∙ e in rw (f, g)

    pub update-entry : fine ≡ 0 → (u y : ℕ) → newest (reading_answers s rs x) ≡ Entry u y
        → step_of s (update rs ws x v) ≡ put_of s rs ws x u v
    unfolding step_of answers settle
    update-entry f u y e =
        let g : newest list ≡ Entry u y = same-newest ∙ e in
        let n : length list ≡ ones rs + ones ws = answers-length s each (update rs ws x v) h k in
        rw (f, g) (put_step (update rs ws x v) refl n (Entry u y) g refl)

    pub update-gap : fine ≡ 0 → (u : ℕ) → newest (reading_answers s rs x) ≡ Gap u
        → step_of s (update rs ws x v) ≡ record { outcome = refused 11; suite = s }
    unfolding step_of answers settle
    update-gap f u e = let g : newest list ≡ Gap u = same-newest ∙ e in rw (f, g)

  -- Remove.
  abbrev found : Survey
  found = survey_of (rounds s rs x)

  abbrev removing : ℕ
  removing = judged (ballots s) s.read s.write x 0 rs ws

  -- what the call's whole list comes to is what the rounds come to
  whole : survey_of (answers s (remove rs ws x)) ≡ found
  whole = remove_survey s rs ws x

  pub remove_entry : removing ≡ 0 → (u y : ℕ) → found.reading ≡ Entry u y → step_of s (remove rs ws x) ≡ join_of s rs ws u found
  unfolding step_of answers settle survey_of
  remove_entry f u y e =
      let ends = question.FitsCoalesce found.below.end found.above.end in
      let list = answers s (remove rs ws x) in
      let g : newest list ≡ Entry u y = ap (λ (t : Survey). t.reading) whole ∙ e in
      let n : length list ≡ 2 * ones rs + ones ws = answers-length s each (remove rs ws x) h k in
      let version : gap_of u (survey_of list) ≡ gap_of u found = ap (gap_of u) whole in
      rw (f, g, version)
      (granted_result s (remove rs ws x) list (gap_of u found) (2 * ones rs + ones ws) ends
      (effect.Coalesce found.below found.above (gap_of u found)) (join_fits s rs x (asked_of s ws ends)) n
      (ap (λ (r : Reading). effect_of (effect.Coalesce (survey_of list).below (survey_of list).above (gap_of (version_of r) (survey_of list)))) g
      ∙ ap (λ (t : Survey). effect_of (effect.Coalesce t.below t.above (gap_of u t))) whole))

  pub remove-gap : removing ≡ 0 → (u : ℕ) → found.reading ≡ Gap u → step_of s (remove rs ws x) ≡ record { outcome = refused 11; suite = s }
  unfolding step_of answers settle survey_of
  remove-gap f u e =
      let g : newest (answers s (remove rs ws x)) ≡ Gap u = ap (λ (t : Survey). t.reading) whole ∙ e in rw (f, g)
