-- Which of a call's answers a part of its result is settled from.
use Rattle.std.specs.Prelude.{None}
use Rattle.std.specs.Prelude.{◌≡◌, refl, List, [], ◌∷◌, ◌++◌, map, Bool, true, false, cond, ℕ, suc, ◌/◌, ◌%◌, eqb}
use Rattle.std.proofs.Common.{sym, ap, ◌∙◌, append_assoc, append-nil}
use Rattle.member.specs.declared.Member.{Member}
use Rattle.member.specs.declared.Reading.TheVariants.{Gap}
use Rattle.suite.specs.Best.{best}
use Rattle.suite.specs.Sets.{chosen, all}
use Rattle.suite.specs.Suite.{tiles}
use Rattle.suite.specs.Calls.{remove, Answer, Marked, answer_to, asked, asked_of, picked, its_reading, its_below, its_above, its_offer_below, its_offer_above, its_fit, newer, newest, higher, no_side, gap_below_in, gap_above_in, nearer, rank_below, rank_above, bound_or, all_fit, predecessor, successor, reading_answers, round_one, rounds, answers}
use Rattle.suite.specs.Rows.{survey_of}
use Rattle.suite.specs.declared.Suite.{Suite}
use Rattle.suite.specs.declared.rounds.Survey.{Survey}
use Rattle.suite.specs.Question.{Question}
use Rattle.suite.specs.Question as question

pub picked-append : {A : Type 0} (f : Answer → List A) (a b : List Marked) → picked f (a ++ b) ≡ picked f a ++ picked f b
unfolding picked
picked-append f [] b = refl
picked-append f (x ∷ a) b =
    ap (λ t. f x.answer ++ t) (picked-append f a b) ∙ sym (append_assoc (f x.answer) (picked f a) (picked f b))

-- what f takes from the answers to a question: one from each member asked,
pub picked_one : {A : Type 0} (f : Answer → List A) (g : Member → A) (q : Question) → ((m : Member) → f (answer_to q m) ≡ g m ∷ [])
    → (i : ℕ) (l : List Member) (set : ℕ) → picked f (chosen (asked q i l) set) ≡ map g (chosen l set)
unfolding picked chosen asked
picked_one f g q h i [] set = refl
picked_one f g q h i (m ∷ l) set = go (eqb (set % 2) 1) (picked_one f g q h (suc i) l (set / 2))
  where
    rest : List Marked
    rest = chosen (asked q (suc i) l) (set / 2)

    go : (b : Bool) → picked f rest ≡ map g (chosen l (set / 2))
        → picked f (cond b (record { member = i; answer = answer_to q m } ∷ rest) rest)
        ≡ map g (cond b (m ∷ chosen l (set / 2)) (chosen l (set / 2)))
    go true e = rw (h m, e)
    go false e = e

-- or none
pub picked_none : {A : Type 0} (f : Answer → List A) (q : Question) → ((m : Member) → f (answer_to q m) ≡ [])
    → (i : ℕ) (l : List Member) (set : ℕ) → picked f (chosen (asked q i l) set) ≡ []
unfolding picked chosen asked
picked_none f q h i [] set = refl
picked_none f q h i (m ∷ l) set = go (eqb (set % 2) 1) (picked_none f q h (suc i) l (set / 2))
  where
    rest : List Marked
    rest = chosen (asked q (suc i) l) (set / 2)

    go : (b : Bool) → picked f rest ≡ [] → picked f (cond b (record { member = i; answer = answer_to q m } ∷ rest) rest) ≡ []
    go true e = rw (h m, e)
    go false e = e

-- answers to a question that say nothing of the kind may be left out, behind the others or before them
module _ (s : Suite) (set : ℕ) (q : Question) where
  pub skip-last : {A : Type 0} (f : Answer → List A) → ((m : Member) → f (answer_to q m) ≡ []) → (l : List Marked)
      → picked f (l ++ asked_of s set q) ≡ picked f l
  skip-last f h l = picked-append f l (asked_of s set q) ∙ rw (picked_none f q h 0 (tiles s) set) (append-nil (picked f l))

  pub skip_first : {A : Type 0} (f : Answer → List A) → ((m : Member) → f (answer_to q m) ≡ []) → (l : List Marked)
      → picked f (asked_of s set q ++ l) ≡ picked f l
  skip_first f h l = picked-append f (asked_of s set q) l ∙ rw (picked_none f q h 0 (tiles s) set)

-- Insert and update: the reading is the read set's, what fits is the write set's.
pub put-newest : (s : Suite) (ws x : ℕ) (l : List Marked) → newest (l ++ asked_of s ws (question.FitsWrite x)) ≡ newest l
put-newest s ws x l = ap (best newer (Gap 0)) (skip-last s ws (question.FitsWrite x) its_reading (λ m. refl) l)

pub put_fits : (s : Suite) (rs x : ℕ) (l : List Marked) → all_fit (reading_answers s rs x ++ l) ≡ all_fit l
put_fits s rs x l = ap (all (λ b. b)) (skip_first s rs (question.Reading x) its_fit (λ m. refl) l)

-- Remove: what the rounds come to is the read set's, what fits is the write set's.
pub join_survey : (s : Suite) (ws p n : ℕ) (l : List Marked) → survey_of (l ++ asked_of s ws (question.FitsCoalesce p n)) ≡ survey_of l
unfolding survey_of
join_survey s ws p n l =
    let q = question.FitsCoalesce p n in
    let reading = ap (best newer (Gap 0)) (skip-last s ws q its_reading (λ m. refl) l) in
    let lower = ap (best higher no_side) (skip-last s ws q its_below (λ m. refl) l) in
    let upper = ap (best higher no_side) (skip-last s ws q its_above (λ m. refl) l) in
    let below = ap (best (nearer rank_below) None) (skip-last s ws q its_offer_below (λ m. refl) l) in
    let above = ap (best (nearer rank_above) None) (skip-last s ws q its_offer_above (λ m. refl) l) in
    λ j. record { reading = reading j; lower = (lower j).version; upper = (upper j).version; below = bound_or (below j); above = bound_or (above j) }

pub remove_survey : (s : Suite) (rs ws x : ℕ) → survey_of (answers s (remove rs ws x)) ≡ survey_of (rounds s rs x)
unfolding answers
remove_survey s rs ws x = let l = rounds s rs x in join_survey s ws (predecessor l).end (successor l).end l

pub remove-predecessor : (s : Suite) (rs ws x : ℕ) → predecessor (answers s (remove rs ws x)) ≡ predecessor (rounds s rs x)
unfolding survey_of
remove-predecessor s rs ws x = ap (λ (t : Survey). t.below) (remove_survey s rs ws x)

pub remove-successor : (s : Suite) (rs ws x : ℕ) → successor (answers s (remove rs ws x)) ≡ successor (rounds s rs x)
unfolding survey_of
remove-successor s rs ws x = ap (λ (t : Survey). t.above) (remove_survey s rs ws x)

pub join_fits : (s : Suite) (rs x : ℕ) (l : List Marked) → all_fit (rounds s rs x ++ l) ≡ all_fit l
unfolding rounds
join_fits s rs x l =
    let one = round_one s rs x in
    let q = question.Offers x (gap_below_in one) (gap_above_in one) in
    ap (all (λ b. b))
    (ap (picked its_fit) (append_assoc one (asked_of s rs q) l)
    ∙ skip_first s rs (question.Around x) its_fit (λ m. refl) (asked_of s rs q ++ l)
    ∙ skip_first s rs q its_fit (λ m. refl) l)
