-- What the code reads out of its tables is what the answers of the members come to.
use Rattle.std.specs.Prelude.{None}
use mathlib.Core.Path.{◌≡◌, refl, sym, ap, ◌∙◌}
use mathlib.Core.List.{List, [], ◌∷◌, map}
use mathlib.Core.Bool.{Bool, ◌&&◌}
use Prim.Native.Nat.{ℕ, ◌^◌, ◌<◌}
use lib.ListN.{length}
use Rattle.member.specs.Tile.{reading_of}
use Rattle.member.specs.Rounds.{around_of, offer_below_of, offer_above_of}
use Rattle.member.specs.declared.Member.{Member}
use Rattle.member.specs.declared.Reading.TheVariants.{Gap}
use Rattle.member.specs.declared.Around.{Around}
use Rattle.member.specs.declared.Side.{Side}
use Rattle.suite.specs.Best.{best}
use Rattle.suite.specs.Sets.{chosen, all}
use Rattle.suite.specs.Suite.{tiles}
use Rattle.suite.specs.Calls.{Answer, answer_to, asked_of, picked, its_reading, its_below, its_above, its_offer_below, its_offer_above, its_fit, newer, higher, nearer, rank_below, rank_above, no_side, bound_or, newest, reading_answers, round_one, gap_below_in, gap_above_in, predecessor, successor, all_fit}
use Rattle.suite.specs.Rows.{row_of, no_row, reading_row, around_row, row_reading, beats_at, table_of}
use Rattle.suite.specs.SetLaws.{chosen_table}
use Rattle.suite.specs.AnswerLaws.{picked_one}
use Rattle.suite.specs.declared.Suite.{Suite}
use Rattle.suite.specs.Question.{Question}
use Rattle.suite.specs.Question as question
use Rattle.suite.proofs.Bounds.{below_within}
use Rattle.suite.proofs.Folds.{newest_row, side_of, below_row, above_row, around_newest, Both, both_row, bound_at, predecessor_row, successor_row}

map-map : {A B C : Type 0} (f : B → C) (g : A → B) (l : List A) → map (λ a. f (g a)) l ≡ map f (map g l)
map-map f g [] = refl
map-map f g (a ∷ l) = ap (λ t. f (g a) ∷ t) (map-map f g l)

-- the rows of a table are those of the answers
abbrev pub answer_table : Suite → ℕ → Question → List (List ℕ)
answer_table s set q = table_of (λ m. row_of (answer_to q m)) (tiles s) set

module _ (s : Suite) (set : ℕ) (h : set < 2 ^ length (tiles s)) where
  abbrev ms : List Member
  ms = chosen (tiles s) set

  rows_of : {A : Type 0} (q : Question) (row : A → List ℕ) (g : Member → A) → ((m : Member) → row_of (answer_to q m) ≡ row (g m))
      → chosen (answer_table s set q) set ≡ map row (map g ms)
  rows_of q row g e =
      chosen_table (λ m. row_of (answer_to q m)) (tiles s) set h
      ∙ ap (λ (f : Member → List ℕ). map f ms) (λ j m. e m j)
      ∙ map-map row g ms

  pub newest-is : (x : ℕ) → row_reading (best (beats_at 1 1) no_row (chosen (answer_table s set (question.Reading x)) set)) ≡ newest (reading_answers s set x)
  unfolding row_of
  newest-is x =
      ap (λ l. row_reading (best (beats_at 1 1) no_row l)) (rows_of (question.Reading x) reading_row (λ m. reading_of m x) (λ m. refl))
      ∙ newest_row (map (λ m. reading_of m x) ms)
      ∙ ap (best newer (Gap 0)) (sym (picked_one its_reading (λ m. reading_of m x) (question.Reading x) (λ m. refl) 0 (tiles s) set))

  module _ (x : ℕ) where
    abbrev one : List (List ℕ)
    one = chosen (answer_table s set (question.Around x)) set

    arounds : List Around
    arounds = map (λ m. around_of m x) ms

    one-is : one ≡ map around_row arounds
    unfolding row_of arounds
    one-is = rows_of (question.Around x) around_row (λ m. around_of m x) (λ m. refl)

    -- what round one answers of each kind
    of_one : {A : Type 0} (f : Answer → List A) (g : Around → A) → ((m : Member) → f (answer_to (question.Around x) m) ≡ g (around_of m x) ∷ [])
        → picked f (round_one s set x) ≡ map g arounds
    unfolding arounds
    of_one f g e =
        picked_one f (λ m. g (around_of m x)) (question.Around x) e 0 (tiles s) set ∙ map-map g (λ m. around_of m x) ms

    pub below-is : side_of (best (beats_at 3 3) no_row one) 3 4 ≡ gap_below_in (round_one s set x)
    below-is =
        ap (λ l. side_of (best (beats_at 3 3) no_row l) 3 4) one-is
        ∙ below_row arounds
        ∙ ap (best higher no_side) (sym (of_one its_below (λ a. a.below) (λ m. refl)))

    pub above-is : side_of (best (beats_at 5 5) no_row one) 5 6 ≡ gap_above_in (round_one s set x)
    above-is =
        ap (λ l. side_of (best (beats_at 5 5) no_row l) 5 6) one-is
        ∙ above_row arounds
        ∙ ap (best higher no_side) (sym (of_one its_above (λ a. a.above) (λ m. refl)))

    pub reading_is : row_reading (best (beats_at 1 1) no_row one) ≡ newest (round_one s set x)
    reading_is =
        ap (λ l. row_reading (best (beats_at 1 1) no_row l)) one-is
        ∙ around_newest arounds
        ∙ ap (best newer (Gap 0)) (sym (of_one its_reading (λ a. a.reading) (λ m. refl)))

    -- round two, for the gaps that round one found
    module _ (b a : Side) where
      abbrev q : Question
      q = question.Offers x b a

      abbrev both : Member → Both
      both m =
          record {
            below = offer_below_of m x b.end b.version;
            above = offer_above_of m x a.end a.version;
            within = below_within m x b.end b.version;
          }

      two_is : chosen (answer_table s set q) set ≡ map both_row (map both ms)
      unfolding row_of
      two_is = rows_of q both_row both (λ m. refl)

      of_two : {A : Type 0} (f : Answer → List A) (g : Both → A) → ((m : Member) → f (answer_to q m) ≡ g (both m) ∷ [])
          → picked f (asked_of s set q) ≡ map g (map both ms)
      of_two f g e = picked_one f (λ m. g (both m)) q e 0 (tiles s) set ∙ map-map g both ms

      pub predecessor_is : bound_at (best (beats_at 0 2) no_row (chosen (answer_table s set q) set)) 1 2 3 ≡ predecessor (asked_of s set q)
      predecessor_is =
          ap (λ l. bound_at (best (beats_at 0 2) no_row l) 1 2 3) two_is
          ∙ predecessor_row (map both ms)
          ∙ ap (λ l. bound_or (best (nearer rank_below) None l)) (sym (of_two its_offer_below (λ w. w.below) (λ m. refl)))

      pub successor_is : bound_at (best (beats_at 4 6) no_row (chosen (answer_table s set q) set)) 5 6 7 ≡ successor (asked_of s set q)
      successor_is =
          ap (λ l. bound_at (best (beats_at 4 6) no_row l) 5 6 7) two_is
          ∙ successor_row (map both ms)
          ∙ ap (λ l. bound_or (best (nearer rank_above) None l)) (sym (of_two its_offer_above (λ w. w.above) (λ m. refl)))

all_map : {A : Type 0} (g : A → Bool) (l : List A) → all g l ≡ all (λ b. b) (map g l)
unfolding all
all_map g [] = refl
all_map g (a ∷ l) = ap (λ t. g a && t) (all_map g l)

-- the members that the set names all fit where each one's answer says so
pub fit_lem : (room : Member → Bool) (s : Suite) (set : ℕ) (q : Question) → ((m : Member) → answer_to q m ≡ Answer.fits (room m))
    → all room (chosen (tiles s) set) ≡ all_fit (asked_of s set q)
fit_lem room s set q r =
    all_map room (chosen (tiles s) set)
    ∙ ap (all (λ b. b)) (sym (picked_one its_fit room q (λ m. ap its_fit (r m)) 0 (tiles s) set))
