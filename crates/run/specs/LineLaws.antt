-- The pieces of a text, found from newline to newline.
use Rattle.std.specs.Prelude.{◌≡◌, refl, ℕ, suc, ◌+◌, ◌≤◌, ◌<◌, List, [], ◌∷◌, Bool, true, false, cond, length, take, drop, eqb}
use Rattle.std.proofs.Common.{sym, ◌∙◌, ap, add-one, arith}
use Rattle.std.proofs.Math.Seq.{take-length}
use Rattle.text.specs.Words.{onto}
use Rattle.run.specs.Course.{newline, lines_in, end_in}

-- the pieces behind the first
unfoldable pub others : List ℕ → List (List ℕ)
others [] = []
others (b ∷ l) = cond (eqb b newline) (lines_in l) (others l)

pub lines_are : (l : List ℕ) → lines_in l ≡ take (end_in l) l ∷ others l
unfolding lines_in end_in others onto
lines_are [] = refl
lines_are (b ∷ l) = go (eqb b newline) (lines_are l)
  where
    go : (t : Bool) → lines_in l ≡ take (end_in l) l ∷ others l
        → cond t ([] ∷ lines_in l) (onto b (lines_in l)) ≡ take (cond t 0 (suc (end_in l))) (b ∷ l) ∷ cond t (lines_in l) (others l)
    go true e = refl
    go false e = rw e

pub end_within_lem : (l : List ℕ) → end_in l ≤ length l
unfolding end_in
end_within_lem [] = omega arith
end_within_lem (b ∷ l) = go (eqb b newline) (end_within_lem l)
  where
    go : (t : Bool) → end_in l ≤ length l → cond t 0 (suc (end_in l)) ≤ suc (length l)
    go true h = omega arith
    go false h = omega arith

-- a text without a newline is one piece
others-none : (l : List ℕ) → end_in l ≡ length l → others l ≡ []
unfolding end_in others
others-none [] h = refl
others-none (b ∷ l) h = go (eqb b newline) (others-none l) h
  where
    go : (t : Bool) → (end_in l ≡ length l → others l ≡ []) → cond t 0 (suc (end_in l)) ≡ suc (length l) → cond t (lines_in l) (others l) ≡ []
    go true k h = absurd (omega arith)
    go false k h = k (omega arith)

pub no_newline : (l : List ℕ) → end_in l ≡ length l → lines_in l ≡ l ∷ []
no_newline l h = lines_are l ∙ rw (h, others-none l h, take-length l)

-- behind the first newline the text goes on
others_some : (l : List ℕ) → end_in l < length l → others l ≡ lines_in (drop (suc (end_in l)) l)
unfolding end_in others
others_some [] h = absurd (omega arith)
others_some (b ∷ l) h = go (eqb b newline) (others_some l) h
  where
    go : (t : Bool) → (end_in l < length l → others l ≡ lines_in (drop (suc (end_in l)) l)) → cond t 0 (suc (end_in l)) < suc (length l)
        → cond t (lines_in l) (others l) ≡ lines_in (drop (suc (cond t 0 (suc (end_in l)))) (b ∷ l))
    go true k h = refl
    go false k h = k (omega arith)

pub first_line : (l : List ℕ) → end_in l < length l → lines_in l ≡ take (end_in l) l ∷ lines_in (drop (end_in l + 1) l)
first_line l h =
    lines_are l
    ∙ ap (λ (ps : List (List ℕ)). take (end_in l) l ∷ ps) (others_some l h ∙ ap (λ (n : ℕ). lines_in (drop n l)) (sym (add-one (end_in l))))
