-- Cutting a text changes nothing: to run over it is to run over a first part, and then over the rest from the course that the
-- first part leaves.
use Rattle.std.specs.Prelude.{◌≡◌, ℕ, zero, suc, ◌+◌, ◌≤◌, ◌<◌, Bool, true, false, cond, take, drop, ltb, eqb}
use Rattle.std.proofs.Math.Path.{refl, sym, ap}
use Rattle.std.proofs.Common.{◌∙◌, arith, length-drop, ltb-true, ltb-false}
use mathlib.Core.List.{List, [], ◌∷◌, ◌++◌, append_assoc}
use Rattle.std.proofs.Math.ListN.{length, length-append}
use Rattle.std.proofs.lemmas.List.{take-append-le, drop-append-le}
use Rattle.text.specs.Words.{onto}
use Rattle.text.specs.Answer.{text_of}
use Rattle.line.specs.Standing.{Standing, Answer, answer_of}
use Rattle.run.specs.Course.{newline, lines_in, end_in, Course, Run, holding, between, after}
use Rattle.run.specs.LineLaws.{others, lines_are, no_newline, first_line, end_within_lem}
use Rattle.run.specs.LongLine.{long_line}
use Rattle.run.specs.Answers.{run_all, then_run}

-- a list is cut after its first n once or twice
take_again : (n : ℕ) (a b : List ℕ) → take n (take n a ++ b) ≡ take n (a ++ b)
take_again zero a b = refl
take_again (suc n) [] b = refl
take_again (suc n) (x ∷ a) b = ap (λ (l : List ℕ). x ∷ l) (take_again n a b)

-- what is dropped of a long line does not count
pub kept_answer : (s : Standing) (a b : List ℕ) → answer_of s (take 81 a ++ b) ≡ answer_of s (a ++ b)
kept_answer s a b =
    sym (long_line s (take 81 a ++ b)) ∙ ap (answer_of s) (take_again 81 a b) ∙ long_line s (a ++ b)

-- a run without limit goes from line to line
module _ (c : Course) (p l : List ℕ) where
  pub all-line : run_all c (p ∷ lines_in l)
      ≡ after (length p + 1) (text_of (answer_of c.standing (c.held ++ p)).reply)
      (run_all (between (answer_of c.standing (c.held ++ p)).standing) (lines_in l))
  unfolding run_all
  all-line = rw (lines_are l)

  pub all-last : run_all c (p ∷ []) ≡ record { course = holding c p; taken = length p; said = [] }
  unfolding run_all
  all-last = refl

pub after-after : (n m : ℕ) (t u : List ℕ) (r : Run) → after n t (after m u r) ≡ after (n + m) (t ++ u) r
after-after n m t u r =
    let k : n + (m + r.taken) ≡ n + m + r.taken = omega arith in
    λ j. record { course = r.course; taken = k j; said = sym (append_assoc t u r.said) j }

-- the first newline of a text stays where a text is put behind it
end_append : (a b : List ℕ) → end_in a < length a → end_in (a ++ b) ≡ end_in a
unfolding end_in
end_append [] b h = absurd (omega arith)
end_append (x ∷ a) b h = go (eqb x newline) (end_append a b) h
  where
    go : (t : Bool) → (end_in a < length a → end_in (a ++ b) ≡ end_in a) → cond t 0 (suc (end_in a)) < suc (length a)
        → cond t 0 (suc (end_in (a ++ b))) ≡ cond t 0 (suc (end_in a))
    go true k h = refl
    go false k h = ap suc (k (omega arith))

-- a piece that is not ended goes on with the first piece behind it
lines-append : (a b : List ℕ) → end_in a ≡ length a → lines_in (a ++ b) ≡ (a ++ take (end_in b) b) ∷ others b
unfolding lines_in end_in onto
lines-append [] b h = lines_are b
lines-append (x ∷ a) b h = go (eqb x newline) (lines-append a b) h
  where
    go : (t : Bool) → (end_in a ≡ length a → lines_in (a ++ b) ≡ (a ++ take (end_in b) b) ∷ others b) → cond t 0 (suc (end_in a)) ≡ suc (length a)
        → cond t ([] ∷ lines_in (a ++ b)) (onto x (lines_in (a ++ b))) ≡ (x ∷ (a ++ take (end_in b) b)) ∷ others b
    go true k h = absurd (omega arith)
    go false k h = rw (k (omega arith))

-- a part without a newline
module _ (c : Course) (a : List ℕ) where
  held-twice : (f : List ℕ) → holding c (a ++ f) ≡ holding (holding c a) f
  held-twice f =
      λ j. record { standing = c.standing; held = (ap (take 81) (sym (append_assoc c.held a f)) ∙ sym (take_again 81 (c.held ++ a) f)) j }

  unended : (f : List ℕ) (o : List (List ℕ)) → run_all c ((a ++ f) ∷ o) ≡ after (length a) [] (run_all (holding c a) (f ∷ o))
  unfolding run_all
  unended f [] = λ j. record { course = held-twice f j; taken = length-append a f j; said = [] }
  unended f (q ∷ qs) =
      let line : c.held ++ (a ++ f) ≡ (c.held ++ a) ++ f = sym (append_assoc c.held a f) in
      let same : answer_of c.standing (c.held ++ (a ++ f)) ≡ answer_of c.standing (take 81 (c.held ++ a) ++ f) =
      ap (answer_of c.standing) line ∙ sym (kept_answer c.standing (c.held ++ a) f) in
      let n : length (a ++ f) + 1 ≡ length a + (length f + 1) = omega (arith, length-append a f) in
      (λ j. after (n j) (text_of (same j).reply) (run_all (between (same j).standing) (q ∷ qs)))
      ∙ sym (after-after (length a) (length f + 1) [] (text_of (answer_of c.standing (take 81 (c.held ++ a) ++ f)).reply)
      (run_all (between (answer_of c.standing (take 81 (c.held ++ a) ++ f)).standing) (q ∷ qs)))

-- a text may be cut between these two
abbrev Cuts : List ℕ → List ℕ → Course → Type 0
Cuts a b c = run_all c (lines_in (a ++ b)) ≡ then_run (run_all c (lines_in a)) (λ d. run_all d (lines_in b))

cut_unended : (a b : List ℕ) (c : Course) → end_in a ≡ length a → Cuts a b c
cut_unended a b c e =
    ap (run_all c) (lines-append a b e)
    ∙ unended c a (take (end_in b) b) (others b)
    ∙ ap (λ (ps : List (List ℕ)). after (length a) [] (run_all (holding c a) ps)) (sym (lines_are b))
    ∙ ap (λ (r : Run). then_run r (λ d. run_all d (lines_in b))) (sym (ap (run_all c) (no_newline a e) ∙ all-last c a []))

-- a first line, and the rest may be cut
cut_line : (a b : List ℕ) (c : Course) → end_in a < length a → ((d : Course) → Cuts (drop (end_in a + 1) a) b d) → Cuts a b c
cut_line a b c h rest =
    let p : List ℕ = take (end_in a) a in
    let l : List ℕ = drop (end_in a + 1) a in
    let x : Answer = answer_of c.standing (c.held ++ p) in
    let t : List ℕ = text_of x.reply in
    let r : Run = run_all (between x.standing) (lines_in l) in
    let same : end_in (a ++ b) ≡ end_in a = end_append a b h in
    let short : end_in (a ++ b) < length (a ++ b) = omega (arith, length-append a b) in
    let lines : lines_in (a ++ b) ≡ p ∷ lines_in (l ++ b) =
    first_line (a ++ b) short
    ∙ ap (λ (n : ℕ). take n (a ++ b) ∷ lines_in (drop (n + 1) (a ++ b))) same
    ∙ (λ j. take-append-le (end_in a) a b (omega arith) j ∷ lines_in (drop-append-le (end_in a + 1) a b (omega arith) j)) in
    let first : run_all c (lines_in a) ≡ after (length p + 1) t r = ap (run_all c) (first_line a h) ∙ all-line c p l in
    ap (run_all c) lines
    ∙ all-line c p (l ++ b)
    ∙ ap (after (length p + 1) t) (rest (between x.standing))
    ∙ after-after (length p + 1) r.taken t r.said (run_all r.course (lines_in b))
    ∙ ap (λ (q : Run). then_run q (λ d. run_all d (lines_in b))) (sym first)

cut_on : (k : ℕ) (a b : List ℕ) (c : Course) → length a ≤ k → Cuts a b c
cut_on zero a b c h = cut_unended a b c (omega (arith, end_within_lem a))
cut_on (suc k) a b c h =
    go (ltb (end_in a) (length a)) refl (λ (m : length (drop (end_in a + 1) a) ≤ k) (d : Course). cut_on k (drop (end_in a + 1) a) b d m)
  where
    go : (t : Bool) → ltb (end_in a) (length a) ≡ t → (length (drop (end_in a + 1) a) ≤ k → (d : Course) → Cuts (drop (end_in a + 1) a) b d) → Cuts a b c
    go true t f =
        let s : end_in a < length a = ltb-true (end_in a) (length a) t in
        cut_line a b c s (f (omega (arith, length-drop (end_in a + 1) a)))
    go false t f = cut_unended a b c (omega (arith, ltb-false (end_in a) (length a) t, end_within_lem a))

pub cut : (a b : List ℕ) (c : Course) → run_all c (lines_in (a ++ b)) ≡ then_run (run_all c (lines_in a)) (λ d. run_all d (lines_in b))
cut a b c = cut_on (length a) a b c (omega arith)
