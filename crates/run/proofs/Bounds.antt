-- A call takes no more than there is, and goes on. Assumes nothing.
use Rattle.std.proofs.Common.{◌≡◌, refl, sym, ap, ℕ, suc, ◌+◌, ◌-◌, ◌≤◌, ◌<◌, Bool, true, false, ◌&&◌, cond, List, [], ◌∷◌, ◌++◌, length, take, arith, ltb, eqb}
use Rattle.text.specs.Words.{onto}
use Rattle.text.specs.Answer.{text_of}
use Rattle.suite.specs.Outcome.{answered}
use Rattle.line.specs.Standing.{answer_of}
use Rattle.run.specs.Course.{newline, lines_in, end_in, Course, Run, between, still, after, run_on, refusal, unsound, due, run_of}
use Rattle.run.specs.Lent.{Report, ran_in, report_of}
use Rattle.run.specs.LineLaws.{others, lines_are}
use Rattle.run.specs.ToldLaws.{progress}
use Rattle.run.specs.declared.Session.{Session}
use Rattle.run.specs.declared.Ran.{Ran}

-- how many bytes the pieces of a text have, with the newlines between them
unfoldable size_of : List (List ℕ) → ℕ
size_of [] = 0
size_of (p ∷ []) = length p
size_of (p ∷ (q ∷ ps)) = length p + 1 + size_of (q ∷ ps)

size_onto : (b : ℕ) (p : List ℕ) (ps : List (List ℕ)) → size_of ((b ∷ p) ∷ ps) ≡ suc (size_of (p ∷ ps))
unfolding size_of
size_onto b p [] = refl
size_onto b p (q ∷ ps) = omega arith

size_lines : (l : List ℕ) → size_of (lines_in l) ≡ length l
unfolding size_of lines_in onto
size_lines [] = refl
size_lines (b ∷ l) = rw (lines_are l) (go (rw (lines_are l) at (size_lines l)) (eqb b newline))
  where
    go : size_of (take (end_in l) l ∷ others l) ≡ length l → (t : Bool)
        → size_of (cond t ([] ∷ (take (end_in l) l ∷ others l)) ((b ∷ take (end_in l) l) ∷ others l)) ≡ suc (length l)
    go h true = omega (arith, h)
    go h false = omega (arith, h, size_onto b (take (end_in l) l) (others l))

taken_on : (ps : List (List ℕ)) (room : ℕ) (c : Course) → (run_on room c ps).taken ≤ size_of ps
unfolding run_on size_of
taken_on [] room c = omega arith
taken_on (p ∷ []) room c = omega arith
taken_on (p ∷ (q ∷ ps)) room c =
    let a = answer_of c.standing (c.held ++ p) in
    go (ltb room 33) (text_of a.reply) (run_on (room - length (text_of a.reply)) (between a.standing) (q ∷ ps))
    (taken_on (q ∷ ps) (room - length (text_of a.reply)) (between a.standing))
  where
    go : (t : Bool) (text : List ℕ) (r : Run) → r.taken ≤ size_of (q ∷ ps)
        → (cond t (still c) (after (length p + 1) text r)).taken ≤ length p + 1 + size_of (q ∷ ps)
    go true text r h = omega arith
    go false text r h = omega (arith, h)

taken_of : (c : Course) (text : List ℕ) (room : ℕ) → (run_of c text room).run.taken ≤ length text
unfolding run_of
taken_of c text room = go (unsound c.standing) (due (lines_in text) && ltb room 33)
  where
    go : (u d : Bool)
        → (cond u (refusal 1 c) (cond d (refusal 19 c) (record { outcome = answered []; run = run_on room c (lines_in text) }))).run.taken
        ≤ length text
    go true d = omega arith
    go false true = omega arith
    go false false = omega (arith, taken_on (lines_in text) room c, size_lines text)

-- of a call that was not refused
module _ (r : Ran) (s : Session) (c : Course) (text : List ℕ) (room : ℕ) (e : ran_in r s ≡ report_of (run_of c text room)) where
  pub taken_within : r.taken ≤ length text
  taken_within = omega (arith, ap (λ (x : Report). x.taken) e, taken_of c text room)

  pub goes_on : 0 < length text → 0 < r.taken
  goes_on h = omega (arith, ap (λ (x : Report). x.taken) e, progress c text room (sym (ap (λ (x : Report). x.outcome) e)) h)
