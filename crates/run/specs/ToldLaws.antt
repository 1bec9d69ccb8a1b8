-- What a call comes to, by cases; and that a run that is not refused goes on: it takes a byte, if there is one.
use Rattle.std.specs.Prelude.{◌≡◌, ℕ, ◌+◌, ◌≤◌, ◌<◌, List, [], ◌∷◌, Bool, ◌&&◌, length, take, drop, ltb}
use Rattle.std.proofs.Math.Path.{refl}
use Rattle.std.proofs.Common.{sym, ◌∙◌, ap, arith}
use Rattle.std.proofs.Math.Bool.{true, false, cond}
use borrow.Author.Tests.{lt-ltb, le-ltb, ltb-true, ltb-false}
use Rattle.suite.specs.Outcome.{answered, refused}
use Rattle.run.specs.Course.{lines_in, end_in, Course, Run, Told, holding, run_on, refusal, unsound, due, run_of}
use Rattle.run.specs.LineLaws.{lines_are, no_newline, first_line, end_within_lem}
use Rattle.run.specs.RunLaws.{run-line, run-last}

-- two pieces are due
due_more : (p l : List ℕ) → due (p ∷ lines_in l) ≡ true
unfolding due
due_more p l = rw (lines_are l)

module _ (c : Course) (text : List ℕ) (room : ℕ) where
  pub told-unsound : unsound c.standing ≡ true → run_of c text room ≡ refusal 1 c
  unfolding run_of
  told-unsound u = rw u

  module _ (s : unsound c.standing ≡ false) where
    pub told-held : end_in text ≡ length text
        → run_of c text room ≡ record { outcome = answered []; run = record { course = holding c text; taken = length text; said = [] } }
    unfolding run_of due
    told-held e = rw (s, no_newline text e, run-last room c text [])

    module _ (h : end_in text < length text) where
      pub told-short : room < 33 → run_of c text room ≡ refusal 19 c
      unfolding run_of
      told-short k = rw (s, first_line text h, due_more (take (end_in text) text) (drop (end_in text + 1) text), lt-ltb room 33 k)

      pub told-run : 33 ≤ room → run_of c text room ≡ record { outcome = answered []; run = run_on room c (lines_in text) }
      unfolding run_of
      told-run k = rw (s, le-ltb room 33 k) (undecided (due (lines_in text)))
        where
          undecided : (b : Bool)
              → cond (b && false) (refusal 19 c) (record { outcome = answered []; run = run_on room c (lines_in text) })
              ≡ record { outcome = answered []; run = run_on room c (lines_in text) }
          undecided true = refl
          undecided false = refl

-- a call is not both refused and answered
not_refused : (n : ℕ) → refused n ≡ answered [] → ⊥
not_refused n e = let z : ◌≡◌ {A = ℕ} 0 1 = cc in omega arith

-- a call that is not refused is the run over the text's lines; and where a line ends in the text, there is room for an answer
module _ (c : Course) (text : List ℕ) (room : ℕ) (e : (run_of c text room).outcome ≡ answered []) where
  judged-sound : unsound c.standing ≡ false
  judged-sound = go (unsound c.standing) refl
    where
      go : (t : Bool) → unsound c.standing ≡ t → unsound c.standing ≡ false
      go false t = t
      go true t = absurd (not_refused 1 (sym (ap (λ (q : Told). q.outcome) (told-unsound c text room t)) ∙ e))

  enough-room : end_in text < length text → 33 ≤ room
  enough-room h = go (ltb room 33) refl
    where
      go : (t : Bool) → ltb room 33 ≡ t → 33 ≤ room
      go false t = ltb-false room 33 t
      go true t = absurd (not_refused 19 (sym (ap (λ (q : Told). q.outcome) (told-short c text room judged-sound h (ltb-true room 33 t))) ∙ e))

  pub ran : run_of c text room ≡ record { outcome = answered []; run = run_on room c (lines_in text) }
  ran = go (ltb (end_in text) (length text)) refl
    where
      go : (t : Bool) → ltb (end_in text) (length text) ≡ t
          → run_of c text room ≡ record { outcome = answered []; run = run_on room c (lines_in text) }
      go true t = let h = ltb-true (end_in text) (length text) t in told-run c text room judged-sound h (enough-room h)
      go false t =
          let all : end_in text ≡ length text = omega (arith, ltb-false (end_in text) (length text) t, end_within_lem text) in
          told-held c text room judged-sound all
          ∙ ap (λ (r : Run). record { outcome = answered []; run = r }) (sym (ap (run_on room c) (no_newline text all) ∙ run-last room c text []))

  -- a caller that comes again with what was not taken comes to the end of the text
  pub progress : 0 < length text → 0 < (run_of c text room).run.taken
  progress some = go (ltb (end_in text) (length text)) refl
    where
      go : (t : Bool) → ltb (end_in text) (length text) ≡ t → 0 < (run_of c text room).run.taken
      go true t =
          let h = ltb-true (end_in text) (length text) t in
          let lines = ap (run_on room c) (first_line text h)
          ∙ run-line room c (take (end_in text) text) (drop (end_in text + 1) text) (enough-room h) in
          omega (arith, ap (λ (q : Told). q.run.taken) ran, ap (λ (r : Run). r.taken) lines)
      go false t =
          let all : end_in text ≡ length text = omega (arith, ltb-false (end_in text) (length text) t, end_within_lem text) in
          omega (arith, ap (λ (q : Told). q.run.taken) (told-held c text room judged-sound all))
