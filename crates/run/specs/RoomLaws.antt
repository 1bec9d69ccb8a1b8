-- A run whose room is limited and that took n bytes is the run without limit over the first n bytes. So whatever chunks are
-- handed over, and with whatever room, what is said is what the bytes that were taken are answered.
use Rattle.std.specs.Prelude.{◌≡◌, refl, ℕ, zero, suc, ◌+◌, ◌-◌, ◌≤◌, ◌<◌, List, [], ◌∷◌, ◌++◌, true, false, ◌&&◌, length, take, drop, eqb}
use Rattle.std.proofs.Common.{sym, ◌∙◌, ap, arith, append-nil, length-take, length-drop, take_all, take-take, length-take-le, ltb-true, ltb-false}
use Rattle.std.proofs.Math.Bool.{Bool, cond}
use Rattle.std.proofs.lemmas.List.{drop-take}
use Rattle.std.proofs.Math.Seq.{take-length}
use Rattle.std.proofs.Math.Dec.{ltb}
use Rattle.text.specs.Answer.{text_of}
use Rattle.suite.specs.Outcome.{answered}
use Rattle.line.specs.Standing.{Answer, answer_of}
use Rattle.run.specs.Course.{newline, lines_in, end_in, Course, Run, Told, holding, between, still, after, longest, run_on, refusal, unsound, due, run_of}
use Rattle.run.specs.LineLaws.{no_newline, first_line, end_within_lem}
use Rattle.run.specs.RunLaws.{run-stop, run-line, run-last}
use Rattle.run.specs.Answers.{run_all, then_run, Chunk, run_chunks, taken_of}
use Rattle.run.specs.CutLaws.{all-line, all-last, cut}

-- no more is held than is kept
abbrev pub Short : Course → Type 0
Short c = length c.held ≤ 81

-- a run over nothing
pub over_nothing : (c : Course) → Short c → still c ≡ run_all c (lines_in [])
unfolding lines_in
over_nothing c h =
    let same : c.held ≡ take 81 (c.held ++ []) =
    sym (take_all 81 c.held h) ∙ ap (take 81) (sym (append-nil c.held)) in
    (λ j. record { course = record { standing = c.standing; held = same j }; taken = 0; said = [] })
    ∙ sym (all-last c [] [])

-- the first newline of a text is the first of its beginning, if that reaches so far
end_take : (n : ℕ) (l : List ℕ) → end_in l < n → end_in (take n l) ≡ end_in l
unfolding end_in
end_take zero l h = absurd (omega arith)
end_take (suc n) [] h = refl
end_take (suc n) (x ∷ l) h = go (eqb x newline) (end_take n l) h
  where
    go : (t : Bool) → (end_in l < n → end_in (take n l) ≡ end_in l) → cond t 0 (suc (end_in l)) < suc n
        → cond t 0 (suc (end_in (take n l))) ≡ cond t 0 (suc (end_in l))
    go true k h = refl
    go false k h = ap suc (k (omega arith))

-- the lines of a beginning that holds the first line whole
lines-take : (l : List ℕ) (m : ℕ) → end_in l < length l
    → lines_in (take (end_in l + 1 + m) l) ≡ take (end_in l) l ∷ lines_in (take m (drop (end_in l + 1) l))
lines-take l m h =
    let n : ℕ = end_in l + 1 + m in
    let same : end_in (take n l) ≡ end_in l = end_take n l (omega arith) in
    first_line (take n l) (omega (arith, length-take n l))
    ∙ ap (λ (e : ℕ). take e (take n l) ∷ lines_in (drop (e + 1) (take n l))) same
    ∙ (λ j. take-take (end_in l) n l (omega arith) j ∷ lines_in (drop-take (end_in l + 1) m l j))

-- a run with this room is one without limit over what it takes
abbrev Limits : ℕ → Course → List ℕ → Type 0
Limits room c text = run_on room c (lines_in text) ≡ run_all c (lines_in (take (run_on room c (lines_in text)).taken text))

limited_to : (room : ℕ) (c : Course) (text : List ℕ) (r : Run) → run_on room c (lines_in text) ≡ r → r ≡ run_all c (lines_in (take r.taken text))
    → Limits room c text
limited_to room c text r e f = e ∙ f ∙ ap (λ (q : Run). run_all c (lines_in (take q.taken text))) (sym e)

limited_unended : (room : ℕ) (c : Course) (text : List ℕ) → end_in text ≡ length text → Limits room c text
limited_unended room c text e =
    limited_to room c text (record { course = holding c text; taken = length text; said = [] })
    (ap (run_on room c) (no_newline text e) ∙ run-last room c text [])
    (sym (ap (λ (l : List ℕ). run_all c (lines_in l)) (take-length text) ∙ ap (run_all c) (no_newline text e) ∙ all-last c text []))

module _ (room : ℕ) (c : Course) (text : List ℕ) (h : end_in text < length text) where
  limited-stop : Short c → room < 33 → Limits room c text
  limited-stop s k =
      limited_to room c text (still c)
      (ap (run_on room c) (first_line text h) ∙ run-stop room c (take (end_in text) text) (drop (end_in text + 1) text) k)
      (over_nothing c s)

  limited-line : 33 ≤ room → ((room' : ℕ) (s : Course) → Short s → Limits room' s (drop (end_in text + 1) text)) → Limits room c text
  limited-line k rest =
      let p : List ℕ = take (end_in text) text in
      let l : List ℕ = drop (end_in text + 1) text in
      let x : Answer = answer_of c.standing (c.held ++ p) in
      let t : List ℕ = text_of x.reply in
      let r : Run = run_on (room - length t) (between x.standing) (lines_in l) in
      let size : length p ≡ end_in text = length-take-le (end_in text) text (omega arith) in
      limited_to room c text (after (length p + 1) t r)
      (ap (run_on room c) (first_line text h) ∙ run-line room c p l k)
      (ap (after (length p + 1) t) (rest (room - length t) (between x.standing) (omega arith))
      ∙ sym (all-line c p (take r.taken l))
      ∙ ap (run_all c) (sym (lines-take text r.taken h))
      ∙ ap (λ (n : ℕ). run_all c (lines_in (take (n + 1 + r.taken) text))) (sym size))

limited_on : (k : ℕ) (room : ℕ) (c : Course) (text : List ℕ) → length text ≤ k → Short c → Limits room c text
limited_on zero room c text h s = limited_unended room c text (omega (arith, end_within_lem text))
limited_on (suc k) room c text h s =
    go (ltb (end_in text) (length text)) refl
    (λ (m : length (drop (end_in text + 1) text) ≤ k) (room' : ℕ) (d : Course) (s' : Short d). limited_on k room' d (drop (end_in text + 1) text) m s')
  where
    go : (t : Bool) → ltb (end_in text) (length text) ≡ t
        → (length (drop (end_in text + 1) text) ≤ k → (room' : ℕ) (d : Course) → Short d → Limits room' d (drop (end_in text + 1) text))
        → Limits room c text
    go false t f = limited_unended room c text (omega (arith, ltb-false (end_in text) (length text) t, end_within_lem text))
    go true t f = full (ltb room 33) refl
      where
        full : (b : Bool) → ltb room 33 ≡ b → Limits room c text
        full true b = limited-stop room c text (ltb-true (end_in text) (length text) t) s (ltb-true room 33 b)
        full false b =
            let w : end_in text < length text = ltb-true (end_in text) (length text) t in
            limited-line room c text w (ltb-false room 33 b) (f (omega (arith, length-drop (end_in text + 1) text)))

pub limited : (room : ℕ) (c : Course) (text : List ℕ) → Short c
    → run_on room c (lines_in text) ≡ run_all c (lines_in (take (run_on room c (lines_in text)).taken text))
limited room c text s = limited_on (length text) room c text (omega arith) s

-- a run leaves no more held than is kept
short_all : (ps : List (List ℕ)) (c : Course) → Short c → Short (run_all c ps).course
unfolding run_all
short_all [] c s = s
short_all (p ∷ []) c s = omega (arith, length-take 81 (c.held ++ p))
short_all (p ∷ (q ∷ ps)) c s = short_all (q ∷ ps) (between (answer_of c.standing (c.held ++ p)).standing) (omega arith)

-- the same of a call, refused or not
module _ (c : Course) (text : List ℕ) (room : ℕ) (s : Short c) where
  pub call-limited : (run_of c text room).run ≡ run_all c (lines_in (take (run_of c text room).run.taken text))
  unfolding run_of
  call-limited = go (unsound c.standing) (due (lines_in text) && ltb room longest)
    where
      told : Bool → Bool → Told
      told u d = cond u (refusal 1 c) (cond d (refusal 19 c) (record { outcome = answered []; run = run_on room c (lines_in text) }))

      go : (u d : Bool) → (told u d).run ≡ run_all c (lines_in (take (told u d).run.taken text))
      go true d = over_nothing c s
      go false true = over_nothing c s
      go false false = limited room c text s

  pub short-call : Short (run_of c text room).run.course
  short-call = rw call-limited (short_all (lines_in (take (run_of c text room).run.taken text)) c s)

-- however the text is cut, and however little room there is at a time
pub chunked : (ks : List Chunk) (c : Course) → Short c → run_chunks c ks ≡ run_all c (lines_in (taken_of c ks))
unfolding run_chunks taken_of
chunked [] c s = over_nothing c s
chunked (k ∷ ks) c s =
    let r : Run = (run_of c k.text k.room).run in
    let later : List ℕ = taken_of r.course ks in
    ap (after r.taken r.said) (chunked ks r.course (short-call c k.text k.room s))
    ∙ ap (λ (q : Run). then_run q (λ d. run_all d (lines_in later))) (call-limited c k.text k.room s)
    ∙ sym (cut (take r.taken k.text) later c)
