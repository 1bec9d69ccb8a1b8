-- What is said over a text, with what its end says, is the text of the answers to its lines, in order.
use Rattle.std.specs.Prelude.{◌≡◌, refl, ℕ, List, [], ◌∷◌, ◌++◌, Bool, true, false, length, take, eqb}
use Rattle.std.proofs.Common.{sym, ◌∙◌, ap, arith, append_assoc, append-nil, length-take, eqb-true, eq-eqb, ne_eqb}
use Rattle.std.proofs.lemmas.Bool.{eqb-false}
use Rattle.text.specs.Answer.{text_of}
use Rattle.line.specs.Standing.{Standing, Answer, answer_of}
use Rattle.run.specs.Course.{newline, lines_in, end_in, Course, Run, between}
use Rattle.run.specs.LineLaws.{others, lines_are}
use Rattle.run.specs.Answers.{answers_of, texts_of, whole_lines, run_all, closing, Chunk, run_chunks, taken_of}
use Rattle.run.specs.CutLaws.{kept_answer}
use Rattle.run.specs.RoomLaws.{chunked}

-- the last piece of a text, which only the text's end ends
said_last : (s : Standing) (l : List ℕ) → (closing (record { standing = s; held = take 81 l })).said ≡ texts_of (answers_of s (whole_lines (l ∷ [])))
unfolding closing texts_of answers_of whole_lines run_all lines_in newline
said_last s l = go (eqb (length l) 0) refl
  where
    go : (t : Bool) → eqb (length l) 0 ≡ t → (closing (record { standing = s; held = take 81 l })).said ≡ texts_of (answers_of s (whole_lines (l ∷ [])))
    go true t =
        let none : length (take 81 l) ≡ 0 = omega (arith, length-take 81 l, eqb-true (length l) 0 t) in
        rw (t, eq-eqb (length (take 81 l)) 0 none)
    go false t =
        let some : length (take 81 l) ≡ 0 → ⊥ = λ e. eqb-false (length l) 0 t (omega (arith, length-take 81 l)) in
        rw (t, ne_eqb (length (take 81 l)) 0 some)
        (ap (λ (a : Answer). text_of a.reply ++ []) (kept_answer s l [] ∙ ap (answer_of s) (append-nil l)))

first_said : (s : Standing) (l q : List ℕ) (ps : List (List ℕ))
    → texts_of (answers_of s (whole_lines (l ∷ (q ∷ ps))))
    ≡ text_of (answer_of s l).reply ++ texts_of (answers_of (answer_of s l).standing (whole_lines (q ∷ ps)))
unfolding texts_of answers_of whole_lines
first_said s l q ps = refl

said_on : (p : List ℕ) (ps : List (List ℕ)) (c : Course)
    → (run_all c (p ∷ ps)).said ++ (closing (run_all c (p ∷ ps)).course).said
    ≡ texts_of (answers_of c.standing (whole_lines ((c.held ++ p) ∷ ps)))
unfolding run_all
said_on p [] c = said_last c.standing (c.held ++ p)
said_on p (q ∷ ps) c =
    let a : Answer = answer_of c.standing (c.held ++ p) in
    let r : Run = run_all (between a.standing) (q ∷ ps) in
    append_assoc (text_of a.reply) r.said (closing r.course).said
    ∙ ap (λ (l : List ℕ). text_of a.reply ++ l) (said_on q ps (between a.standing))
    ∙ sym (first_said c.standing (c.held ++ p) q ps)

-- a text from a course with nothing held: the lines' answers
pub said_answers : (text : List ℕ) (s : Standing)
    → (run_all (between s) (lines_in text)).said ++ (closing (run_all (between s) (lines_in text)).course).said
    ≡ texts_of (answers_of s (whole_lines (lines_in text)))
said_answers text s = rw (lines_are text) (said_on (take (end_in text) text) (others text) (between s))

-- the same of a text that was taken chunk by chunk: the answers are those to the lines of the text
pub chunks_answered : (ks : List Chunk) (s : Standing)
    → (run_chunks (between s) ks).said ++ (closing (run_chunks (between s) ks).course).said
    ≡ texts_of (answers_of s (whole_lines (lines_in (taken_of (between s) ks))))
chunks_answered ks s = rw (chunked ks (between s) (omega arith)) (said_answers (taken_of (between s) ks) s)
