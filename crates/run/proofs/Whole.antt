-- The run over a chunk, by cases: refused, held whole, or its first line and the rest. Assumes nothing.
use mathlib.Core.Path.{◌≡◌, sym, ◌∙◌, ap}
use Prim.Native.Nat.{ℕ, ◌+◌, ◌-◌, ◌≤◌, ◌<◌}
use native.Mathlib.Nat.{zero-add}
use native.Mathlib.Omega.{arith}
use mathlib.Core.List.{List, [], ◌∷◌, ◌++◌}
use mathlib.Core.Bool.{Bool, true, false, not}
use lib.ListN.{length, take, drop}
use lib.Seq.{length-take-le}
use borrow.Author.Tests.{eq-eqb, ne_eqb, not-true, not-false}
use Rattle.text.specs.Answer.{text_of, place_after, printed}
use Rattle.text.specs.declared.Reply.{Reply}
use Rattle.suite.specs.Outcome.{answered, refused}
use Rattle.line.specs.Standing.{Answer, answer_of}
use Rattle.run.specs.Course.{newline, lines_in, end_in, Course, Run, Told, holding, between, still, after, run_on, refusal, unsound, run_of, finish_of}
use Rattle.run.specs.Lent.{Report, run_from, report_of, report_from, placed, placed_from}
use Rattle.run.specs.LineLaws.{first_line}
use Rattle.run.specs.RunLaws.{run-line}
use Rattle.run.specs.ToldLaws.{told-held, told-run}
use Rattle.run.proofs.Going.{with_text, long_as, report-on, placed_on, place-printed, text-printed, printed-within}

-- a refused call
pub refused_is : (t : Told) (n : ℕ) (c : Course) (out : List ℕ) → t ≡ refusal n c
    → (record { outcome = refused n; course = c; taken = 0; written = 0 } ≡ report_of t) × (out ≡ placed t out)
refused_is t n c out e = (ap report_of (sym e), ap (λ (q : Told). placed q out) (sym e))

-- no line ends in the chunk
pub held_is : (c : Course) (text out : List ℕ) → unsound c.standing ≡ false → 0 + end_in text ≡ length text → (d : Course) → d ≡ holding c text
    → (record { outcome = answered []; course = d; taken = length text; written = 0 } ≡ report_of (run_of c text (length out)))
    × (out ≡ placed (run_of c text (length out)) out)
held_is c text out s e d g =
    let told = sym (told-held c text (length out) s (omega arith)) in (
      (λ j. record { outcome = answered []; course = g j; taken = length text; written = 0 }) ∙ ap report_of told,
      ap (λ (q : Told). placed q out) told,
    )

-- a run from the start
from_start : (r : Run) → report_from 0 0 r ≡ report_of (record { outcome = answered []; run = r })
from_start r =
    let t : 0 + r.taken ≡ r.taken = omega arith in
    let w : 0 + length r.said ≡ length r.said = omega arith in
    λ j. record { outcome = answered []; course = r.course; taken = t j; written = w j }

placed_start : (r : Run) (out : List ℕ) → placed_from 0 r out ≡ r.said ++ drop (length r.said) out
placed_start r out = rw (zero-add (length r.said))

-- the first answer is printed
module _ (out : List ℕ) (reply : Reply) (k : 33 ≤ length out) (w : ℕ) (is-w : w ≡ place_after (length out) 0 (text_of reply))
    (out' : List ℕ) (is-out : out' ≡ printed out 0 (text_of reply)) where
  w-is : w ≡ 0 + length (text_of reply)
  w-is = is-w ∙ place-printed out 0 reply (omega arith)

  out-is : out' ≡ with_text out 0 (text_of reply)
  out-is = is-out ∙ text-printed out 0 reply (omega arith)

  long-out : length out' ≡ length out
  long-out = rw out-is (long_as out 0 (text_of reply) (printed-within out 0 reply (omega arith)))

  pub filled_within : w ≤ length out'
  filled_within = omega (arith, w-is, long-out, printed-within out 0 reply (omega arith))

-- the first line is answered, and the run goes on behind it
module _ (c : Course) (text out : List ℕ) (end : ℕ) (s : unsound c.standing ≡ false) (e : end ≡ 0 + end_in text) (h : end < length text)
    (k : 33 ≤ length out) (a : Answer) (q : a ≡ answer_of c.standing (c.held ++ take end text)) where
  abbrev behind : Run
  behind = run_on (length out - length (text_of a.reply)) (between a.standing) (lines_in (drop (end + 1) text))

  first_then : run_on (length out) c (lines_in text) ≡ after (end + 1) (text_of a.reply) behind
  first_then =
      let is-end : end_in text ≡ end = omega arith in
      let size : end ≡ length (take end text) = sym (length-take-le end text (omega arith)) in
      let pieces : lines_in text ≡ take end text ∷ lines_in (drop (end + 1) text) =
      first_line text (omega arith) ∙ ap (λ (n : ℕ). take n text ∷ lines_in (drop (n + 1) text)) is-end in
      rw pieces (run-line (length out) c (take end text) (drop (end + 1) text) k)
      ∙ sym (λ j. after (size j + 1) (text_of (q j).reply)
      (run_on (length out - length (text_of (q j).reply)) (between (q j).standing) (lines_in (drop (end + 1) text))))

  told_is : run_of c text (length out) ≡ record { outcome = answered []; run = after (end + 1) (text_of a.reply) behind }
  told_is = told-run c text (length out) s (omega arith) k ∙ ap (λ (r : Run). record { outcome = answered []; run = r }) first_then

  module _ (w : ℕ) (is-w : w ≡ place_after (length out) 0 (text_of a.reply)) (out' : List ℕ) (is-out : out' ≡ printed out 0 (text_of a.reply)) where
    goes_on : run_from a.standing text (end + 1) out' w ≡ behind
    goes_on =
        let at = w-is out a.reply k w is-w out' is-out in
        let long = long-out out a.reply k w is-w out' is-out in
        let left : length out' - w ≡ length out - length (text_of a.reply) = omega arith in
        ap (λ (n : ℕ). run_on n (between a.standing) (lines_in (drop (end + 1) text))) left

    module _ (r : Report) (bytes : List ℕ)
        (is-r : r ≡ report_from (end + 1) w (run_from a.standing text (end + 1) out' w))
        (is-bytes : bytes ≡ placed_from w (run_from a.standing text (end + 1) out' w) out') where
      pub ran-is : (r ≡ report_of (run_of c text (length out))) × (bytes ≡ placed (run_of c text (length out)) out)
      ran-is =
          let t : List ℕ = text_of a.reply in
          let w_at = w-is out a.reply k w is-w out' is-out in
          let moved : end + 1 ≡ 0 + (end + 1) = omega arith in (
            is-r
                ∙ (λ j. report_from (moved j) (w_at j) (goes_on j))
                ∙ sym (report-on 0 0 (end + 1) t behind)
                ∙ from_start (after (end + 1) t behind)
                ∙ ap report_of (sym told_is),
            is-bytes
                ∙ (λ j. placed_from (w_at j) (goes_on j) (out-is out a.reply k w is-w out' is-out j))
                ∙ sym (placed_on 0 0 (end + 1) t behind out (printed-within out 0 a.reply (omega arith)))
                ∙ placed_start (after (end + 1) t behind) out
                ∙ ap (λ (m : Told). placed m out) (sym told_is),
          )

-- the end of the text
module _ (c : Course) (room : ℕ) where
  pub none_left : length c.held ≡ 0 → finish_of c room ≡ record { outcome = answered []; run = still c }
  unfolding finish_of
  none_left e = rw (eq-eqb (length c.held) 0 e)

  pub some_left : (length c.held ≡ 0 → ⊥) → finish_of c room ≡ run_of c (10 ∷ []) room
  unfolding finish_of newline
  some_left e = rw (ne_eqb (length c.held) 0 e)

-- whether a suite is judged unsound, from the answer that it is sound
pub is_unsound : (sound u : Bool) → sound ≡ not u → not sound ≡ true → u ≡ true
is_unsound sound u e t = not-false u (sym e ∙ not-true sound t)

pub is_sound : (sound u : Bool) → sound ≡ not u → not sound ≡ false → u ≡ false
is_sound sound u e t = not-true u (sym e ∙ not-false sound t)
