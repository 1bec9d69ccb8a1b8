-- The run over the lines of a chunk: what is said so far, joined to the run over the rest of the text, is the run over all of it.
-- Assumes nothing.
use mathlib.Core.Path.{◌≡◌, refl, sym, ◌∙◌, ap}
use Prim.Native.Nat.{ℕ, ◌+◌, ◌-◌, ◌≤◌, ◌<◌}
use native.Mathlib.Omega.{arith}
use mathlib.Core.List.{List, [], ◌∷◌, ◌++◌, append_assoc}
use lib.ListN.{length, take, drop, length-append, length-drop, take-append-drop}
use lib.Seq.{take_at, drop_at, drop-drop, take_all, length-take-le}
use Rattle.text.specs.Answer.{text_of, place_after, printed}
use Rattle.text.specs.declared.Reply.{Reply}
use Rattle.text.proofs.Longest.{longest, longest_fits}
use Rattle.suite.specs.Outcome.{answered}
use Rattle.line.specs.Standing.{Standing, Answer, answer_of}
use Rattle.run.specs.Course.{lines_in, end_in, Course, Run, holding, between, still, after, run_on}
use Rattle.run.specs.Lent.{run_from, report_from, placed_from}
use Rattle.run.specs.LineLaws.{no_newline, first_line}
use Rattle.run.specs.RunLaws.{run-stop, run-line, run-last}

-- where the longest answer has room, an answer is printed
module _ (out : List ℕ) (at : ℕ) (reply : Reply) (h : at + 33 ≤ length out) where
  pub place-printed : place_after (length out) at (text_of reply) ≡ at + length (text_of reply)
  unfolding place_after
  place-printed = rw (longest_fits (length out) at reply h)

  pub text-printed : printed out at (text_of reply) ≡ take at out ++ (text_of reply ++ drop (at + length (text_of reply)) out)
  unfolding printed
  text-printed = rw (longest_fits (length out) at reply h)

  pub printed-within : at + length (text_of reply) ≤ length out
  printed-within = omega (arith, longest reply)

-- an output with a text at a place
abbrev pub with_text : List ℕ → ℕ → List ℕ → List ℕ
with_text out at text = take at out ++ (text ++ drop (at + length text) out)

regroup : (a b c d : List ℕ) → a ++ ((b ++ c) ++ d) ≡ (a ++ b) ++ (c ++ d)
regroup a b c d = simp append_assoc

pub long_as : (out : List ℕ) (at : ℕ) (text : List ℕ) → at + length text ≤ length out → length (with_text out at text) ≡ length out
long_as out at text h =
    rw (length-append, length-append text)
    (omega (arith, length-take-le at out (omega arith), length-drop (at + length text) out))

module _ (at written n : ℕ) (text : List ℕ) (r : Run) where
  pub report-on : report_from at written (after n text r) ≡ report_from (at + n) (written + length text) r
  report-on =
      let t : at + (n + r.taken) ≡ at + n + r.taken = omega arith in
      let w : written + length (text ++ r.said) ≡ written + length text + length r.said = rw length-append (omega arith) in
      λ j. record { outcome = answered []; course = r.course; taken = t j; written = w j }

  pub placed_on : (out : List ℕ) → written + length text ≤ length out
      → placed_from written (after n text r) out ≡ placed_from (written + length text) r (with_text out written text)
  placed_on out h =
      let k : ℕ = written + length text in
      let front : length (take written out ++ text) ≡ k =
      rw length-append (omega (arith, length-take-le written out (omega arith))) in
      let joined : with_text out written text ≡ (take written out ++ text) ++ drop k out =
      sym (append_assoc (take written out) text (drop k out)) in
      let size : written + length (text ++ r.said) ≡ k + length r.said = rw length-append (omega arith) in
      let a : take k (with_text out written text) ≡ take written out ++ text =
      rw joined (take_at (take written out ++ text) (drop k out) k front) in
      let b : drop (k + length r.said) (with_text out written text) ≡ drop (k + length r.said) out =
      sym (drop-drop (length r.said) k (with_text out written text))
      ∙ ap (drop (length r.said)) (rw joined (drop_at (take written out ++ text) (drop k out) k front))
      ∙ drop-drop (length r.said) k out in
      ap (λ (m : ℕ). take written out ++ ((text ++ r.said) ++ drop m out)) size
      ∙ regroup (take written out) text r.said (drop (k + length r.said) out)
      ∙ sym (λ j. a j ++ (r.said ++ b j))

-- where the run over the lines has come to
pub record Going (text : List ℕ) (s₀ : Standing) (from : ℕ) (out₀ : List ℕ) (filled : ℕ) (s : Standing) (at : ℕ) (out : List ℕ) (written : ℕ) : Type 0 where
  pub place : at ≤ length text
  pub room : written ≤ length out
  pub long : length out ≡ length out₀
  pub report : report_from at written (run_from s text at out written) ≡ report_from from filled (run_from s₀ text from out₀ filled)
  pub bytes : placed_from written (run_from s text at out written) out ≡ placed_from filled (run_from s₀ text from out₀ filled) out₀

pub begin : (text : List ℕ) (s : Standing) (from : ℕ) (out : List ℕ) (filled : ℕ) → from ≤ length text → filled ≤ length out
    → Going text s from out filled s from out filled
begin text s from out filled h k = record { place = h; room = k; long = refl; report = refl; bytes = refl }

module _ {text : List ℕ} {s₀ : Standing} {from : ℕ} {out₀ : List ℕ} {filled : ℕ} {s : Standing} {at : ℕ} {out : List ℕ} {written : ℕ}
    (g : Going text s₀ from out₀ filled s at out written) where
  -- no newline is left, and what is left is held
  module _ (h : at + end_in (drop at text) ≡ length text) where
    last-piece : run_from s text at out written ≡ record { course = holding (between s) (drop at text); taken = length (drop at text); said = [] }
    last-piece =
        let all : end_in (drop at text) ≡ length (drop at text) = omega (arith, length-drop at text) in
        rw (no_newline (drop at text) all) (run-last (length out - written) (between s) (drop at text) [])

    pub exhausted : (c : Course) → c ≡ holding (between s) (take (length text - at) (drop at text))
        → (record { outcome = answered []; course = c; taken = length text; written = written }
        ≡ report_from from filled (run_from s₀ text from out₀ filled))
        × (out ≡ placed_from filled (run_from s₀ text from out₀ filled) out₀)
    exhausted c e =
        let t : length text ≡ at + length (drop at text) = omega (arith, length-drop at text, g.place) in
        let w : written ≡ written + 0 = omega arith in
        let whole : take (length text - at) (drop at text) ≡ drop at text = take_all (length text - at) (drop at text) (omega (arith, length-drop at text)) in
        let held : c ≡ holding (between s) (drop at text) = e ∙ ap (holding (between s)) whole in (
          (λ j. record { outcome = answered []; course = held j; taken = t j; written = w j })
              ∙ ap (report_from at written) (sym last-piece)
              ∙ g.report,
          sym (take-append-drop written out)
              ∙ ap (λ (n : ℕ). take written out ++ drop n out) w
              ∙ ap (λ (r : Run). placed_from written r out) (sym last-piece)
              ∙ g.bytes,
        )

  -- a line ends at `end`
  module _ (end : ℕ) (next : end ≡ at + end_in (drop at text)) (h : end < length text) where
    line-is : lines_in (drop at text) ≡ take (end - at) (drop at text) ∷ lines_in (drop (end + 1) text)
    line-is =
        let size : end_in (drop at text) ≡ end - at = omega arith in
        let short : end_in (drop at text) < length (drop at text) = omega (arith, length-drop at text) in
        let behind : at + (end_in (drop at text) + 1) ≡ end + 1 = omega arith in
        first_line (drop at text) short
        ∙ (λ j. take (size j) (drop at text) ∷ lines_in ((drop-drop (end_in (drop at text) + 1) at text ∙ ap (λ (n : ℕ). drop n text) behind) j))

    -- its answer has no room: what is returned is what the whole run comes to
    module _ (k : length out - written < 33) where
      no_room : run_from s text at out written ≡ still (between s)
      no_room = rw line-is (run-stop (length out - written) (between s) (take (end - at) (drop at text)) (drop (end + 1) text) k)

      pub stopped : (c : Course) → c ≡ between s
          → (record { outcome = answered []; course = c; taken = at; written = written } ≡ report_from from filled (run_from s₀ text from out₀ filled))
          × (out ≡ placed_from filled (run_from s₀ text from out₀ filled) out₀)
      stopped c e =
          let t : at ≡ at + 0 = omega arith in
          let w : written ≡ written + 0 = omega arith in (
            (λ j. record { outcome = answered []; course = e j; taken = t j; written = w j })
                ∙ ap (report_from at written) (sym no_room)
                ∙ g.report,
            sym (take-append-drop written out)
                ∙ ap (λ (n : ℕ). take written out ++ drop n out) w
                ∙ ap (λ (r : Run). placed_from written r out) (sym no_room)
                ∙ g.bytes,
          )

    -- it is answered
    module _ (k : 33 ≤ length out - written) (a : Answer) (e : a ≡ answer_of s (take (end - at) (drop at text))) where
      answered-line : run_from s text at out written
          ≡ after (end - at + 1) (text_of a.reply)
          (run_on (length out - written - length (text_of a.reply)) (between a.standing) (lines_in (drop (end + 1) text)))
      answered-line =
          let size : end - at ≡ length (take (end - at) (drop at text)) =
          sym (length-take-le (end - at) (drop at text) (omega (arith, length-drop at text))) in
          rw line-is (run-line (length out - written) (between s) (take (end - at) (drop at text)) (drop (end + 1) text) k)
          ∙ sym (λ j. after (size j + 1) (text_of (e j).reply)
          (run_on (length out - written - length (text_of (e j).reply)) (between (e j).standing) (lines_in (drop (end + 1) text))))

      step-on : Going text s₀ from out₀ filled a.standing (end + 1) (with_text out written (text_of a.reply)) (written + length (text_of a.reply))
      step-on =
          let t : List ℕ = text_of a.reply in
          let fits : written + length t ≤ length out = printed-within out written a.reply (omega (arith, g.room)) in
          let long : length (with_text out written t) ≡ length out = long_as out written t fits in
          let left : length out - written - length t ≡ length (with_text out written t) - (written + length t) = omega arith in
          let moved : at + (end - at + 1) ≡ end + 1 = omega arith in
          let r : Run = run_from a.standing text (end + 1) (with_text out written t) (written + length t) in
          let whole : run_from s text at out written ≡ after (end - at + 1) t r =
          answered-line
          ∙ ap (λ (m : ℕ). after (end - at + 1) t (run_on m (between a.standing) (lines_in (drop (end + 1) text)))) left in
          record {
            place = omega arith;
            room = omega arith;
            long = long ∙ g.long;
            report =
                ap (λ (m : ℕ). report_from m (written + length t) r) (sym moved)
                ∙ sym (report-on at written (end - at + 1) t r)
                ∙ ap (report_from at written) (sym whole)
                ∙ g.report;
            bytes =
                sym (placed_on at written (end - at + 1) t r out fits)
                ∙ ap (λ (q : Run). placed_from written q out) (sym whole)
                ∙ g.bytes;
          }

      pub step : (out' : List ℕ) (written' : ℕ) → written' ≡ place_after (length out) written (text_of a.reply)
          → out' ≡ printed out written (text_of a.reply) → Going text s₀ from out₀ filled a.standing (end + 1) out' written'
      step out' written' w o =
          let room : written + 33 ≤ length out = omega (arith, g.room) in
          rw (o ∙ text-printed out written a.reply room, w ∙ place-printed out written a.reply room) step-on
