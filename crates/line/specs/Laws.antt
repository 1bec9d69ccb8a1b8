-- Laws of what a line is answered.
use Rattle.std.specs.Prelude.{◌≡◌, refl, List, [], ◌∷◌, Option, None, Some, Bool, true, false, ◌&&◌, ℕ, zero, suc, ◌<◌, ◌≤◌, length, take, leb, ltb}
use Rattle.std.proofs.Common.{sym, arith, length-take, le-leb, ltb-true, ltb-false}
use Rattle.std.proofs.Math.Path.{ap}
use Rattle.std.proofs.Math.Bool.{cond}
use Rattle.std.proofs.lemmas.Bool.{lt-leb}
use Rattle.text.specs.Line.{padded, created as suite_line, longest_line, given_of, command_of, ballots_of}
use Rattle.text.specs.declared.Creation.{Creation}
use Rattle.suite.specs.Sets.{total, all}
use Rattle.suite.specs.Suite.{small_vote, quorum, sound_suite}
use Rattle.suite.specs.Outcome.{Outcome, answered, refused}
use Rattle.suite.specs.OutcomeLaws.{not_both}
use Rattle.suite.specs.Calls.{Call, Result}
use Rattle.suite.specs.Kept.{step_kept}
use Rattle.suite.specs.Create.{fresh_suite, not_created, create_of}
use Rattle.suite.specs.CreateLaws.{created-sound}
use Rattle.suite.specs.declared.Suite.{Suite}
use Rattle.line.specs.Standing.{Standing, Answer, fresh, call_for, on_suite, creation_for, created, without_suite, answer_of}

module _ (t : Standing) (line : List ℕ) where
  abbrev pub on_accepted : Answer
  on_accepted = on_suite t.suite (call_for t.suite (command_of line))

  abbrev pub on_none : Answer
  on_none = without_suite t (creation_for (ballots_of line))

  -- once a suite has been accepted, and before
  pub answer-made : t.made ≡ true → answer_of t line ≡ on_accepted
  unfolding answer_of
  answer-made h = ap (λ (b : Bool). cond b on_accepted on_none) h

  pub answer-unmade : t.made ≡ false → answer_of t line ≡ on_none
  unfolding answer_of
  answer-unmade h = ap (λ (b : Bool). cond b on_accepted on_none) h

-- "`suite R W votes..`": the creation that the line asks for takes all its votes, of which the first eight were kept
kept_votes : (n : ℕ) (votes : List ℕ) → length votes ≤ n → take (length votes) (padded n votes) ≡ votes
unfolding padded
kept_votes zero [] h = refl
kept_votes zero (v ∷ votes) h = absurd (omega arith)
kept_votes (suc n) [] h = refl
kept_votes (suc n) (v ∷ votes) h = ap (λ t. v ∷ t) (kept_votes n votes (omega arith))

pub creation_all : (r w : ℕ) (votes : List ℕ) → creation_for (Some (suite_line r w votes)) ≡ Some (create_of r w votes)
unfolding suite_line create_of
creation_all r w votes = go (ltb 8 (length votes)) refl
  where
    go : (b : Bool) → ltb 8 (length votes) ≡ b
        → ◌≡◌ {A = Option Result} (Some (cond b (not_created 2) (create_of r w (take (length votes) (padded 8 votes))))) (Some (create_of r w votes))
    go true h =
        let n : 8 < length votes = ltb-true 8 (length votes) h in
        rw (le-leb 1 (length votes) (omega arith), lt-leb (length votes) 8 n)
    go false h = rw (kept_votes 8 votes (ltb-false 8 (length votes) h))

-- A suite that was accepted is sound.
abbrev pub Fine : Standing → Type 0
Fine t = t.made ≡ true → sound_suite t.suite ≡ true

-- before any line none was
pub fresh_fine : (s : Suite) → Fine (fresh s)
fresh_fine s h = not_both [] 0 (ap (λ (b : Bool). cond b (refused 0) (answered [])) h)

fine_on : (s : Suite) (c : Option Call) → sound_suite s ≡ true → Fine (on_suite s c).standing
unfolding on_suite
fine_on s None h m = h
fine_on s (Some c) h m = step_kept s c h

-- a creation answers no values
nothing_answered : (r w : ℕ) (votes vs : List ℕ) → (create_of r w votes).outcome ≡ answered vs → (create_of r w votes).outcome ≡ answered []
unfolding create_of
nothing_answered r w votes vs =
    go (leb 1 (length votes) && leb (length votes) 8) (all small_vote votes) (quorum r w (total votes)) (fresh_suite r w votes)
  where
    tested : Bool → Bool → Bool → Suite → Result
    tested a b c s =
        cond a (cond b (cond c (record { outcome = answered []; suite = s }) (not_created 4)) (not_created 3)) (not_created 2)

    go : (a b c : Bool) (s : Suite) → (tested a b c s).outcome ≡ answered vs → (tested a b c s).outcome ≡ answered []
    go false b c s h = not_both vs 2 (sym h)
    go true false c s h = not_both vs 3 (sym h)
    go true true false s h = not_both vs 4 (sym h)
    go true true true s h = refl

fine_created : (t : Standing) (s : Suite) (o : Outcome) → ((vs : List ℕ) → o ≡ answered vs → sound_suite s ≡ true) → Fine t
    → Fine (created t s o).standing
fine_created t s (answered vs) h f = λ m. h vs refl
fine_created t s (refused n) h f = f

fine_without : (t : Standing) (p : Option Creation) → Fine t → Fine (without_suite t (creation_for p)).standing
unfolding without_suite
fine_without t (Some p) f = go (ltb 8 p.count)
  where
    chosen : Bool → Result
    chosen b = cond b (not_created 2) (create_of p.read p.write (take p.count p.votes))

    go : (b : Bool) → Fine (created t (chosen b).suite (chosen b).outcome).standing
    go true = f
    go false =
        let votes = take p.count p.votes in
        let c = create_of p.read p.write votes in
        fine_created t c.suite c.outcome (λ vs h. created-sound p.read p.write votes (nothing_answered p.read p.write votes vs h)) f
fine_without t None f = f

pub answer_kept : (t : Standing) (line : List ℕ) → Fine t → Fine (answer_of t line).standing
answer_kept t line f = go t.made refl
  where
    go : (b : Bool) → t.made ≡ b → Fine (answer_of t line).standing
    go true h = rw (answer-made t line h) (fine_on t.suite (call_for t.suite (command_of line)) (f h))
    go false h = rw (answer-unmade t line h) (fine_without t (ballots_of line) f)

-- "A line over 80 bytes (newline not counted) .. is 14": of a longer line its first 81 bytes say all
pub long_command : (line : List ℕ) → 80 < length line → command_of line ≡ None
unfolding command_of given_of longest_line
long_command line h = rw (lt-leb (length line) 80 h)

pub long_ballots : (line : List ℕ) → 80 < length line → ballots_of line ≡ None
unfolding ballots_of given_of longest_line
long_ballots line h = rw (lt-leb (length line) 80 h)

pub long_line : (t : Standing) (line : List ℕ) → 81 ≤ length line → answer_of t line ≡ answer_of t (take 81 line)
unfolding answer_of
long_line t line h =
    let k : 80 < length (take 81 line) = simp length-take (omega arith) in
    rw (
      long_command line (omega arith),
      long_command (take 81 line) k,
      long_ballots line (omega arith),
      long_ballots (take 81 line) k,
    )
