-- How often the answers of a set, and those of a removal, ask a member.
use Rattle.std.specs.Prelude.{◌≡◌, refl, List, [], ◌∷◌, ◌++◌, Bool, true, false, cond, ℕ, zero, suc, ◌+◌, ◌*◌, ◌/◌, ◌%◌, ◌^◌, ◌<◌, eqb, length}
use Rattle.std.proofs.Common.{subst, arith, eq-eqb, ne_eqb}
use Rattle.std.proofs.Math.Arith.{lt-one}
use Rattle.member.specs.declared.Member.{Member}
use Rattle.suite.specs.Sets.{chosen, exists}
use Rattle.suite.specs.SetLaws.{exists_lt, half}
use Rattle.suite.specs.Suite.{tiles, ballots}
use Rattle.suite.specs.Calls.{remove, Marked, answer_to, asked, asked_of, predecessor, successor, gap_below_in, gap_above_in, round_one, rounds, answers}
use Rattle.suite.specs.declared.Suite.{Suite}
use Rattle.suite.specs.Question.{Question}
use Rattle.suite.specs.Question as question
use Rattle.history.specs.Told.{flag}
use Rattle.history.specs.Asked.{named, askings}

askings-append : (i : ℕ) (a b : List Marked) → askings i (a ++ b) ≡ askings i a + askings i b
unfolding askings
askings-append i [] b = omega arith
askings-append i (x ∷ a) b = go (eqb x.member i) (askings-append i a b)
  where
    go : (t : Bool) → askings i (a ++ b) ≡ askings i a + askings i b →
        cond t (suc (askings i (a ++ b))) (askings i (a ++ b)) ≡ cond t (suc (askings i a)) (askings i a) + askings i b
    go true e = omega arith
    go false e = e

-- no one below the first member asked
askings_before : (q : Question) (i k : ℕ) (l : List Member) (set : ℕ) → i < k → askings i (chosen (asked q k l) set) ≡ 0
unfolding askings chosen asked
askings_before q i k [] set h = refl
askings_before q i k (m ∷ l) set h = go (eqb (set % 2) 1) (askings_before q i (suc k) l (set / 2) (omega arith))
  where
    go : (t : Bool) → askings i (chosen (asked q (suc k) l) (set / 2)) ≡ 0 →
        askings i (cond t (record { member = k; answer = answer_to q m } ∷ chosen (asked q (suc k) l) (set / 2)) (chosen (asked q (suc k) l) (set / 2))) ≡ 0
    go true e = rw (ne_eqb k i (λ w. omega arith)) e
    go false e = e

-- the empty set names no one
none_named : (i : ℕ) → named 0 i ≡ false
unfolding named
none_named zero = refl
none_named (suc i) = none_named i

-- each member that the set names is asked once, and no other
askings_one : (q : Question) (i k : ℕ) (l : List Member) (set : ℕ) → set < 2 ^ length l → askings (k + i) (chosen (asked q k l) set) ≡ flag (named set i)
unfolding askings chosen asked named
askings_one q i k [] set h = rw (lt-one h, none_named i)
askings_one q zero k (m ∷ l) set h = go (eqb (set % 2) 1) (askings_before q (k + 0) (suc k) l (set / 2) (omega arith))
  where
    go : (t : Bool) → askings (k + 0) (chosen (asked q (suc k) l) (set / 2)) ≡ 0 →
        askings (k + 0) (cond t (record { member = k; answer = answer_to q m } ∷ chosen (asked q (suc k) l) (set / 2)) (chosen (asked q (suc k) l) (set / 2))) ≡ flag t
    go true e = rw (eq-eqb k (k + 0) (omega arith), e)
    go false e = e
askings_one q (suc i) k (m ∷ l) set h = go (eqb (set % 2) 1) (askings_one q i (suc k) l (set / 2) (half (length l) set h))
  where
    go : (t : Bool) → askings (suc k + i) (chosen (asked q (suc k) l) (set / 2)) ≡ flag (named (set / 2) i) →
        askings (k + suc i) (cond t (record { member = k; answer = answer_to q m } ∷ chosen (asked q (suc k) l) (set / 2)) (chosen (asked q (suc k) l) (set / 2))) ≡ flag (named (set / 2) i)
    go true e = let at : suc k + i ≡ k + suc i = omega arith in
        rw (ne_eqb k (k + suc i) (λ w. omega arith)) (subst (λ n. askings n (chosen (asked q (suc k) l) (set / 2)) ≡ flag (named (set / 2) i)) at e)
    go false e = let at : suc k + i ≡ k + suc i = omega arith in subst (λ n. askings n (chosen (asked q (suc k) l) (set / 2)) ≡ flag (named (set / 2) i)) at e

module _ (s : Suite) (each : length (tiles s) ≡ length (ballots s)) (i : ℕ) where
  once : (set : ℕ) → exists (ballots s) set ≡ true → (q : Question) → askings i (asked_of s set q) ≡ flag (named set i)
  once set h q =
      let at : 0 + i ≡ i = omega arith in
      subst (λ n. askings n (asked_of s set q) ≡ flag (named set i)) at (askings_one q i 0 (tiles s) set (rw each (exists_lt (ballots s) set h)))

  -- Remove: 'each tile of its read set exactly twice and each of its write set once'
  pub remove-askings : (rs ws x : ℕ) → exists (ballots s) rs ≡ true → exists (ballots s) ws ≡ true →
      askings i (answers s (remove rs ws x)) ≡ 2 * flag (named rs i) + flag (named ws i)
  unfolding answers rounds
  remove-askings rs ws x h k =
      let one = round_one s rs x in
      let q = question.Offers x (gap_below_in one) (gap_above_in one) in
      let l = rounds s rs x in
      let f = question.FitsCoalesce (predecessor l).end (successor l).end in
      let a = askings-append i l (asked_of s ws f) in
      let b = askings-append i one (asked_of s rs q) in
      omega (arith, a, b, once rs h (question.Around x), once rs h q, once ws k f)
