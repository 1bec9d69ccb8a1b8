-- What an outcome that is as told says.
use Rattle.std.specs.Prelude.{◌≡◌, refl, List, [], ◌∷◌, Bool, true, false, ◌&&◌, ℕ, ◌/◌, ◌^◌, length, eqb, ltb}
use Rattle.std.proofs.Common.{sym, ◌∙◌, arith, eqb-true, eq-eqb, ne_eqb, le-ltb}
use Rattle.std.proofs.Math.Path.{ap}
use Rattle.std.proofs.Math.Bool.{cond}
use Rattle.std.proofs.Math.Nat.{zero-div}
use Rattle.member.specs.Limits.{largest_name}
use Rattle.member.specs.declared.Member.{Member}
use Rattle.suite.specs.Sets.{chosen, exists, votes_of, all}
use Rattle.suite.specs.SetLaws.{chosen_none}
use Rattle.suite.specs.Suite.{tiles, ballots}
use Rattle.std.proofs.lemmas.Bool.{eqb-false}
use Rattle.suite.specs.Outcome.{answered, refused}
use Rattle.suite.specs.OutcomeLaws.{refused_is, not_both}
use Rattle.suite.specs.Calls.{Call, judged_votes, judged, passed}
use Rattle.suite.specs.declared.Suite.{Suite}
use Rattle.history.specs.Directory.{Directory}
use Rattle.history.specs.Told.{limits, first, refusal_of, read_refusal, flag, values_of, told_of}

answered_is : (os vs : List ℕ) → answered os ≡ answered vs → vs ≡ os
answered_is os vs e = cc

passed_answered : (n : ℕ) (os vs : List ℕ) → passed n (answered os) ≡ answered vs → (n ≡ 0) × (vs ≡ os)
passed_answered n os vs = go (eqb n 0) refl
  where
    go : (t : Bool) → eqb n 0 ≡ t → cond t (answered os) (refused n) ≡ answered vs → (n ≡ 0) × (vs ≡ os)
    go true e h = (eqb-true n 0 e, answered_is os vs h)
    go false e h = not_both vs n (sym h)

passed_refused : (k : ℕ) (os : List ℕ) (n : ℕ) → passed k (answered os) ≡ refused n → (k ≡ n) × (n ≡ 0 → ⊥)
passed_refused k os n = go (eqb k 0) refl
  where
    go : (t : Bool) → eqb k 0 ≡ t → cond t (answered os) (refused k) ≡ refused n → (k ≡ n) × (n ≡ 0 → ⊥)
    go true e h = not_both os n h
    go false e h = let q = refused_is k n h in (q, λ z. eqb-false k 0 e (q ∙ z))

module _ (s : Suite) (d : Directory) (c : Call) where
  pub answered-told : (vs : List ℕ) → told_of s d c ≡ answered vs → (refusal_of s d c ≡ 0) × (vs ≡ values_of s d c)
  unfolding told_of
  answered-told vs e = passed_answered (refusal_of s d c) (values_of s d c) vs e

  pub values : (vs : List ℕ) → told_of s d c ≡ answered vs → vs ≡ values_of s d c
  values vs e = (answered-told vs e).1

  pub told-answered : refusal_of s d c ≡ 0 → told_of s d c ≡ answered (values_of s d c)
  unfolding told_of
  told-answered e = ap (λ n. passed n (answered (values_of s d c))) e

  pub refused-told : (n : ℕ) → told_of s d c ≡ refused n → (refusal_of s d c ≡ n) × (n ≡ 0 → ⊥)
  unfolding told_of
  refused-told n e = passed_refused (refusal_of s d c) (values_of s d c) n e

  pub told-refused : (n : ℕ) → (refusal_of s d c ≡ n) × (n ≡ 0 → ⊥) → told_of s d c ≡ refused n
  unfolding told_of
  told-refused n (e, z) = ap (λ k. passed k (answered (values_of s d c))) e ∙ ap (λ t. cond t (answered (values_of s d c)) (refused n)) (ne_eqb n 0 z)

-- an absent name's answer
pub absent_values : (p : Bool) (x v q : ℕ) → p ≡ false → x ≡ 0 → flag p ∷ v ∷ x ∷ q ∷ [] ≡ 0 ∷ v ∷ 0 ∷ q ∷ []
absent_values p x v q e f = λ j. flag (e j) ∷ v ∷ f j ∷ q ∷ []

-- a call without a write set fits everywhere, and needs no votes there
pub nothing_written : (s : Suite) → all (λ (m : Member). true) (chosen (tiles s) 0) ≡ true
unfolding all
nothing_written s = ap (all (λ (m : Member). true)) (chosen_none (tiles s))

pub reading-refusal : (s : Suite) (rs x : ℕ) →
    first (judged (ballots s) s.read 0 x 0 rs 0) (first 0 (limits 0 (all (λ (m : Member). true) (chosen (tiles s) 0)))) ≡
    read_refusal s rs x
unfolding judged judged_votes
reading-refusal s rs x =
    rw (nothing_written s, le-ltb (votes_of (ballots s) 0) 0 (omega arith), none-exists (ballots s))
    (go (ltb largest_name x) (exists (ballots s) rs) (ltb (votes_of (ballots s) rs) s.read))
  where
    none-exists : (votes : List ℕ) → exists votes 0 ≡ true
    none-exists votes = eq-eqb (0 / 2 ^ length votes) 0 (zero-div (2 ^ length votes))

    go : (a b c : Bool) → first (cond a 5 (cond (b && true) (cond c 8 0) 7)) 0 ≡ cond a 5 (cond b (cond c 8 0) 7)
    go true b c = refl
    go false true true = refl
    go false true false = refl
    go false false c = refl
