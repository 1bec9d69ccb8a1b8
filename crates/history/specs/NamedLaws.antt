-- Laws of which members a set names, by number.
use Rattle.std.specs.Prelude.{◌≡◌, refl, List, [], ◌∷◌, Bool, true, false, cond, ℕ, zero, suc, ◌/◌, ◌%◌, ◌<◌, eqb, length, get_or}
use Rattle.std.proofs.Math.Bool.{and-eq-true_iff}
use Rattle.std.proofs.Common.{arith}
use Rattle.suite.specs.Sets.{chosen, changed, all}
use Rattle.history.specs.Asked.{named}

-- what a change leaves at each number
pub changed_at : {A : Type 0} (f : A → A) (d : A) (l : List A) (set i : ℕ) → i < length l →
    get_or (changed f l set) i d ≡ cond (named set i) (f (get_or l i d)) (get_or l i d)
unfolding changed named
changed_at f d [] set i h = absurd (omega arith)
changed_at f d (a ∷ l) set zero h = refl
changed_at f d (a ∷ l) set (suc i) h = changed_at f d l (set / 2) i (omega arith)

-- a test that all of the set pass, each of it passes
pub all_at : {A : Type 0} (f : A → Bool) (d : A) (l : List A) (set i : ℕ) → all f (chosen l set) ≡ true → i < length l →
    named set i ≡ true → f (get_or l i d) ≡ true
unfolding all chosen named
all_at f d [] set i h k n = absurd (omega arith)
all_at f d (a ∷ l) set zero h k n = ((and-eq-true_iff (f a) (all f (chosen l (set / 2)))).0 (rw n at h)).0
all_at f d (a ∷ l) set (suc i) h k n = all_at f d l (set / 2) i (go (eqb (set % 2) 1) h) (omega arith) n
  where
    go : (t : Bool) → all f (cond t (a ∷ chosen l (set / 2)) (chosen l (set / 2))) ≡ true → all f (chosen l (set / 2)) ≡ true
    go true e = ((and-eq-true_iff (f a) (all f (chosen l (set / 2)))).0 e).1
    go false e = e

pub all-each : {A : Type 0} (f : A → Bool) (d : A) (l : List A) (i : ℕ) → all f l ≡ true → i < length l → f (get_or l i d) ≡ true
unfolding all
all-each f d [] i h k = absurd (omega arith)
all-each f d (a ∷ l) zero h k = ((and-eq-true_iff (f a) (all f l)).0 h).0
all-each f d (a ∷ l) (suc i) h k = all-each f d l i ((and-eq-true_iff (f a) (all f l)).0 h).1 (omega arith)
