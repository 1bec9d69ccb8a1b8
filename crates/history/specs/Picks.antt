-- The best of a set's answers, by the number of the member that gave it: one fold for lookup, round one and round two.
use Rattle.std.specs.Prelude.{◌≡◌, ◌⊎◌, Bool, false, cond, eqb, ltb, length, get_or}
use Rattle.std.proofs.Math.Path.{refl}
use Rattle.std.proofs.Common.{sym, subst, ◌∙◌, inr, arith, ltb-true, ltb-false, lt-ltb, le-ltb}
use Rattle.std.proofs.Math.Logic.{inl}
use mathlib.Core.List.{List, [], ◌∷◌, map}
use Rattle.std.proofs.Math.Bool.{true}
use Rattle.std.proofs.lemmas.Bool.{false≢true}
use Prim.Native.Nat.{ℕ, zero, suc, ◌/◌, ◌%◌, ◌<◌}
use Rattle.suite.specs.Best.{best, best_from}
use Rattle.suite.specs.Sets.{chosen}
use Rattle.ideal.specs.Best.{Best}
use Rattle.ideal.specs.Votes.{In}
use Rattle.history.specs.Asked.{named}

-- what `beats` must obey for the first unbeaten answer to be the best
pub record Ranking {A : Type 0} (beats : A → A → Bool) : Type 0 where
  pub one_way : (b a : A) → beats b a ≡ true → beats a b ≡ false
  pub past : (b a c : A) → beats b a ≡ true → beats c a ≡ false → beats b c ≡ true

-- i is the member of the set whose answer none beats, and the lowest-numbered such
pub record Pick {A B : Type 0} (beats : A → A → Bool) (f : B → A) (e : B) (l : List B) (set i : ℕ) : Type 0 where
  pub exists : i < length l
  pub chosen : named set i ≡ true
  pub greatest : (j : ℕ) → j < length l → named set j ≡ true → beats (f (get_or l j e)) (f (get_or l i e)) ≡ false
  pub lowest : (j : ℕ) → j < i → named set j ≡ true → beats (f (get_or l i e)) (f (get_or l j e)) ≡ true

module _ {A B : Type 0} {beats : A → A → Bool} (o : Ranking beats) (f : B → A) (e : B) where
  -- no member of the set beats a
  abbrev Unbeaten : A → List B → ℕ → Type 0
  Unbeaten a l set = (j : ℕ) → j < length l → named set j ≡ true → beats (f (get_or l j e)) a ≡ false

  -- r is a, which none beats, or the pick of the set, which beats a
  abbrev From : A → List B → ℕ → A → Type 0
  From a l set r = (Unbeaten a l set × (r ≡ a)) ⊎ ((i : ℕ) × Pick beats f e l set i × (beats (f (get_or l i e)) a ≡ true) × (r ≡ f (get_or l i e)))

  self : (a : A) → beats a a ≡ false
  self a = go (beats a a) refl
    where
      go : (t : Bool) → beats a a ≡ t → beats a a ≡ false
      go true h = o.one_way a a h
      go false h = h

  -- the first member and the others
  both : (b : B) (l : List B) (set : ℕ) (a : A) → (named set 0 ≡ true → beats (f b) a ≡ false) → Unbeaten a l (set / 2) → Unbeaten a (b ∷ l) set
  unfolding named
  both b l set a h k zero m n = h n
  both b l set a h k (suc j) m n = k j (omega arith) n

  here : (b : B) (l : List B) (set : ℕ) → named set 0 ≡ true → Unbeaten (f b) l (set / 2) → Pick beats f e (b ∷ l) set 0
  here b l set n k =
      record {
        exists = omega arith;
        chosen = n;
        greatest = both b l set (f b) (λ _. self (f b)) k;
        lowest = λ j m. absurd (omega arith);
      }

  later : (b : B) (l : List B) (set i : ℕ) → Pick beats f e l (set / 2) i → (named set 0 ≡ true → beats (f (get_or l i e)) (f b) ≡ true) →
      Pick beats f e (b ∷ l) set (suc i)
  unfolding named
  later b l set i p h =
      record {
        exists = omega (arith, p.exists);
        chosen = p.chosen;
        greatest = both b l set (f (get_or l i e)) (λ n. o.one_way (f (get_or l i e)) (f b) (h n)) p.greatest;
        lowest = low;
      }
    where
      low : (j : ℕ) → j < suc i → named set j ≡ true → beats (f (get_or l i e)) (f (get_or (b ∷ l) j e)) ≡ true
      low zero m n = h n
      low (suc j) m n = p.lowest j (omega arith) n

  -- the first member does not count, or does not beat a
  kept : (a : A) (b : B) (l : List B) (set : ℕ) → (named set 0 ≡ true → beats (f b) a ≡ false) → (r : A) → From a l (set / 2) r →
      From a (b ∷ l) set r
  kept a b l set h r (inl (k, q)) = inl (both b l set a h k, q)
  kept a b l set h r (inr (i, p, w, q)) = inr (suc i, later b l set i p (λ n. o.past (f (get_or l i e)) a (f b) w (h n)), w, q)

  -- the first member beats a
  taken : (a : A) (b : B) (l : List B) (set : ℕ) → named set 0 ≡ true → beats (f b) a ≡ true → (r : A) → From (f b) l (set / 2) r →
      From a (b ∷ l) set r
  taken a b l set n u r (inl (k, q)) = inr (0, here b l set n k, u, q)
  taken a b l set n u r (inr (i, p, w, q)) =
      inr (suc i, later b l set i p (λ _. w), o.past (f (get_or l i e)) (f b) a w (o.one_way (f b) a u), q)

  from : (a : A) (l : List B) (set : ℕ) → From a l set (best_from beats a (map f (chosen l set)))
  unfolding best_from chosen named
  from a [] set = inl (λ j m. absurd (omega arith), refl)
  from a (b ∷ l) set = go (eqb (set % 2) 1) refl (beats (f b) a) refl (from a l (set / 2)) (from (f b) l (set / 2))
    where
      rest : List B
      rest = chosen l (set / 2)

      go : (t : Bool) → eqb (set % 2) 1 ≡ t → (u : Bool) → beats (f b) a ≡ u → From a l (set / 2) (best_from beats a (map f rest)) →
          From (f b) l (set / 2) (best_from beats (f b) (map f rest)) →
          From a (b ∷ l) set (best_from beats a (map f (cond t (b ∷ rest) rest)))
      go false n u w x y = kept a b l set (λ m. absurd (false≢true (sym n ∙ m))) (best_from beats a (map f rest)) x
      go true n u w x y = subst (λ z. From a (b ∷ l) set (best_from beats (cond z (f b) a) (map f rest))) (sym w) (on u w)
        where
          on : (u : Bool) → beats (f b) a ≡ u → From a (b ∷ l) set (best_from beats (cond u (f b) a) (map f rest))
          on true w = taken a b l set n w (best_from beats (f b) (map f rest)) y
          on false w = kept a b l set (λ _. w) (best_from beats a (map f rest)) x

  -- The best of the answers of a set that names someone.
  pub pick : (d : A) (l : List B) (set j : ℕ) → j < length l → named set j ≡ true →
      (i : ℕ) × Pick beats f e l set i × (best beats d (map f (chosen l set)) ≡ f (get_or l i e))
  unfolding best chosen named
  pick d [] set j h n = absurd (omega arith)
  pick d (b ∷ l) set j h n = go (eqb (set % 2) 1) refl j h n (λ k m. pick d l (set / 2) k m)
    where
      rest : List B
      rest = chosen l (set / 2)

      Picked : (l : List B) → ℕ → A → Type 0
      Picked l set r = (i : ℕ) × Pick beats f e l set i × (r ≡ f (get_or l i e))

      first : named set 0 ≡ true → (r : A) → From (f b) l (set / 2) r → Picked (b ∷ l) set r
      first m r (inl (k, q)) = (0, here b l set m k, q)
      first m r (inr (i, p, w, q)) = (suc i, later b l set i p (λ _. w), q)

      other : named set 0 ≡ false → (r : A) → Picked l (set / 2) r → Picked (b ∷ l) set r
      other m r (i, p, q) = (suc i, later b l set i p (λ t. absurd (false≢true (sym m ∙ t))), q)

      go : (t : Bool) → eqb (set % 2) 1 ≡ t → (j : ℕ) → j < suc (length l) → named set j ≡ true →
          ((k : ℕ) → k < length l → named (set / 2) k ≡ true → Picked l (set / 2) (best beats d (map f rest))) →
          Picked (b ∷ l) set (best beats d (map f (cond t (b ∷ rest) rest)))
      go true m j h n r = first m (best_from beats (f b) (map f rest)) (from (f b) l (set / 2))
      go false m zero h n r = absurd (false≢true (sym m ∙ n))
      go false m (suc j) h n r = other m (best beats d (map f rest)) (r j (omega arith) n)

-- By a number: the higher key beats.
abbrev pub by_key : {A : Type 0} → (A → ℕ) → A → A → Bool
by_key key b a = ltb (key a) (key b)

pub key_ranks : {A : Type 0} (key : A → ℕ) → Ranking (by_key key)
key_ranks key =
    record {
      one_way = λ b a h. le-ltb (key b) (key a) (omega (arith, ltb-true (key a) (key b) h));
      past = λ b a c h k. lt-ltb (key c) (key b) (omega (arith, ltb-true (key a) (key b) h, ltb-false (key a) (key c) k));
    }

pub key_best : {A B : Type 0} (key : A → ℕ) (f : B → A) (e : B) (l : List B) (set i : ℕ) → Pick (by_key key) f e l set i →
    Best (λ j. key (f (get_or l j e))) (In (named set)) (length l) i
key_best key f e l set i p =
    record {
      exists = p.exists;
      chosen = p.chosen;
      greatest = λ j m n. ltb-false (key (f (get_or l i e))) (key (f (get_or l j e))) (p.greatest j m n);
      lowest = λ j m n. ltb-true (key (f (get_or l j e))) (key (f (get_or l i e))) (p.lowest j m n);
    }
