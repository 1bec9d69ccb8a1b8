-- What makes a neighbour in the plain directory its neighbour.
use Rattle.std.specs.Prelude.{◌≡◌, refl, ◌⊎◌, [], ◌∷◌, Bool, true, false, cond, ◌||◌, ℕ, zero, suc, ◌+◌, min, max, ◌≤◌, ◌<◌, eqb, ltb}
use Rattle.std.proofs.Common.{sym, ◌∙◌, inl, inr, arith, eqb-true, eq-eqb, ltb-true, lt-ltb}
use Rattle.std.proofs.lemmas.Bool.{false≢true}
use Rattle.member.specs.Limits.{largest_name, high}
use Rattle.ideal.specs.Places.{lt_or_le}
use Rattle.history.specs.Directory.{Directory, present, predecessor, successor}

-- Neighbours. A present name below x is no further than the predecessor,
below_reach : (d : Directory) (x n : ℕ) → present d n ≡ true → n < x → suc n ≤ predecessor d x
unfolding present predecessor
below_reach [] x n h l = absurd (false≢true h)
below_reach (i ∷ d) x n h l = go (eqb i.name n) refl h (below_reach d x n) (ltb i.name x) refl
  where
    go : (t : Bool) → eqb i.name n ≡ t → (t || present d n) ≡ true → (present d n ≡ true → n < x → suc n ≤ predecessor d x) →
        (u : Bool) → ltb i.name x ≡ u → suc n ≤ cond u (max (i.name + 1) (predecessor d x)) (predecessor d x)
    go true e k r true w = omega (arith, eqb-true i.name n e)
    go true e k r false w = absurd (false≢true (sym w ∙ lt-ltb i.name x (omega (arith, eqb-true i.name n e))))
    go false e k r true w = omega (arith, r k l)
    go false e k r false w = r k l

-- and the predecessor is no further than all of them allow
below_limit : (d : Directory) (x e : ℕ) → ((n : ℕ) → present d n ≡ true → n < x → suc n ≤ e) → predecessor d x ≤ e
unfolding present predecessor
below_limit [] x e h = omega arith
below_limit (i ∷ d) x e h = go (ltb i.name x) refl (below_limit d x e (λ n k l. h n (also n k (eqb i.name n)) l))
  where
    also : (n : ℕ) → present d n ≡ true → (t : Bool) → (t || present d n) ≡ true
    also n k true = refl
    also n k false = k

    own : (eqb i.name i.name || present d i.name) ≡ true
    own = rw (eq-eqb i.name i.name refl)

    go : (u : Bool) → ltb i.name x ≡ u → predecessor d x ≤ e → cond u (max (i.name + 1) (predecessor d x)) (predecessor d x) ≤ e
    go true w r = omega (arith, h i.name own (ltb-true i.name x w))
    go false w r = r

-- The end e is the predecessor: LOW or a present name, and no name between is present.
pub predecessor_is : (d : Directory) (x e : ℕ) → e ≤ x → ((n : ℕ) → e ≡ suc n → present d n ≡ true) →
    ((m : ℕ) → e ≤ m → m < x → present d m ≡ false) → predecessor d x ≡ e
predecessor_is d x e under there none = let up = below_limit d x e limit in let down = reach e under there in omega arith
  where
    limit : (n : ℕ) → present d n ≡ true → n < x → suc n ≤ e
    limit n k l = go (lt_or_le n e)
      where
        go : (n < e) ⊎ (e ≤ n) → suc n ≤ e
        go (inl a) = a
        go (inr a) = absurd (false≢true (sym (none n a l) ∙ k))

    reach : (e : ℕ) → e ≤ x → ((n : ℕ) → e ≡ suc n → present d n ≡ true) → e ≤ predecessor d x
    reach zero l k = omega arith
    reach (suc n) l k = below_reach d x n (k n refl) l

-- The successor, the mirror image.
above_reach : (d : Directory) (x n : ℕ) → present d n ≡ true → x < n → successor d x ≤ suc n
unfolding present successor
above_reach [] x n h l = absurd (false≢true h)
above_reach (i ∷ d) x n h l = go (eqb i.name n) refl h (above_reach d x n) (ltb x i.name) refl
  where
    go : (t : Bool) → eqb i.name n ≡ t → (t || present d n) ≡ true → (present d n ≡ true → x < n → successor d x ≤ suc n) →
        (u : Bool) → ltb x i.name ≡ u → cond u (min (i.name + 1) (successor d x)) (successor d x) ≤ suc n
    go true e k r true w = omega (arith, eqb-true i.name n e)
    go true e k r false w = absurd (false≢true (sym w ∙ lt-ltb x i.name (omega (arith, eqb-true i.name n e))))
    go false e k r true w = omega (arith, r k l)
    go false e k r false w = r k l

above_limit : (d : Directory) (x e : ℕ) → e ≤ high → ((n : ℕ) → present d n ≡ true → x < n → e ≤ suc n) → e ≤ successor d x
unfolding present successor
above_limit [] x e f h = f
above_limit (i ∷ d) x e f h = go (ltb x i.name) refl (above_limit d x e f (λ n k l. h n (also n k (eqb i.name n)) l))
  where
    also : (n : ℕ) → present d n ≡ true → (t : Bool) → (t || present d n) ≡ true
    also n k true = refl
    also n k false = k

    own : (eqb i.name i.name || present d i.name) ≡ true
    own = rw (eq-eqb i.name i.name refl)

    go : (u : Bool) → ltb x i.name ≡ u → e ≤ successor d x → e ≤ cond u (min (i.name + 1) (successor d x)) (successor d x)
    go true w r = omega (arith, h i.name own (ltb-true x i.name w))
    go false w r = r

below_high : (d : Directory) (x : ℕ) → successor d x ≤ high
unfolding successor
below_high [] x = omega arith
below_high (i ∷ d) x = go (ltb x i.name) (below_high d x)
  where
    go : (u : Bool) → successor d x ≤ high → cond u (min (i.name + 1) (successor d x)) (successor d x) ≤ high
    go true r = omega arith
    go false r = r

-- The end e is the successor: HIGH or a present name, and no name between is present.
pub successor_is : (d : Directory) (x e : ℕ) → suc x < e → e ≤ high → ((n : ℕ) → e ≡ suc n → n ≤ largest_name → present d n ≡ true) →
    ((m : ℕ) → x < m → suc m < e → present d m ≡ false) → successor d x ≡ e
successor_is d x e over fits there none = let down = above_limit d x e fits limit in let up = reach e over fits there in omega arith
  where
    limit : (n : ℕ) → present d n ≡ true → x < n → e ≤ suc n
    limit n k l = go (lt_or_le (suc n) e)
      where
        go : (suc n < e) ⊎ (e ≤ suc n) → e ≤ suc n
        go (inl a) = absurd (false≢true (sym (none n l a) ∙ k))
        go (inr a) = a

    reach : (e : ℕ) → suc x < e → e ≤ high → ((n : ℕ) → e ≡ suc n → n ≤ largest_name → present d n ≡ true) → successor d x ≤ e
    reach zero l f k = absurd (omega arith)
    reach (suc n) l f k = go (lt_or_le largest_name n)
      where
        go : (largest_name < n) ⊎ (n ≤ largest_name) → successor d x ≤ suc n
        go (inl a) = omega (arith, below_high d x)
        go (inr a) = above_reach d x n (k n refl a) (omega arith)
