-- Votes: the weight of a set, and why a read set and a write set share a member.
use Rattle.std.specs.Prelude.{ℕ, zero, suc, ◌+◌, ◌≤◌, ◌<◌, ◌≡◌, refl, Bool, true, false, cond}
use Rattle.std.proofs.lemmas.Bool.{false≢true}
use Rattle.std.proofs.Common.{arith}

-- A set names members: member i is in it where it says true.
abbrev pub In : (ℕ → Bool) → ℕ → Type 0
In s i = s i ≡ true

-- what member i adds to the weight of a set
abbrev pub share : (ℕ → ℕ) → (ℕ → Bool) → ℕ → ℕ
share votes s i = cond (s i) (votes i) 0

-- the votes of the members below n that are in the set
unfoldable pub weight : (ℕ → ℕ) → (ℕ → Bool) → ℕ → ℕ
weight votes s zero = 0
weight votes s (suc n) = weight votes s n + share votes s n

abbrev pub everyone : ℕ → Bool
everyone i = true

-- Votes for the members below `members`, with R + W > V. No more is asked: where W is 0, no set reaches R.
pub record Voting : Type 0 where
  pub members : ℕ
  pub votes : ℕ → ℕ
  pub R : ℕ
  pub W : ℕ
  pub overlap : weight votes everyone members < R + W

abbrev pub weight_in : Voting → (ℕ → Bool) → ℕ
weight_in q s = weight q.votes s q.members

-- 'R votes make a read set, W votes a write set'
abbrev pub Reads : Voting → (ℕ → Bool) → Type 0
Reads q s = q.R ≤ weight_in q s

abbrev pub Writes : Voting → (ℕ → Bool) → Type 0
Writes q s = q.W ≤ weight_in q s

-- a larger set weighs no less
pub weight_mono : (votes : ℕ → ℕ) (a b : ℕ → Bool) (n : ℕ) → ((i : ℕ) → i < n → In a i → In b i) →
    weight votes a n ≤ weight votes b n
unfolding weight
weight_mono votes a b zero sub = omega arith
weight_mono votes a b (suc n) sub = step (weight_mono votes a b n (λ i l. sub i (omega arith))) (a n) (b n) (sub n (omega arith))
  where
    step : weight votes a n ≤ weight votes b n → (s t : Bool) → (s ≡ true → t ≡ true) →
        weight votes a n + cond s (votes n) 0 ≤ weight votes b n + cond t (votes n) 0
    step h true true f = omega arith
    step h true false f = absurd (false≢true (f refl))
    step h false true f = omega arith
    step h false false f = omega arith

-- two sets that together outweigh all members share one
pub meet : (votes : ℕ → ℕ) (a b : ℕ → Bool) (n : ℕ) → weight votes everyone n < weight votes a n + weight votes b n →
    (i : ℕ) × (i < n) × In a i × In b i
unfolding weight
meet votes a b zero h = absurd (omega arith)
meet votes a b (suc n) h = step (meet votes a b n) (a n) (b n) refl refl h
  where
    Shared : ℕ → Type 0
    Shared m = (i : ℕ) × (i < m) × In a i × In b i

    later : Shared n → Shared (suc n)
    later s = (s.0, omega (arith, s.1), s.2, s.3)

    step : (weight votes everyone n < weight votes a n + weight votes b n → Shared n) → (s t : Bool) → a n ≡ s → b n ≡ t →
        weight votes everyone n + votes n < weight votes a n + cond s (votes n) 0 + (weight votes b n + cond t (votes n) 0) →
        Shared (suc n)
    step rec true true p q k = (n, omega arith, p, q)
    step rec true false p q k = later (rec (omega arith))
    step rec false true p q k = later (rec (omega arith))
    step rec false false p q k = later (rec (omega arith))

-- a read set and a set that reaches W share a member
pub shared : (q : Voting) (s t : ℕ → Bool) → Reads q s → Writes q t → (i : ℕ) × (i < q.members) × In s i × In t i
shared q s t r w = meet q.votes s t q.members (omega (arith, q.overlap))
