-- Loops that read one thing after another: what was read so far, and what is left to read.
-- Assumes nothing.
use Prim.Native.Nat.{ℕ, zero, suc, ◌+◌, ◌-◌, ◌≤◌, ◌<◌}
use native.Mathlib.Omega.{arith}
use native.Mathlib.Nat.{sub-zero, suc-sub-suc}
use mathlib.Core.Path.{◌≡◌, refl, sym, ap, ap₂, ◌∙◌}
use mathlib.Core.List.{List, [], ◌∷◌, ◌++◌, append_assoc, append-nil}
use lib.ListN.{length, get_or, take, drop, set, replicate, length-append}
use lib.Seq.{set_at, get_or-append_seam}
use Rattle.image.specs.Reader.{Taken, took, fault, then, several, each}

-- what is read next goes behind what was read before
unfoldable pub behind : {A : Type 0} → List A → Taken (List A) → Taken (List A)
behind done (took l at) = took (done ++ l) at
behind done (fault n) = fault n

behind-behind : {A : Type 0} (a b : List A) (t : Taken (List A)) → behind a (behind b t) ≡ behind (a ++ b) t
unfolding behind
behind-behind a b (took l at) = ap (λ m. took m at) (sym (append_assoc a b l))
behind-behind a b (fault n) = refl

-- `done` was read, and what is left is read with the number x from bit `at` on
pub record SoFar {A : Type 0} (read : ℕ → ℕ → Taken A) (next : A → ℕ) (k x₀ at₀ : ℕ) (done : List A) (x at i : ℕ) : Type 0 where
  pub many : length done ≡ i
  pub few : i ≤ k
  pub rest : several read next k x₀ at₀ ≡ behind done (several read next (k - i) x at)

module _ {A : Type 0} (read : ℕ → ℕ → Taken A) (next : A → ℕ) where
  one_more : (k x at n : ℕ) (a : A) → read x at ≡ took a n
      → several read next (suc k) x at ≡ behind (a ∷ []) (several read next k (next a) n)
  unfolding several then behind
  one_more k x at n a e = rw e (go (several read next k (next a) n))
    where
      go : (t : Taken (List A)) → then t (λ l m. took (a ∷ l) m) ≡ behind (a ∷ []) t
      go (took l m) = refl
      go (fault f) = refl

  -- a number of turns that is not 0
  turns : (k i : ℕ) → i < k → k - i ≡ suc (k - (i + 1))
  turns k i h = omega arith

  module _ (k x₀ at₀ : ℕ) where
    pub far-start : SoFar read next k x₀ at₀ [] x₀ at₀ 0
    unfolding behind
    far-start = record { many = refl; few = omega arith; rest = ap (λ (n : ℕ). several read next n x₀ at₀) (sym (sub-zero k)) ∙ go (several read next (k - 0) x₀ at₀) }
      where
        go : (t : Taken (List A)) → t ≡ behind [] t
        go (took l m) = refl
        go (fault f) = refl

    pub far-more : (done : List A) (x at i n : ℕ) (a : A) → SoFar read next k x₀ at₀ done x at i → i < k → took a n ≡ read x at
        → SoFar read next k x₀ at₀ (done ++ (a ∷ [])) (next a) n (i + 1)
    far-more done x at i n a s h e = record {
      many = length-append done (a ∷ []) ∙ ap (λ (m : ℕ). m + 1) s.many;
      few = omega arith;
      rest =
          s.rest
          ∙ ap (λ (m : ℕ). behind done (several read next m x at)) (turns k i h)
          ∙ ap (behind done) (one_more (k - (i + 1)) x at n a (sym e))
          ∙ behind-behind done (a ∷ []) (several read next (k - (i + 1)) (next a) n);
    }

    pub far-fault : (done : List A) (x at i f : ℕ) → SoFar read next k x₀ at₀ done x at i → i < k → fault f ≡ read x at
        → several read next k x₀ at₀ ≡ fault f
    unfolding several then behind
    far-fault done x at i f s h e =
        s.rest
        ∙ ap (λ (m : ℕ). behind done (several read next m x at)) (turns k i h)
        ∙ ap (λ (t : Taken A). behind done (then t (λ a n. then (several read next (k - (i + 1)) (next a) n) (λ l m. took (a ∷ l) m)))) (sym e)

    pub far-end : (done : List A) (x at i : ℕ) → SoFar read next k x₀ at₀ done x at i → k ≤ i
        → several read next k x₀ at₀ ≡ took done at
    unfolding several behind
    far-end done x at i s h =
        let z : k - i ≡ 0 = omega (arith, s.few) in
        s.rest ∙ ap (λ (m : ℕ). behind done (several read next m x at)) z ∙ ap (λ (l : List A). took l at) (append-nil done)

-- ---- into places that hold d

-- a place more is taken, of n places of which those that are free hold d
pub place_more : {A : Type 0} (n : ℕ) (done : List A) (d a : A) → length done < n
    → set (done ++ replicate (n - length done) d) (length done) a ≡ (done ++ (a ∷ [])) ++ replicate (n - length (done ++ (a ∷ []))) d
place_more n done d a h =
    let e : n - length done ≡ suc (n - (length done + 1)) = omega arith in
    ap (λ (k : ℕ). set (done ++ replicate k d) (length done) a) e
    ∙ set_at done d (replicate (n - (length done + 1)) d) a (length done) refl
    ∙ ap (λ (k : ℕ). done ++ (a ∷ replicate (n - k) d)) (sym (length-append done (a ∷ [])))
    ∙ sym (append_assoc done (a ∷ []) (replicate (n - length (done ++ (a ∷ []))) d))

-- what is left of n places that hold d, and what the first k of them are
pub drop-same : {A : Type 0} (d : A) (k n : ℕ) → drop k (replicate n d) ≡ replicate (n - k) d
drop-same d zero n = ap (λ (i : ℕ). replicate i d) (sym (sub-zero n))
drop-same d (suc k) zero = let e : 0 - suc k ≡ 0 = omega arith in rw e
drop-same d (suc k) (suc n) = drop-same d k n ∙ ap (λ (i : ℕ). replicate i d) (sym (suc-sub-suc n k))

pub take-same : {A : Type 0} (d : A) (k n : ℕ) → k ≤ n → take k (replicate n d) ≡ replicate k d
take-same d zero n h = refl
take-same d (suc k) zero h = absurd (omega arith)
take-same d (suc k) (suc n) h = ap (λ l. d ∷ l) (take-same d k n (omega arith))

-- what was read stands in the lowest of k places, d in the others
pub record PlacesSoFar {A : Type 0} (read : ℕ → Taken A) (d : A) (k at₀ : ℕ) (places : List A) (at i : ℕ) : Type 0 where
  pub done : List A
  pub holds : places ≡ done ++ replicate (k - length done) d
  pub so_far : SoFar (λ x. read) (λ a. 0) k 0 at₀ done 0 at i

module _ {A : Type 0} (read : ℕ → Taken A) (d : A) (k at₀ : ℕ) where
  pub places-start : (places : List A) → places ≡ replicate k d → PlacesSoFar read d k at₀ places at₀ 0
  places-start places e = record {
    done = [];
    holds = e ∙ ap (λ (n : ℕ). replicate n d) (sym (sub-zero k));
    so_far = far-start (λ x. read) (λ a. 0) k 0 at₀;
  }

  module _ (places : List A) (at i : ℕ) (s : PlacesSoFar read d k at₀ places at i) where
    pub places-more : (n : ℕ) (a : A) → i < k → took a n ≡ read at → PlacesSoFar read d k at₀ (set places i a) n (i + 1)
    places-more n a h e = record {
      done = s.done ++ (a ∷ []);
      holds =
          ap (λ (l : List A). set l i a) s.holds
          ∙ ap (λ (j : ℕ). set (s.done ++ replicate (k - length s.done) d) j a) (sym s.so_far.many)
          ∙ place_more k s.done d a (omega (arith, s.so_far.many));
      so_far = far-more (λ x. read) (λ b. 0) k 0 at₀ s.done 0 at i n a s.so_far h e;
    }

    -- the next place is free
    pub places-next : (e : A) → i < k → get_or places i e ≡ d
    places-next e h =
        let n : k - length s.done ≡ suc (k - (i + 1)) = omega (arith, s.so_far.many) in
        ap (λ (l : List A). get_or l i e) s.holds
        ∙ ap₂ (λ (m j : ℕ). get_or (s.done ++ replicate m d) j e) n (sym s.so_far.many)
        ∙ get_or-append_seam s.done d (replicate (k - (i + 1)) d) e

    pub places-fault : (f : ℕ) → i < k → fault f ≡ read at → fault f ≡ each read k at₀
    unfolding each
    places-fault f h e = sym (far-fault (λ x. read) (λ a. 0) k 0 at₀ s.done 0 at i f s.so_far h e)

    pub places-end : k ≤ i → took places at ≡ each read k at₀
    unfolding each
    places-end h =
        let z : k - length s.done ≡ 0 = omega (arith, s.so_far.many, s.so_far.few) in
        ap (λ (l : List A). took l at) (s.holds ∙ ap (λ (n : ℕ). s.done ++ replicate n d) z ∙ append-nil s.done)
        ∙ sym (far-end (λ x. read) (λ a. 0) k 0 at₀ s.done 0 at i s.so_far h)
