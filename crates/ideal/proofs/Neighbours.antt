-- What the two rounds find below x is A's predecessor of x, with A's own version and value.
use Rattle.std.specs.Prelude.{ℕ, suc, ◌≤◌, ◌<◌, ◌≡◌, refl, ◌⊎◌, Bool}
use Rattle.std.proofs.Common.{sym, ap, subst, ◌∙◌, inl, inr, arith}
use Rattle.std.proofs.Math.Decide.{le_ind}
use Rattle.ideal.specs.Places.{lt_or_le}
use Rattle.ideal.specs.Tiles.{version, IsEntry, IsGap, Tile, run, not_both}
use Rattle.ideal.specs.Votes.{Voting, Reads}
use Rattle.ideal.specs.Invariant.{Inv, Current, newest}
use Rattle.ideal.proofs.Seen.{seen}
use Rattle.ideal.proofs.Lookup.{lookup}
use Rattle.ideal.specs.Ends.{LowerEnd, Offers, lower_exists}
use Rattle.ideal.specs.Neighbours.{RoundOne, RoundTwo, Found}

-- the member that won round one offers its own end: someone always does
pub offers_end : {f : Tile} {x k : ℕ} (v : ℕ) → LowerEnd f x k → Offers f k v x k
offers_end {f} v e =
    record {
      reach = omega arith;
      under = e.under;
      entry = e.entry;
      counts = inl refl;
      greatest = λ z a b h. absurd (not_both (f z) h (e.none z a b));
    }

module _ {q : Voting} {hi : ℕ} {M : ℕ → Tile} {A : Tile} (inv : Inv q hi M A) (read : ℕ → Bool) (r : Reads q read) (b x : ℕ)
    (e : x ≡ suc b) (l : x ≤ hi) {i v k : ℕ} (one : RoundOne q.members M read b (λ f. LowerEnd f x) i v k) where
  won : M i b ≡ A b
  won = lookup inv read r b (omega arith) one.winner

  v-is : version (A b) ≡ v
  v-is = sym (ap version won) ∙ one.says

  module _ (p : ℕ) (end : LowerEnd A x p) where
    -- the winner is current all over A's gap below x
    along : (y : ℕ) → p < y → y < x → Current M A y i
    along y py yx = le_ind {n = y} (λ m. m < x → Current M A m i → Current M A y i) (λ _ h. h) step b (omega arith) (omega arith) (ap version won)
      where
        step : (m : ℕ) → y ≤ m → (m < x → Current M A m i → Current M A y i) → suc m < x → Current M A (suc m) i →
            Current M A y i
        step m ym before sm h =
            let g = end.none m (omega arith) (omega arith) in
            let g' = end.none (suc m) (omega arith) sm in
            before (omega arith) ((inv.through i m one.winner.exists (omega arith) g g').1 h)

    end-under : k ≤ p
    end-under = go (lt_or_le p k)
      where
        go : (p < k) ⊎ (k ≤ p) → k ≤ p
        go (inr h) = h
        go (inl h) =
            let kx = one.end.under in
            let shown = inv.same i k one.winner.exists (omega arith) (along k h kx) in
            absurd (not_both (A k) (subst IsEntry shown one.end.entry) (end.none k h kx))

    -- what any member shows strictly between p and x is no newer than v
    quiet : (m y : ℕ) → m < q.members → p < y → y < x → version (M m y) ≤ v
    quiet m y mn py yx =
        let flat = run inv.ideal y b (omega arith) (omega arith) (λ t a c. end.none t (omega arith) (omega arith)) in
        omega (arith, inv.behind m y mn (omega arith), ap version flat, v-is)

    offer-under : (m y : ℕ) → m < q.members → Offers (M m) k v x y → y ≤ p
    offer-under m y mn o = go (lt_or_le p y) o.counts
      where
        go : (p < y) ⊎ (y ≤ p) → (y ≡ k) ⊎ (v < version (M m y)) → y ≤ p
        go (inr h) c = h
        go (inl h) (inl c) = omega (arith, end-under)
        go (inl h) (inr c) = absurd (omega (arith, quiet m y mn h o.under))

    -- past its own end the winner shows a gap of version v at p: A's entry there is newer
    newer : k < p → v < version (A p)
    newer kp = go (lt_or_le v (version (A p)))
      where
        go : (v < version (A p)) ⊎ (version (A p) ≤ v) → v < version (A p)
        go (inl h) = h
        go (inr h) =
            let px = end.under in
            let flat = run (inv.rules i one.winner.exists) p b (omega arith) (omega arith) (λ t a c. one.end.none t (omega arith) (omega arith)) in
            let shown = newest inv i p one.winner.exists (omega arith) (omega (arith, ap version flat, one.says)) in
            absurd (not_both (A p) end.entry (subst IsGap shown (one.end.none p kp px)))

    offered : (m : ℕ) → m < q.members → M m p ≡ A p → Offers (M m) k v x p
    offered m mn shown =
        record {
          reach = end-under;
          under = end.under;
          entry = subst IsEntry (sym shown) end.entry;
          counts = go (lt_or_le k p);
          greatest = λ z pz zx _. quiet m z mn pz zx;
        }
      where
        go : (k < p) ⊎ (p ≤ k) → (p ≡ k) ⊎ (v < version (M m p))
        go (inl h) = inr (omega (arith, newer h, ap version shown))
        go (inr h) = inl (omega (arith, end-under))

  module _ {p j : ℕ} (two : RoundTwo q.members M read (λ f. Offers f k v x) ◌≤◌ p j) where
    end-of : LowerEnd A x p
    end-of =
        let A-end = lower_exists A (subst IsEntry (sym inv.ideal.low) tt) x (omega arith) in
        let t = A-end.0 in
        let le = A-end.1 in
        let s = seen inv read r t (omega (arith, le.under)) in
        let up : t ≤ p = two.nearest s.0 t s.1 s.2 (offered t le s.0 s.1 s.3) in
        let down : p ≤ t = offer-under t le j p two.chosen.exists two.chosen.chosen.1 in
        let at : t ≡ p = omega arith in
        subst (λ z. LowerEnd A x z) at le

    reading-of : M j p ≡ A p
    reading-of =
        let s = seen inv read r p (omega (arith, end-of.under)) in
        let o = offered p end-of s.0 s.1 s.3 in
        newest inv j p two.chosen.exists (omega (arith, end-of.under)) (omega (arith, ap version s.3, two.chosen.greatest s.0 s.1 (s.2, o)))

    pub below : Found A b (λ f. LowerEnd f x) v p (M j p)
    below = record { end = end-of; gap = v-is; reading = reading-of }
