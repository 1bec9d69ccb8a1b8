-- 'Above is the mirror image': turned round, a tile is a tile and the invariant holds, so what is found above follows
-- from what is found below.
use Rattle.std.specs.Prelude.{ℕ, suc, ◌-◌, ◌≤◌, ◌<◌, ◌≡◌, ◌⊎◌, ◌↔◌, Bool}
use Rattle.std.proofs.Common.{sym, ap, subst, ◌∙◌, inl, inr, arith}
use Rattle.std.proofs.Math.Arith.{sub-sub_self}
use Rattle.ideal.specs.Places.{place, space_above}
use Rattle.ideal.specs.Tiles.{version, IsEntry, IsGap, Tile, TileRules, entry_place}
use Rattle.ideal.specs.Votes.{In, Voting, Reads}
use Rattle.ideal.specs.Best.{best-same}
use Rattle.ideal.specs.Invariant.{Inv, Current}
use Rattle.ideal.specs.Ends.{LowerEnd, UpperEnd, Offers, OffersAbove, lower_unique, offers_unique}
use Rattle.ideal.specs.Neighbours.{RoundOne, RoundTwo, Found}
use Rattle.ideal.proofs.Neighbours.{offers_end, below}

abbrev pub rev : ℕ → Tile → Tile
rev hi f z = f (hi - z)

-- turned round twice
back : {hi : ℕ} (f : Tile) {z : ℕ} → z ≤ hi → rev hi f (hi - z) ≡ f z
back f l = ap f (sub-sub_self l)

-- two neighbouring places, turned round
next : {hi z : ℕ} → z < hi → hi - z ≡ suc (hi - suc z)
next l = omega arith

module _ {hi : ℕ} where
  -- HIGH's place is an end's, so that spaces come to lie on spaces
  rev-rules : {f : Tile} → TileRules hi f → TileRules hi (rev hi f)
  rev-rules {f} t =
      let end = entry_place t hi (omega arith) (subst IsEntry (sym t.high) tt) in
      let top = end.0 in
      let even : hi ≡ place top = end.1 in
      record {
        low = ap f (omega arith) ∙ t.high;
        high = ap f (omega arith) ∙ t.low;
        spaces = λ e l. let at : space_above (top - suc e) ≡ hi - space_above e = omega arith in subst (λ z. IsGap (f z)) at (t.spaces (top - suc e) (omega arith));
        one-gap = λ z l g g'. ap f (next l) ∙ sym (t.one-gap (hi - suc z) (omega arith) g' (subst (λ y. IsGap (f y)) (next l) g));
      }

  pub rev-inv : {q : Voting} {M : ℕ → Tile} {A : Tile} → Inv q hi M A → Inv q hi (λ i. rev hi (M i)) (rev hi A)
  rev-inv {q} {M} {A} v =
      record {
        rules = λ i m. rev-rules (v.rules i m);
        ideal = rev-rules v.ideal;
        behind = λ i z m l. v.behind i (hi - z) m (omega arith);
        same = λ i z m l. v.same i (hi - z) m (omega arith);
        known = λ z l. v.known (hi - z) (omega arith);
        through = turned;
      }
    where
      turned : (i z : ℕ) → i < q.members → z < hi → IsGap (A (hi - z)) → IsGap (A (hi - suc z)) →
          Current M A (hi - z) i ↔ Current M A (hi - suc z) i
      turned i z m l g g' =
          let h = v.through i (hi - suc z) m (omega arith) g' (subst (λ y. IsGap (A y)) (next l) g) in
          (λ c. h.1 (subst (λ y. Current M A y i) (next l) c), λ c. subst (λ y. Current M A y i) (sym (next l)) (h.0 c))

  -- a place from below x is one from above, turned round
  rev-upper : {f : Tile} {x k : ℕ} → UpperEnd hi f x k → LowerEnd (rev hi f) (hi - x) (hi - k)
  rev-upper {f} {x} {k} u =
      record {
        under = omega (arith, u.over, u.fits);
        entry = subst IsEntry (sym (back f u.fits)) u.entry;
        none = λ y a b. u.none (hi - y) (omega arith) (omega arith);
      }

  rev-lower : {f : Tile} (x k : ℕ) → k ≤ hi → LowerEnd (rev hi f) (hi - x) (hi - k) → UpperEnd hi f x k
  rev-lower {f} x k l d =
      record {
        over = omega (arith, d.under);
        fits = l;
        entry = subst IsEntry (back f l) d.entry;
        none = λ y a b. let m : y ≤ hi = omega arith in subst IsGap (back f m) (d.none (hi - y) (omega arith) (omega arith));
      }

  rev-offers : (f : Tile) (k v x y : ℕ) → k ≤ hi → y ≤ hi →
      OffersAbove f k v x y ↔ Offers (rev hi f) (hi - k) v (hi - x) (hi - y)
  rev-offers f k v x y kl yl = (to, fro)
    where
      at : rev hi f (hi - y) ≡ f y
      at = back f yl

      to : OffersAbove f k v x y → Offers (rev hi f) (hi - k) v (hi - x) (hi - y)
      to o =
          record {
            reach = omega (arith, o.reach);
            under = omega (arith, o.over);
            entry = subst IsEntry (sym at) o.entry;
            counts = go o.counts;
            greatest = λ z a b. o.least (hi - z) (omega arith) (omega arith);
          }
        where
          go : (y ≡ k) ⊎ (v < version (f y)) → (hi - y ≡ hi - k) ⊎ (v < version (rev hi f (hi - y)))
          go (inl e) = inl (omega arith)
          go (inr h) = inr (omega (arith, ap version at))

      fro : Offers (rev hi f) (hi - k) v (hi - x) (hi - y) → OffersAbove f k v x y
      fro o =
          record {
            reach = omega (arith, o.reach);
            over = omega (arith, o.under);
            entry = subst IsEntry at o.entry;
            counts = go o.counts;
            least = least;
          }
        where
          go : (hi - y ≡ hi - k) ⊎ (v < version (rev hi f (hi - y))) → (y ≡ k) ⊎ (v < version (f y))
          go (inl e) = inl (omega arith)
          go (inr h) = inr (omega (arith, ap version at))

          least : (z : ℕ) → x < z → z < y → IsEntry (f z) → version (f z) ≤ v
          least z a b h =
              let m : z ≤ hi = omega arith in
              omega (arith, ap version (back f m), o.greatest (hi - z) (omega arith) (omega arith) (subst IsEntry (sym (back f m)) h))

pub upper_unique : {hi : ℕ} {f : Tile} {x k k' : ℕ} → UpperEnd hi f x k → UpperEnd hi f x k' → k ≡ k'
upper_unique a b = omega (arith, lower_unique (rev-upper a) (rev-upper b), a.fits, b.fits)

pub offers_above_unique : {f : Tile} {k v x y y' : ℕ} → OffersAbove f k v x y → OffersAbove f k v x y' → y ≡ y'
offers_above_unique {f} {k} {v} {x} {y} {y'} a b =
    let a' = (rev-offers {hi = k} f k v x y (omega arith) a.reach).0 a in
    let b' = (rev-offers {hi = k} f k v x y' (omega arith) b.reach).0 b in
    omega (arith, a.reach, b.reach, offers_unique a' b')

pub offers_upper_end : {hi : ℕ} {f : Tile} {x k : ℕ} (v : ℕ) → UpperEnd hi f x k → OffersAbove f k v x k
offers_upper_end {hi} {f} {x} {k} v u = (rev-offers {hi = hi} f k v x k u.fits u.fits).1 (offers_end v (rev-upper u))

-- The two rounds above x find A's successor of x.
module _ {q : Voting} {hi : ℕ} {M : ℕ → Tile} {A : Tile} (inv : Inv q hi M A) (read : ℕ → Bool) (r : Reads q read) (x : ℕ)
    (l : x < hi) {i v k : ℕ} (one : RoundOne q.members M read (suc x) (λ f. UpperEnd hi f x) i v k) where
  one-turned : RoundOne q.members (λ m. rev hi (M m)) read (hi - suc x) (λ f. LowerEnd f (hi - x)) i v (hi - k)
  one-turned =
      record {
        winner = best-same (λ j m. (λ s. s, λ s. s)) (λ j m s. sym (ap version (back (M j) l))) one.winner;
        says = ap version (back (M i) l) ∙ one.says;
        end = rev-upper one.end;
      }

  module _ {p j : ℕ} (two : RoundTwo q.members M read (λ f. OffersAbove f k v x) (λ y z. z ≤ y) p j) where
    fits : p ≤ hi
    fits = omega (arith, one.end.fits, two.chosen.chosen.1.reach)

    two-turned : RoundTwo q.members (λ m. rev hi (M m)) read (λ f. Offers f (hi - k) v (hi - x)) ◌≤◌ (hi - p) j
    two-turned =
        record {
          chosen = best-same turn (λ j m s. sym (ap version (back (M j) fits))) two.chosen;
          nearest = near;
        }
      where
        turn : (m : ℕ) → m < q.members →
            (In read m × OffersAbove (M m) k v x p) ↔ (In read m × Offers (rev hi (M m)) (hi - k) v (hi - x) (hi - p))
        turn m b =
            let o = rev-offers {hi = hi} (M m) k v x p one.end.fits fits in
            (λ s. (s.0, o.0 s.1), λ s. (s.0, o.1 s.1))

        near : (m y : ℕ) → m < q.members → In read m → Offers (rev hi (M m)) (hi - k) v (hi - x) y → y ≤ hi - p
        near m y mn s o =
            let yl : y ≤ hi = omega (arith, o.under) in
            let o' = subst (λ t. Offers (rev hi (M m)) (hi - k) v (hi - x) t) (sym (sub-sub_self yl)) o in
            omega (arith, two.nearest m (hi - y) mn s ((rev-offers {hi = hi} (M m) k v x (hi - y) one.end.fits (omega arith)).1 o'))

    pub above : Found A (suc x) (λ f. UpperEnd hi f x) v p (M j p)
    above =
        let f = below (rev-inv inv) read r (hi - suc x) (hi - x) (next l) (omega arith) one-turned two-turned in
        record {
          end = rev-lower x p fits f.end;
          gap = sym (ap version (back A l)) ∙ f.gap;
          reading = sym (back (M j) fits) ∙ (f.reading ∙ back A fits);
        }
