-- Round two above a name, the mirror image: the first entry offered among the rows above it.
use Rattle.std.specs.Prelude.{Option, Some, None}
use Rattle.std.specs.Prelude.{◌≡◌, ◌⊎◌, List, [], ◌∷◌, Bool, cond, ℕ, suc, ◌+◌, ◌≤◌, ◌<◌, drop, ltb}
use Rattle.std.proofs.Math.Path.{refl, sym}
use Rattle.std.proofs.Common.{◌∙◌, inr}
use Rattle.std.proofs.Math.Logic.{inl}
use Rattle.std.proofs.Math.Bool.{true, false}
use native.Mathlib.Omega.{arith}
use Rattle.std.proofs.Math.Dec.{eqb}
use borrow.Author.Tests.{ltb-true, eqb-true, eqb-false, lt-ltb}
use Rattle.member.specs.Limits.{largest_name, high}
use Rattle.member.specs.Tile.{entries}
use Rattle.member.specs.Search.{next_in, gap_below, end_of}
use Rattle.member.specs.Rounds.{bound_of, offer_of, bare, offered, first_offer, bare_offer, offer_above_of}
use Rattle.member.specs.Sound.{sound_member}
use Rattle.member.specs.AscendLaws.{InRange, Ascends, asc_parts, asc_drop}
use Rattle.member.specs.SoundLaws.{sound_parts}
use Rattle.member.specs.RoundOneLaws.{end_name}
use Rattle.member.specs.RoundTwoLaws.{offered_true, offered_counts, counts_at, row_at, row-passed}
use Rattle.member.specs.Places.{place, hi_place, row_place, at_place_in, at_place, version, IsEntry, Shown, bound_reading, Passed, AnswersAbove}
use Rattle.member.specs.ReadingLaws.{Order, less, same, more, order, read_nil, read-less, read_more, read_past, at_high, at_rows}
use Rattle.member.specs.declared.Row.{Row}
use Rattle.member.specs.declared.Bound.{Bound}
use Rattle.member.specs.declared.Member.{Member}

-- The first entry offered, over rows above the end e: the offer o stays where none of them is offered.
data FirstOf (k v : ℕ) (f : Shown) (e : ℕ) (o : Option Bound) : Option Bound → Type 0 where
  kept : ((z : ℕ) → place e < z → z ≤ place k → IsEntry (f z) → Passed (place k) v z (f z)) → FirstOf k v f e o o
  found : (b : Bound) → e < b.end → b.end < high → b.end ≤ k → f (place b.end) ≡ bound_reading b → (b.end ≡ k) ⊎ (v < b.version)
      → ((z : ℕ) → place e < z → z < place b.end → IsEntry (f z) → version (f z) ≤ v) → FirstOf k v f e o (Some b)

-- one row more below the others
first_step : (k v g : ℕ) (r : Row) (l : List Row) (e : ℕ) (o : Option Bound) → InRange r → e ≤ r.name → (t : Bool) → offered k v (ltb (end_of r.name) k) r ≡ t
    → (o' : Option Bound) → FirstOf k v (at_place_in r.gap l) (r.name + 1) o o' → FirstOf k v (at_place_in g (r ∷ l)) e o (cond t (offer_of r) o')
first_step k v g r l e o i h true t o' w =
    found (bound_of r) (omega (arith, n)) (omega (arith, n, i.name-max)) (reach (offered_true k v (ltb (end_of r.name) k) r t)) (row_at k v g r l i)
    (offered_counts k v (ltb (end_of r.name) k) r t) (λ z a b c. absurd (rw (read_more g r l z (omega (arith, n))) at c))
  where
    n : end_of r.name ≡ r.name + 1
    n = end_name r i

    reach : (end_of r.name ≡ k) ⊎ ((ltb (end_of r.name) k ≡ true) × (v < r.version)) → end_of r.name ≤ k
    reach (inl a) = omega arith
    reach (inr a) = omega (arith, ltb-true (end_of r.name) k a.0)
first_step k v g r l e o i h false t _ (kept w) = kept (λ z a b c. go z b c (order (row_place r) z))
  where
    n : end_of r.name ≡ r.name + 1
    n = end_name r i

    go : (z : ℕ) → z ≤ place k → IsEntry (at_place_in g (r ∷ l) z) → Order (row_place r) z → Passed (place k) v z (at_place_in g (r ∷ l) z)
    go z b c (less d) = let p = read-less g r l z d in rw p (w z (omega arith) b (rw p at c))
    go z b c (same d) = row-passed k v g r l i (ltb (end_of r.name) k) (λ q. lt-ltb (end_of r.name) k (omega (arith, n))) t z d
    go z b c (more d) = absurd (rw (read_more g r l z d) at c)
first_step k v g r l e o i h false t _ (found b u j s f c w) =
    found b (omega arith) j s (read-less g r l (place b.end) (omega arith) ∙ f) c (λ z a d q. go z d q (order (row_place r) z))
  where
    n : end_of r.name ≡ r.name + 1
    n = end_name r i

    go : (z : ℕ) → z < place b.end → IsEntry (at_place_in g (r ∷ l) z) → Order (row_place r) z → version (at_place_in g (r ∷ l) z) ≤ v
    go z a q (less d) = let p = read-less g r l z d in rw p (w z (omega arith) a (rw p at q))
    go z a q (same d) = (row-passed k v g r l i (ltb (end_of r.name) k) (λ _. lt-ltb (end_of r.name) k (omega (arith, n))) t z d).1
    go z a q (more d) = absurd (rw (read_more g r l z d) at q)

first_of : (k v g : ℕ) (l : List Row) (e : ℕ) (o : Option Bound) → Ascends e l → FirstOf k v (at_place_in g l) e o (first_offer k v o l)
unfolding first_offer
first_of k v g [] e o a = kept (λ z b c d. absurd (rw (read_nil g z) at d))
first_of k v g (r ∷ l) e o a =
    let p = asc_parts e r l a in
    first_step k v g r l e o p.1 p.0 (offered k v (ltb (end_of r.name) k) r) refl (first_offer k v o l) (first_of k v r.gap l (r.name + 1) o p.2)

module _ (m : Member) (x : ℕ) (h : sound_member m ≡ true) (i : x ≤ largest_name) where
  -- the rows above x, the gap below them, and what a member shows of them
  rows : List Row
  rows = drop (next_in (entries m) x) (entries m)

  gap : ℕ
  gap = gap_below m.low (entries m) (next_in (entries m) x)

  rows-show : (z : ℕ) → place (suc x) < z → z < hi_place → at_place m z ≡ at_place_in gap rows z
  unfolding rows gap
  rows-show z a b = at_rows m z (omega arith) b ∙ sym (read_past m.low (entries m) x z a)

  rows-ascend : Ascends (x + 1) rows
  unfolding rows
  rows-ascend = asc_drop 0 (entries m) x (sound_parts m h).ascending

  pub answers-above : (k v : ℕ) → k ≤ high → AnswersAbove (at_place m) k v (place (suc x)) (offer_above_of m x k v)
  unfolding offer_above_of rows
  answers-above k v j = go (offer_above_of m x k v) (first_of k v gap rows (x + 1) (bare_offer high k) rows-ascend)
    where
      go : (o : Option Bound) → FirstOf k v (at_place_in gap rows) (x + 1) (bare_offer high k) o → AnswersAbove (at_place m) k v (place (suc x)) o
      go _ (kept w) = top (eqb k high) refl
        where
          top : (t : Bool) → eqb k high ≡ t → AnswersAbove (at_place m) k v (place (suc x)) (cond t (Some (bare high)) None)
          top false e = λ y a b c. let p = rows-show y b (inside (eqb-false k high e) a) in rw p (w y (omega arith) a (rw p at c))
            where
              inside : (k ≡ high → ⊥) → {y : ℕ} → y ≤ place k → y < hi_place
              inside q u = omega arith
          top true e =
              let z : k ≡ high = eqb-true k high e in (
                record {
                  reach = omega arith;
                  over = omega arith;
                  entry = rw (at_high m hi_place (omega arith)) tt;
                  counts = inl (omega arith);
                  least = λ y a b c. let p = rows-show y a b in rw p (w y (omega arith) (omega arith) (rw p at c)).1;
                },
                at_high m hi_place (omega arith),
              )
      go _ (found b u d q s c w) = (
        record {
          reach = omega arith;
          over = omega arith;
          entry = rw shows tt;
          counts = counts_at (at_place m) k v b shows c;
          least = λ y a e f. let p = rows-show y a (omega arith) in rw p (w y (omega arith) e (rw p at f));
        },
        shows,
      )
        where
          shows : at_place m (place b.end) ≡ bound_reading b
          shows = rows-show (place b.end) (omega arith) (omega arith) ∙ s
