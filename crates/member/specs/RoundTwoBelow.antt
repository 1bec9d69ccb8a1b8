-- Round two below a name: the last entry offered among the rows below it.
use Rattle.std.specs.Prelude.{Option, Some, None}
use Rattle.std.specs.Prelude.{◌≡◌, ◌⊎◌, Bool, cond, ℕ, suc, ◌+◌, ◌≤◌, ◌<◌, take, ltb}
use Rattle.std.proofs.Math.Path.{refl, sym, ap, subst}
use Rattle.std.proofs.Common.{◌∙◌, inr}
use Rattle.std.proofs.Math.Logic.{inl}
use mathlib.Core.List.{List, [], ◌∷◌, append-nil}
use Rattle.std.proofs.Math.Bool.{true, false}
use native.Mathlib.Omega.{arith}
use Rattle.std.proofs.Math.Dec.{eqb}
use borrow.Author.Tests.{ltb-true, eqb-true, eqb-false, lt-ltb}
use Rattle.member.specs.Limits.{largest_name}
use Rattle.member.specs.Tile.{entries}
use Rattle.member.specs.Search.{seat_in, end_of}
use Rattle.member.specs.Rounds.{bound_of, offer_of, bare, offered, last_offer, bare_offer, offer_below_of}
use Rattle.member.specs.Sound.{sound_member}
use Rattle.member.specs.SearchLaws.{name_cut, all-below}
use Rattle.member.specs.Normal.{gap_after}
use Rattle.member.specs.AscendLaws.{InRange, Ascends, asc_nil, asc_parts, asc_take}
use Rattle.member.specs.SoundLaws.{sound_parts}
use Rattle.member.specs.RoundOneLaws.{end_name}
use Rattle.member.specs.RoundTwoLaws.{offered_true, offered_counts, counts_at, row_at, row-passed}
use Rattle.member.specs.Places.{place, row_place, at_place_in, at_place, version, IsEntry, Shown, bound_reading, Passed, AnswersBelow}
use Rattle.member.specs.ReadingLaws.{Order, less, same, more, order, read_nil, read-less, read_more, read_over, read_below, at_low, at_rows}
use Rattle.member.specs.declared.Row.{Row}
use Rattle.member.specs.declared.Bound.{Bound}
use Rattle.member.specs.declared.Member.{Member}
use Rattle.member.specs.declared.Reading.TheVariants.{Gap}

-- The last entry offered, over rows above the end e: the offer o stays where none of them is offered.
data LastOf (k v : ℕ) (f : Shown) (e : ℕ) (o : Option Bound) : Option Bound → Type 0 where
  kept : ((z : ℕ) → place e < z → place k ≤ z → IsEntry (f z) → Passed (place k) v z (f z)) → LastOf k v f e o o
  found : (b : Bound) → e < b.end → k ≤ b.end → f (place b.end) ≡ bound_reading b → (b.end ≡ k) ⊎ (v < b.version)
      → ((z : ℕ) → place b.end < z → IsEntry (f z) → version (f z) ≤ v) → LastOf k v f e o (Some b)

-- one row more below
last_step : (k v g : ℕ) (r : Row) (l : List Row) (e : ℕ) (o : Option Bound) → InRange r → e ≤ r.name → (t : Bool) → offered k v (ltb k (end_of r.name)) r ≡ t
    → (o' : Option Bound) → LastOf k v (at_place_in r.gap l) (r.name + 1) (cond t (offer_of r) o) o' → LastOf k v (at_place_in g (r ∷ l)) e o o'
last_step k v g r l e o i h true t _ (kept w) = found (bound_of r) (omega (arith, n)) reach (row_at k v g r l i) (offered_counts k v (ltb k (end_of r.name)) r t) above
  where
    n : end_of r.name ≡ r.name + 1
    n = end_name r i

    reach : k ≤ end_of r.name
    reach = go (offered_true k v (ltb k (end_of r.name)) r t)
      where
        go : (end_of r.name ≡ k) ⊎ ((ltb k (end_of r.name) ≡ true) × (v < r.version)) → k ≤ end_of r.name
        go (inl a) = omega arith
        go (inr a) = omega (arith, ltb-true k (end_of r.name) a.0)

    above : (z : ℕ) → place (end_of r.name) < z → IsEntry (at_place_in g (r ∷ l) z) → version (at_place_in g (r ∷ l) z) ≤ v
    above z a b = let p = read-less g r l z (omega (arith, n)) in rw p (w z (omega (arith, n)) (omega (arith, reach)) (rw p at b)).1
last_step k v g r l e o i h false t _ (kept w) = kept (λ z a b c. go z b c (order (row_place r) z))
  where
    n : end_of r.name ≡ r.name + 1
    n = end_name r i

    go : (z : ℕ) → place k ≤ z → IsEntry (at_place_in g (r ∷ l) z) → Order (row_place r) z → Passed (place k) v z (at_place_in g (r ∷ l) z)
    go z b c (less d) = let p = read-less g r l z d in rw p (w z (omega arith) b (rw p at c))
    go z b c (same d) = row-passed k v g r l i (ltb k (end_of r.name)) (λ q. lt-ltb k (end_of r.name) (omega (arith, n))) t z d
    go z b c (more d) = absurd (rw (read_more g r l z d) at c)
last_step k v g r l e o i h t q _ (found b u s f c w) =
    found b (omega arith) s (read-less g r l (place b.end) (omega arith) ∙ f) c (λ z a d. let p = read-less g r l z (omega arith) in rw p (w z a (rw p at d)))

last_of : (k v g : ℕ) (l : List Row) (e : ℕ) (o : Option Bound) → Ascends e l → LastOf k v (at_place_in g l) e o (last_offer k v o l)
unfolding last_offer
last_of k v g [] e o a = kept (λ z b c d. absurd (rw (read_nil g z) at d))
last_of k v g (r ∷ l) e o a =
    let p = asc_parts e r l a in
    let t = offered k v (ltb k (end_of r.name)) r in
    let o' = cond t (offer_of r) o in
    last_step k v g r l e o p.1 p.0 t refl (last_offer k v o' l) (last_of k v r.gap l (r.name + 1) o' p.2)

module _ (m : Member) (x : ℕ) (h : sound_member m ≡ true) (i : x ≤ largest_name) where
  -- the rows below x, and what a member shows of them
  rows : List Row
  rows = take (seat_in (entries m) x) (entries m)

  rows-show : (z : ℕ) → 0 < z → z < place (suc x) → at_place m z ≡ at_place_in m.low rows z
  unfolding rows
  rows-show z a b = at_rows m z a (omega arith) ∙ sym (read_below m.low (entries m) [] x z b (λ g. read_nil g z)) ∙ ap (λ w. at_place_in m.low w z) (append-nil rows)

  rows_end : (z : ℕ) → place (suc x) ≤ z → at_place_in m.low rows z ≡ Gap (gap_after m.low rows)
  unfolding rows
  rows_end z a =
      ap (λ w. at_place_in m.low w z) (sym (append-nil rows))
      ∙ read_over m.low rows [] x z (all-below (name_cut x) (name_cut x) (λ r e. e) (entries m)) (omega arith)
      ∙ read_nil (gap_after m.low rows) z

  rows-ascend : Ascends 0 rows
  unfolding rows
  rows-ascend = rw append-nil at (asc_take 0 (entries m) [] x (sound_parts m h).ascending (omega arith) (asc_nil x))

  pub answers-below : (k v : ℕ) → AnswersBelow (at_place m) k v (place (suc x)) (offer_below_of m x k v)
  unfolding offer_below_of rows
  answers-below k v = go (offer_below_of m x k v) (last_of k v m.low rows 0 (bare_offer 0 k) rows-ascend)
    where
      go : (o : Option Bound) → LastOf k v (at_place_in m.low rows) 0 (bare_offer 0 k) o → AnswersBelow (at_place m) k v (place (suc x)) o
      go _ (kept w) = low (eqb k 0) refl
        where
          low : (t : Bool) → eqb k 0 ≡ t → AnswersBelow (at_place m) k v (place (suc x)) (cond t (Some (bare 0)) None)
          low false e = λ y a b c. let p = rows-show y (pos (eqb-false k 0 e) a) b in rw p (w y (pos (eqb-false k 0 e) a) a (rw p at c))
            where
              pos : (k ≡ 0 → ⊥) → {y : ℕ} → place k ≤ y → 0 < y
              pos q u = omega arith
          low true e =
              let z : k ≡ 0 = eqb-true k 0 e in (
                record {
                  reach = omega arith;
                  under = omega arith;
                  entry = rw (at_low m) tt;
                  counts = inl (omega arith);
                  greatest = λ y a b c. let p = rows-show y (omega arith) b in rw p (w y a (omega arith) (rw p at c)).1;
                },
                at_low m,
              )
      go _ (found b u q s c w) = (
        record {
          reach = omega arith;
          under = under;
          entry = rw shows tt;
          counts = counts_at (at_place m) k v b shows c;
          greatest = λ y a d f. let p = rows-show y (omega arith) d in rw p (w y a (rw p at f));
        },
        shows,
      )
        where
          under : place b.end < place (suc x)
          under = on (order (place b.end) (place (suc x)))
            where
              past : place (suc x) ≤ place b.end → ⊥
              past a = subst IsEntry (sym s ∙ rows_end (place b.end) a) tt

              on : Order (place b.end) (place (suc x)) → place b.end < place (suc x)
              on (less a) = a
              on (same a) = absurd (past (omega arith))
              on (more a) = absurd (past (omega arith))

          shows : at_place m (place b.end) ≡ bound_reading b
          shows = rows-show (place b.end) (omega arith) under ∙ s
