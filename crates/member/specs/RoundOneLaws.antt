-- Round one: the gaps next to a name, and the entries at which they end.
use Rattle.std.specs.Prelude.{◌≡◌, refl, List, [], ◌∷◌, Bool, true, false, cond, ℕ, zero, suc, ◌+◌, ◌≤◌, ◌<◌, length, get_or, ltb, eqb}
use Rattle.std.proofs.Common.{◌∙◌, arith, le-leb, ltb-true, ltb-false, eqb-true, lt-ltb}
use Rattle.std.proofs.Math.Dec.{leb-suc-suc}
use Rattle.std.proofs.lemmas.Bool.{eqb-false}
use Rattle.member.specs.Limits.{largest_name, high}
use Rattle.member.specs.Tile.{none, entries, reading_of}
use Rattle.member.specs.Search.{seat_in, next_in, gap_below, end_of, end_below, end_at}
use Rattle.member.specs.Rounds.{below_of, above_of, around_of}
use Rattle.member.specs.Sound.{sound_member}
use Rattle.member.specs.Normal.{gap_cons}
use Rattle.member.specs.AscendLaws.{InRange, Ascends, asc_nil, asc_cons, asc_parts}
use Rattle.member.specs.SoundLaws.{sound_parts}
use Rattle.member.specs.Places.{place, space_above, hi_place, at_place_in, at_place, IsEntry, IsGap, LowerEnd, UpperEnd}
use Rattle.member.specs.ReadingLaws.{Order, less, same, more, order, read_nil, read_same, read-less, read_more, at_low, at_high, at_rows}
use Rattle.member.specs.declared.Row.{Row}
use Rattle.member.specs.declared.Member.{Member}
use Rattle.member.specs.declared.Reading.TheVariants.{Gap}

-- the end of a name in range
pub end_name : (r : Row) → InRange r → end_of r.name ≡ r.name + 1
end_name r h = rw (le-leb r.name largest_name h.name-max)

pub around_reading : (m : Member) (x : ℕ) → (around_of m x).reading ≡ reading_of m x
around_reading m x = refl

-- The space just below x shows the gap next below.
space_below : (g : ℕ) (l : List Row) (x : ℕ) → at_place_in g l (space_above x) ≡ Gap (gap_below g l (seat_in l x))
unfolding seat_in
space_below g [] x = read_nil g (space_above x)
space_below g (r ∷ l) x = go (ltb r.name x) refl (space_below r.gap l x)
  where
    go : (t : Bool) → ltb r.name x ≡ t → at_place_in r.gap l (space_above x) ≡ Gap (gap_below r.gap l (seat_in l x))
        → at_place_in g (r ∷ l) (space_above x) ≡ Gap (gap_below g (r ∷ l) (cond t (suc (seat_in l x)) 0))
    go true e i = rw (gap_cons g r l (seat_in l x)) (read-less g r l (space_above x) (omega (arith, ltb-true r.name x e)) ∙ i)
    go false e i = read_more g r l (space_above x) (omega (arith, ltb-false r.name x e))

pub below_gap : (m : Member) (x : ℕ) → x ≤ largest_name → at_place m (space_above x) ≡ Gap (below_of m x).version
below_gap m x h = at_rows m (space_above x) (omega arith) (omega arith) ∙ space_below m.low (entries m) x

-- The lower end, over rows above the end e: it is e or an entry.
end_from : ℕ → List Row → ℕ → ℕ
end_from e l zero = e
end_from e l (suc i) = end_of (get_or l i none).name

from_cons : (e : ℕ) (r : Row) (l : List Row) (i : ℕ) → end_from e (r ∷ l) (suc i) ≡ end_from (end_of r.name) l i
unfolding end_from
from_cons e r l zero = refl
from_cons e r l (suc i) = refl

from_low : (l : List Row) (i : ℕ) → end_below l i ≡ end_from 0 l i
unfolding end_from
from_low l zero = refl
from_low l (suc i) = refl

record LowIn (e g : ℕ) (l : List Row) (x k : ℕ) : Type 0 where
  floor : e ≤ k
  under : k ≤ x
  entry : e < k → IsEntry (at_place_in g l (place k))
  none : (z : ℕ) → place k < z → z < place (suc x) → IsGap (at_place_in g l z)

low_in : (e g : ℕ) (l : List Row) (x : ℕ) → Ascends e l → e ≤ x → LowIn e g l x (end_from e l (seat_in l x))
unfolding seat_in end_from
low_in e g [] x a h = record { floor = omega arith; under = h; entry = λ k. absurd (omega arith); none = λ z b c. rw (read_nil g z) tt }
low_in e g (r ∷ l) x a h =
    let p = asc_parts e r l a in
    go (ltb r.name x) refl p.0 (end_name r p.1) (λ k. low_in (r.name + 1) r.gap l x p.2 k)
  where
    go : (t : Bool) → ltb r.name x ≡ t → e ≤ r.name → end_of r.name ≡ r.name + 1
        → (r.name + 1 ≤ x → LowIn (r.name + 1) r.gap l x (end_from (r.name + 1) l (seat_in l x)))
        → LowIn e g (r ∷ l) x (end_from e (r ∷ l) (cond t (suc (seat_in l x)) 0))
    go false q u n i = record { floor = omega arith; under = h; entry = λ k. absurd (omega arith); none = λ z b c. rw (read_more g r l z (omega (arith, ltb-false r.name x q))) tt }
    go true q u n i = rw (from_cons e r l (seat_in l x), n) (lift (end_from (r.name + 1) l (seat_in l x)) (i (omega (arith, ltb-true r.name x q))))
      where
        lift : (k : ℕ) → LowIn (r.name + 1) r.gap l x k → LowIn e g (r ∷ l) x k
        lift k w =
            record {
              floor = omega (arith, w.floor);
              under = w.under;
              entry = λ _. at (order (r.name + 1) k);
              none = λ z b c. rw (read-less g r l z (omega (arith, w.floor))) (w.none z b c);
            }
          where
            at : Order (r.name + 1) k → IsEntry (at_place_in g (r ∷ l) (place k))
            at (less b) = rw (read-less g r l (place k) (omega arith)) (w.entry b)
            at (same b) = rw (read_same g r l (place k) (omega arith)) tt
            at (more b) = absurd (omega (arith, w.floor))

pub lower_end : (m : Member) (x : ℕ) → sound_member m ≡ true → x ≤ largest_name → LowerEnd (at_place m) (place (suc x)) (place (below_of m x).end)
lower_end m x h i = go (below_of m x).end (rw (from_low (entries m) (seat_in (entries m) x)) (low_in 0 m.low (entries m) x (sound_parts m h).ascending (omega arith)))
  where
    go : (k : ℕ) → LowIn 0 m.low (entries m) x k → LowerEnd (at_place m) (place (suc x)) (place k)
    go k w =
        record {
          under = omega (arith, w.under);
          entry = at (order 0 k);
          none = λ y a b. rw (at_rows m y (omega arith) (omega arith)) (w.none y a b);
        }
      where
        at : Order 0 k → IsEntry (at_place m (place k))
        at (less a) = rw (at_rows m (place k) (omega arith) (omega (arith, w.under))) (w.entry a)
        at (same a) = rw (← a, at_low m) tt
        at (more a) = absurd (omega arith)

-- Above x. Rows that all stand above x: the first of them, or HIGH, ends the gap g.
record UpIn (g : ℕ) (l : List Row) (x v k : ℕ) : Type 0 where
  gap : at_place_in g l (space_above (suc x)) ≡ Gap v
  over : suc x < k
  fits : k ≤ high
  entry : k < high → IsEntry (at_place_in g l (place k))
  none : (z : ℕ) → place (suc x) < z → z < place k → IsGap (at_place_in g l z)

up_head : (g : ℕ) (l : List Row) (x : ℕ) → Ascends (x + 1) l → x ≤ largest_name → UpIn g l x g (end_at l 0)
up_head g [] x a h =
    record { gap = read_nil g (space_above (suc x)); over = omega arith; fits = omega arith; entry = λ k. absurd (omega arith); none = λ z b c. rw (read_nil g z) tt }
up_head g (r ∷ l) x a h =
    let p = asc_parts (x + 1) r l a in
    rw (lt-ltb 0 (suc (length l)) (omega arith), end_name r p.1)
    record {
      gap = read_more g r l (space_above (suc x)) (omega (arith, p.0));
      over = omega (arith, p.0);
      fits = omega (arith, p.1.name-max);
      entry = λ k. rw (read_same g r l (place (r.name + 1)) (omega arith)) tt;
      none = λ z b c. rw (read_more g r l z (omega arith)) tt;
    }

-- a row at or below x is passed over
up_over : (g : ℕ) (r : Row) (l : List Row) (x v k : ℕ) → r.name ≤ x → UpIn r.gap l x v k → UpIn g (r ∷ l) x v k
up_over g r l x v k h w =
    record {
      gap = read-less g r l (space_above (suc x)) (omega arith) ∙ w.gap;
      over = w.over;
      fits = w.fits;
      entry = λ b. rw (read-less g r l (place k) (omega (arith, w.over))) (w.entry b);
      none = λ z b c. rw (read-less g r l z (omega arith)) (w.none z b c);
    }

at_cons : (r : Row) (l : List Row) (i : ℕ) → end_at (r ∷ l) (suc i) ≡ end_at l i
at_cons r l i = rw (leb-suc-suc (suc i) (length l))

up_in : (e g : ℕ) (l : List Row) (x : ℕ) → Ascends e l → x ≤ largest_name → UpIn g l x (gap_below g l (next_in l x)) (end_at l (next_in l x))
unfolding next_in
up_in e g [] x a h = up_head g [] x (asc_nil (x + 1)) h
up_in e g (r ∷ l) x a h = let p = asc_parts e r l a in go (ltb r.name x) (eqb r.name x) refl refl p (up_in (r.name + 1) r.gap l x p.2 h)
  where
    go : (t u : Bool) → ltb r.name x ≡ t → eqb r.name x ≡ u → (e ≤ r.name) × InRange r × Ascends (r.name + 1) l
        → UpIn r.gap l x (gap_below r.gap l (next_in l x)) (end_at l (next_in l x))
        → UpIn g (r ∷ l) x (gap_below g (r ∷ l) (cond t (suc (next_in l x)) (cond u 1 0))) (end_at (r ∷ l) (cond t (suc (next_in l x)) (cond u 1 0)))
    go true u q s p i =
        rw (gap_cons g r l (next_in l x), at_cons r l (next_in l x)) (up_over g r l x (gap_below r.gap l (next_in l x)) (end_at l (next_in l x)) (omega (arith, ltb-true r.name x q)) i)
    go false true q s p i =
        let n : r.name ≡ x = eqb-true r.name x s in
        rw (at_cons r l 0) (up_over g r l x r.gap (end_at l 0) (omega arith) (up_head r.gap l x (rw (← n) p.2) h))
    go false false q s p i = up_head g (r ∷ l) x (asc_cons (x + 1) r l (far (ltb-false r.name x q) (eqb-false r.name x s)) p.1 p.2) h
      where
        far : x ≤ r.name → (r.name ≡ x → ⊥) → x + 1 ≤ r.name
        far a b = omega arith

module _ (m : Member) (x : ℕ) (h : sound_member m ≡ true) (i : x ≤ largest_name) where
  above : UpIn m.low (entries m) x (above_of m x).version (above_of m x).end
  above = up_in 0 m.low (entries m) x (sound_parts m h).ascending i

  pub above-gap : at_place m (space_above (suc x)) ≡ Gap (above_of m x).version
  above-gap = at_rows m (space_above (suc x)) (omega arith) (omega arith) ∙ above.gap

  pub upper-end : UpperEnd hi_place (at_place m) (place (suc x)) (place (above_of m x).end)
  upper-end = go (above_of m x).end above
    where
      go : (k : ℕ) → UpIn m.low (entries m) x (above_of m x).version k → UpperEnd hi_place (at_place m) (place (suc x)) (place k)
      go k w =
          record {
            over = omega (arith, w.over);
            fits = omega (arith, w.fits);
            entry = at (order k high);
            none = λ y a b. rw (at_rows m y (omega arith) (omega (arith, w.fits))) (w.none y a b);
          }
        where
          at : Order k high → IsEntry (at_place m (place k))
          at (less a) = rw (at_rows m (place k) (omega (arith, w.over)) (omega arith)) (w.entry a)
          at (same a) = rw (at_high m (place k) (omega arith)) tt
          at (more a) = absurd (omega (arith, w.fits))
