-- Readings along the rows, and the rules that every member shows: no order of the rows is needed.
use Rattle.std.specs.Prelude.{◌≡◌, refl, List, [], ◌∷◌, ◌++◌, Bool, true, false, cond, ℕ, suc, ◌*◌, ◌≤◌, ◌<◌, length, take, drop, ltb, eqb}
use Rattle.std.proofs.Common.{sym, ap, subst, ◌∙◌, arith, take-append-drop}
use borrow.Author.Tests.{ltb-true, ltb-false, eqb-true, eqb-false, lt-ltb, le-ltb, le-leb, lt-leb, eq-eqb, ne_eqb}
use Rattle.member.specs.Limits.{largest_name}
use Rattle.member.specs.Tile.{entries, holding, reading_in, reading_of}
use Rattle.member.specs.Holding.{holding_low, holding-entries}
use Rattle.member.specs.Search.{seat_in, next_in, gap_below}
use Rattle.member.specs.SearchLaws.{name_cut, name_before, all_head, all_past, past-le-length}
use Rattle.member.specs.Normal.{gap_after, gap_below_lem}
use Rattle.member.specs.Places.{place, space_above, hi_place, row_place, at_place_in, at_place, IsGap, ShownRules, bound_reading, BareEnd}
use Rattle.member.specs.declared.Row.{Row}
use Rattle.member.specs.declared.Bound.{Bound}
use Rattle.member.specs.declared.Member.{Member}
use Rattle.member.specs.declared.Reading.TheVariants.{Entry, Gap}

-- of two numbers
pub data Order (a b : ℕ) : Type 0 where
  less : a < b → Order a b
  same : a ≡ b → Order a b
  more : b < a → Order a b

pub order : (a b : ℕ) → Order a b
order a b = go (ltb a b) (eqb a b) refl refl
  where
    go : (c d : Bool) → ltb a b ≡ c → eqb a b ≡ d → Order a b
    go true d e h = less (ltb-true a b e)
    go false true e h = same (eqb-true a b h)
    go false false e h = more (far (ltb-false a b e) (eqb-false a b h))
      where
        far : b ≤ a → (a ≡ b → ⊥) → b < a
        far u n = omega arith

-- A row at z, below z and above z.
module _ (g : ℕ) (r : Row) (l : List Row) (z : ℕ) where
  pub read_same : row_place r ≡ z → at_place_in g (r ∷ l) z ≡ Entry r.version r.value
  unfolding at_place_in
  read_same h = rw (eq-eqb (row_place r) z h)

  pub read-less : row_place r < z → at_place_in g (r ∷ l) z ≡ at_place_in r.gap l z
  unfolding at_place_in
  read-less h = rw (ne_eqb (row_place r) z (λ e. omega arith), lt-ltb (row_place r) z h)

  pub read_more : z < row_place r → at_place_in g (r ∷ l) z ≡ Gap g
  unfolding at_place_in
  read_more h = rw (ne_eqb (row_place r) z (λ e. omega arith), le-ltb (row_place r) z (omega arith))

pub read_nil : (g z : ℕ) → at_place_in g [] z ≡ Gap g
unfolding at_place_in
read_nil g z = refl

-- rows below z are passed over
pub read_over : (g : ℕ) (a b : List Row) (n z : ℕ) → seat_in a n ≡ length a → 2 * n < z → at_place_in g (a ++ b) z ≡ at_place_in (gap_after g a) b z
unfolding gap_after
read_over g [] b n z h k = refl
read_over g (r ∷ a) b n z h k =
    let q = all_head (name_cut n) r a h in
    read-less g r (a ++ b) z (omega (arith, ltb-true r.name n q.0)) ∙ read_over r.gap a b n z q.1 k

-- so a reading above a name may begin past it
pub read_past : (g : ℕ) (l : List Row) (n z : ℕ) → place (suc n) < z → at_place_in (gap_below g l (next_in l n)) (drop (next_in l n) l) z ≡ at_place_in g l z
read_past g l n z h =
    let k = next_in l n in
    rw (gap_below_lem g l k (past-le-length (name_cut n) l))
    (sym (read_over g (take k l) (drop k l) (suc n) z (all_past (name_cut n) (name_cut (suc n)) (name_before n (suc n) (omega arith)) l) h) ∙ ap (λ w. at_place_in g w z) (take-append-drop k l))

-- and a reading below a name sees the rows below it alone
pub read_below : (g : ℕ) (l b : List Row) (n z : ℕ) → z < place (suc n) → ((h : ℕ) → at_place_in h b z ≡ Gap h) → at_place_in g (take (seat_in l n) l ++ b) z ≡ at_place_in g l z
unfolding seat_in
read_below g [] b n z k blank = blank g ∙ sym (read_nil g z)
read_below g (r ∷ l) b n z k blank = go (ltb r.name n) refl (order (row_place r) z) (read_below r.gap l b n z k blank)
  where
    go : (t : Bool) → ltb r.name n ≡ t → Order (row_place r) z → at_place_in r.gap (take (seat_in l n) l ++ b) z ≡ at_place_in r.gap l z
        → at_place_in g (take (cond t (suc (seat_in l n)) 0) (r ∷ l) ++ b) z ≡ at_place_in g (r ∷ l) z
    go true e (less h) i = read-less g r (take (seat_in l n) l ++ b) z h ∙ i ∙ sym (read-less g r l z h)
    go true e (same h) i = read_same g r (take (seat_in l n) l ++ b) z h ∙ sym (read_same g r l z h)
    go true e (more h) i = read_more g r (take (seat_in l n) l ++ b) z h ∙ sym (read_more g r l z h)
    go false e o i = blank g ∙ sym (read_more g r l z (omega (arith, ltb-false r.name n e)))

pub reading_at_lem : (g : ℕ) (l : List Row) (x : ℕ) → reading_in g l x ≡ at_place_in g l (place (suc x))
unfolding reading_in
reading_at_lem g [] x = sym (read_nil g (place (suc x)))
reading_at_lem g (r ∷ l) x = go (order r.name x) (reading_at_lem r.gap l x)
  where
    go : Order r.name x → reading_in r.gap l x ≡ at_place_in r.gap l (place (suc x))
        → cond (eqb r.name x) (Entry r.version r.value) (cond (ltb r.name x) (reading_in r.gap l x) (Gap g)) ≡ at_place_in g (r ∷ l) (place (suc x))
    go (less h) i = rw (ne_eqb r.name x (λ e. omega arith), lt-ltb r.name x h) (i ∙ sym (read-less g r l (place (suc x)) (omega arith)))
    go (same h) i = rw (eq-eqb r.name x h) (sym (read_same g r l (place (suc x)) (omega arith)))
    go (more h) i = rw (ne_eqb r.name x (λ e. omega arith), le-ltb r.name x (omega arith)) (sym (read_more g r l (place (suc x)) (omega arith)))

-- LOW, HIGH, and between them the rows.
pub at_low : (m : Member) → at_place m 0 ≡ Entry 0 0
unfolding at_place
at_low m = refl

pub at_high : (m : Member) (z : ℕ) → hi_place ≤ z → at_place m z ≡ Entry 0 0
unfolding at_place
at_high m z h = rw (ne_eqb z 0 (λ e. omega arith), le-leb hi_place z h)

pub at_rows : (m : Member) (z : ℕ) → 0 < z → z < hi_place → at_place m z ≡ at_place_in m.low (entries m) z
unfolding at_place
at_rows m z a b = rw (ne_eqb z 0 (λ e. omega arith), lt-leb hi_place z b)

-- What a member shows once it holds other entries: what these read, and where they read as before, what it showed before.
pub holding_at : (m : Member) (g : ℕ) (l : List Row) (z : ℕ) → 0 < z → z < hi_place → at_place (holding m g l) z ≡ at_place_in g l z
holding_at m g l z a b = at_rows (holding m g l) z a b ∙ rw (holding_low m g l, holding-entries m g l)

pub holding-same : (m : Member) (g : ℕ) (l : List Row) (z : ℕ) → (0 < z → z < hi_place → at_place_in g l z ≡ at_place_in m.low (entries m) z)
    → at_place (holding m g l) z ≡ at_place m z
holding-same m g l z h = go (order 0 z) (order z hi_place)
  where
    high-too : hi_place ≤ z → at_place (holding m g l) z ≡ at_place m z
    high-too k = at_high (holding m g l) z k ∙ sym (at_high m z k)

    go : Order 0 z → Order z hi_place → at_place (holding m g l) z ≡ at_place m z
    go (same e) o = rw (← e) (at_low (holding m g l) ∙ sym (at_low m))
    go (more e) o = absurd (omega arith)
    go (less e) (less k) = holding_at m g l z e k ∙ h e k ∙ sym (at_rows m z e k)
    go (less e) (same k) = high-too (omega arith)
    go (less e) (more k) = high-too (omega arith)

-- A member's reading at a name is what it shows at the name's place.
pub reading_is : (m : Member) (x : ℕ) → x ≤ largest_name → reading_of m x ≡ at_place m (place (suc x))
reading_is m x h = reading_at_lem m.low (entries m) x ∙ sym (at_rows m (place (suc x)) (omega arith) (omega arith))

-- Names alone have entries, and a gap has one version.
space_gap : (g : ℕ) (l : List Row) (e : ℕ) → IsGap (at_place_in g l (space_above e))
space_gap g [] e = rw (read_nil g (space_above e)) tt
space_gap g (r ∷ l) e = go (order (row_place r) (space_above e)) (space_gap r.gap l e)
  where
    go : Order (row_place r) (space_above e) → IsGap (at_place_in r.gap l (space_above e)) → IsGap (at_place_in g (r ∷ l) (space_above e))
    go (less h) i = rw (read-less g r l (space_above e) h) i
    go (same h) i = absurd (omega arith)
    go (more h) i = rw (read_more g r l (space_above e) h) tt

one_version : (g : ℕ) (l : List Row) (z : ℕ) → IsGap (at_place_in g l z) → IsGap (at_place_in g l (suc z)) → at_place_in g l z ≡ at_place_in g l (suc z)
one_version g [] z a b = read_nil g z ∙ sym (read_nil g (suc z))
one_version g (r ∷ l) z a b = go (order (row_place r) z) (order (row_place r) (suc z)) (one_version r.gap l z)
  where
    go : Order (row_place r) z → Order (row_place r) (suc z)
        → (IsGap (at_place_in r.gap l z) → IsGap (at_place_in r.gap l (suc z)) → at_place_in r.gap l z ≡ at_place_in r.gap l (suc z))
        → at_place_in g (r ∷ l) z ≡ at_place_in g (r ∷ l) (suc z)
    go (same h) o i = absurd (rw (read_same g r l z h) at a)
    go (less h) (less k) i = read-less g r l z h ∙ i (rw (read-less g r l z h) at a) (rw (read-less g r l (suc z) k) at b) ∙ sym (read-less g r l (suc z) k)
    go (less h) (same k) i = absurd (omega arith)
    go (less h) (more k) i = absurd (omega arith)
    go (more h) (less k) i = absurd (omega arith)
    go (more h) (same k) i = absurd (rw (read_same g r l (suc z) k) at b)
    go (more h) (more k) i = read_more g r l z h ∙ sym (read_more g r l (suc z) k)

pub shown_rules : (m : Member) → ShownRules hi_place (at_place m)
shown_rules m =
    record {
      low = at_low m;
      high = at_high m hi_place (omega arith);
      spaces = λ e h. rw (at_rows m (space_above e) (omega arith) (omega arith)) (space_gap m.low (entries m) e);
      one-gap = λ z h a b. one z h a b (order 0 z) (order (suc z) hi_place);
    }
  where
    one : (z : ℕ) → z < hi_place → IsGap (at_place m z) → IsGap (at_place m (suc z)) → Order 0 z → Order (suc z) hi_place → at_place m z ≡ at_place m (suc z)
    one z h a b (same e) o = absurd (subst IsGap (at_low m) (rw (← e) at a))
    one z h a b (more e) o = absurd (omega arith)
    one z h a b (less e) (same k) = absurd (rw (at_high m (suc z) (omega arith)) at b)
    one z h a b (less e) (more k) = absurd (omega arith)
    one z h a b (less e) (less k) =
        let p = at_rows m z e h in
        let q = at_rows m (suc z) (omega arith) k in
        p ∙ one_version m.low (entries m) z (rw p at a) (rw q at b) ∙ sym q

-- a bound that a member shows is bare where it is LOW or HIGH
pub shown-bare : (m : Member) (b : Bound) → at_place m (place b.end) ≡ bound_reading b → BareEnd b
shown-bare m b h = record { low = λ e. sym h ∙ rw e (at_low m); top = λ e. sym h ∙ at_high m (place b.end) (omega arith) }
