-- What a coalescing shows, and whether it fits.
use Rattle.std.specs.Prelude.{◌≡◌, refl, ◌⊎◌, List, [], ◌∷◌, ◌++◌, Bool, true, false, cond, ◌&&◌, ℕ, suc, ◌-◌, ◌≤◌, ◌<◌, length, take, ltb, leb}
use Rattle.std.proofs.Math.Path.{sym}
use Rattle.std.proofs.Common.{ap, subst, ◌∙◌, inl, inr, arith, length-append, lt-ltb, le-ltb, ltb-true}
use Rattle.std.proofs.Math.ListN.{drop}
use Rattle.std.proofs.Math.Seq.{drop-length}
use Rattle.std.proofs.Math.Dec.{eqb-suc-zero}
use Rattle.member.specs.Limits.{largest_name, high, slots}
use Rattle.member.specs.Tile.{entries, holding}
use Rattle.member.specs.Search.{seat_in, next_in, below_end, past_end, gap_below}
use Rattle.member.specs.Rounds.{bare}
use Rattle.member.specs.Change.{row_with, coalesced, low_set, coalesce_of, fits_coalesce}
use Rattle.member.specs.SearchLaws.{name_cut, all-below}
use Rattle.member.specs.EndLaws.{EndKind, is_low, is_name, is_high, end_kind, below_low, below_name, past_name, past_high, bound, end_row, row_low, row_name, row_high}
use Rattle.member.specs.Normal.{gap_after, coalesced_is}
use Rattle.member.specs.Holding.{holding-entries}
use Rattle.member.specs.Places.{place, at_place_in, at_place, bound_reading, BareEnd, Joined}
use Rattle.member.specs.ReadingLaws.{read_nil, read_same, read-less, read_more, read_over, read_past, read_below, at_low, at_high, holding_at, holding-same}
use Rattle.member.specs.declared.Row.{Row}
use Rattle.member.specs.declared.Bound.{Bound}
use Rattle.member.specs.declared.Member.{Member}
use Rattle.member.specs.declared.Reading.TheVariants.{Entry, Gap}

-- Whether a coalescing fits does not depend on versions and values.
pub length-end_row : (b : Bound) (g : ℕ) → length (end_row b g) ≡ length (end_row (bare b.end) 0)
unfolding end_row
length-end_row b g = go (ltb 0 b.end && ltb b.end high) (row_with (b.end - 1) b.version b.value g) (row_with (b.end - 1) 0 0 0)
  where
    go : (t : Bool) (r r' : Row) → length (cond t (r ∷ []) []) ≡ length (cond t (r' ∷ []) [])
    go true r r' = refl
    go false r r' = refl

length_four : (a b c d b' c' : List Row) → length b ≡ length b' → length c ≡ length c' → length (a ++ (b ++ (c ++ d))) ≡ length (a ++ (b' ++ (c' ++ d)))
length_four a b c d b' c' h k = simp (length-append, h, k)

pub length-coalesced : (low : ℕ) (l : List Row) (P S : Bound) (g : ℕ) → P.end < S.end
    → length (coalesced low l P S g) ≡ length (coalesced low l (bare P.end) (bare S.end) 0)
length-coalesced low l P S g h =
    let gs = gap_below low l (past_end l S.end) in
    ap length (coalesced_is low l P S g h)
    ∙ length_four (take (below_end l P.end) l) (end_row P g) (end_row S gs) (drop (past_end l S.end) l) (end_row (bare P.end) 0)
    (end_row (bare S.end) gs) (length-end_row P g) (length-end_row S gs ∙ sym (length-end_row (bare S.end) gs))
    ∙ sym (ap length (coalesced_is low l (bare P.end) (bare S.end) 0 h))

pub fits_coalesce_lem : (m : Member) (P S : Bound) (g : ℕ) → P.end < S.end → fits_coalesce m P.end S.end ≡ leb (length (coalesced m.low (entries m) P S g)) slots
unfolding fits_coalesce
fits_coalesce_lem m P S g h = rw (lt-ltb P.end S.end h, length-coalesced m.low (entries m) P S g h)

pub coalesce_is : (m : Member) (P S : Bound) (g : ℕ) → P.end < S.end
    → coalesce_of m P S g ≡ cond (fits_coalesce m P.end S.end) (holding m (low_set m.low P.end g) (coalesced m.low (entries m) P S g)) m
unfolding coalesce_of
coalesce_is m P S g h = rw (lt-ltb P.end S.end h, fits_coalesce_lem m P S g h)

pub coalesce_fits : (m : Member) (P S : Bound) (g : ℕ) → P.end < S.end → fits_coalesce m P.end S.end ≡ true
    → coalesce_of m P S g ≡ holding m (low_set m.low P.end g) (coalesced m.low (entries m) P S g)
coalesce_fits m P S g h k = coalesce_is m P S g h ∙ rw k

-- ends that are not in order have nothing between them
pub coalesce_same : (m : Member) (P S : Bound) (g : ℕ) → S.end ≤ P.end → coalesce_of m P S g ≡ m
unfolding coalesce_of
coalesce_same m P S g h = rw (le-ltb P.end S.end h)

pub coalesce_entries : (m : Member) (P S : Bound) (g : ℕ) → P.end < S.end → fits_coalesce m P.end S.end ≡ true
    → entries (coalesce_of m P S g) ≡ coalesced m.low (entries m) P S g
coalesce_entries m P S g h k = rw (coalesce_fits m P S g h k) (holding-entries m (low_set m.low P.end g) (coalesced m.low (entries m) P S g))

pub coalesce_full : (m : Member) (P S : Bound) (g : ℕ) → fits_coalesce m P.end S.end ≡ false → coalesce_of m P S g ≡ m
unfolding coalesce_of fits_coalesce
coalesce_full m P S g k = go (ltb P.end S.end) refl k
  where
    go : (t : Bool) → ltb P.end S.end ≡ t → cond t (leb (length (coalesced m.low (entries m) (bare P.end) (bare S.end) 0)) slots) true ≡ false
        → cond t (cond (leb (length (coalesced m.low (entries m) P S g)) slots) (holding m (low_set m.low P.end g) (coalesced m.low (entries m) P S g)) m) m ≡ m
    go true e f = rw (length-coalesced m.low (entries m) P S g (ltb-true P.end S.end e), f)
    go false e f = refl

-- What the rows read after a coalescing. First from s on, with a gap g below them:
unfoldable from_end : ℕ → List Row → Bound → List Row
from_end low l S = end_row S (gap_below low l (past_end l S.end)) ++ drop (past_end l S.end) l

module _ (low g : ℕ) (l : List Row) (v x : ℕ) where
  before-end : (s z : ℕ) → z < place s → at_place_in g (from_end low l (bound s v x)) z ≡ Gap g
  unfolding from_end
  before-end s z h = go s (end_kind s) h
    where
      go : (s : ℕ) → EndKind s → z < place s → at_place_in g (end_row (bound s v x) (gap_below low l (past_end l s)) ++ drop (past_end l s) l) z ≡ Gap g
      go _ is_low h = absurd (omega arith)
      go _ (is_name {n} i) h = let gs = gap_below low l (past_end l (suc n)) in rw (row_name n v x gs i) (read_more g (row_with n v x gs) (drop (past_end l (suc n)) l) z h)
      go _ (is_high {e} i) h = rw (past_high l e i, row_high e v x (gap_below low l (length l)) i, drop-length l) (read_nil g z)

  module _ (n : ℕ) (i : n ≤ largest_name) where
    r : Row
    r = row_with n v x (gap_below low l (next_in l n))

    at_end_lem : at_place_in g (from_end low l (bound (suc n) v x)) (place (suc n)) ≡ Entry v x
    unfolding from_end r
    at_end_lem = rw (past_name l n i, row_name n v x (gap_below low l (next_in l n)) i) (read_same g r (drop (next_in l n) l) (place (suc n)) refl)

    past_end_lem : (z : ℕ) → place (suc n) < z → at_place_in g (from_end low l (bound (suc n) v x)) z ≡ at_place_in low l z
    unfolding from_end r
    past_end_lem z h = rw (past_name l n i, row_name n v x (gap_below low l (next_in l n)) i) (read-less g r (drop (next_in l n) l) z h ∙ read_past low l n z h)

-- then with the rows up to p below those.
unfoldable up_to_end : List Row → Bound → ℕ → List Row → List Row
up_to_end l P g b = take (below_end l P.end) l ++ (end_row P g ++ b)

module _ (low g : ℕ) (l b : List Row) (v x : ℕ) where
  module _ (n : ℕ) (i : n ≤ largest_name) where
    from-name : (z : ℕ) → place (suc n) ≤ z
        → at_place_in (low_set low (suc n) g) (up_to_end l (bound (suc n) v x) g b) z ≡ at_place_in (gap_after low (take (seat_in l n) l)) (row_with n v x g ∷ b) z
    unfolding up_to_end
    from-name z h =
        rw (eqb-suc-zero n, below_name l n i, row_name n v x g i)
        (read_over low (take (seat_in l n) l) (row_with n v x g ∷ b) n z (all-below (name_cut n) (name_cut n) (λ q e. e) l) (omega arith))

    at_name_lem : at_place_in (low_set low (suc n) g) (up_to_end l (bound (suc n) v x) g b) (place (suc n)) ≡ Entry v x
    at_name_lem = from-name (place (suc n)) (omega arith) ∙ read_same (gap_after low (take (seat_in l n) l)) (row_with n v x g) b (place (suc n)) refl

    before-name : (z : ℕ) → z < place (suc n) → at_place_in (low_set low (suc n) g) (up_to_end l (bound (suc n) v x) g b) z ≡ at_place_in low l z
    unfolding up_to_end
    before-name z h = rw (eqb-suc-zero n, below_name l n i, row_name n v x g i) (read_below low l (row_with n v x g ∷ b) n z h (λ k. read_more k (row_with n v x g) b z h))

  above-end : (p z : ℕ) → p < high → place p < z → at_place_in (low_set low p g) (up_to_end l (bound p v x) g b) z ≡ at_place_in g b z
  unfolding up_to_end
  above-end p z k h = go p (end_kind p) k h
    where
      go : (p : ℕ) → EndKind p → p < high → place p < z → at_place_in (low_set low p g) (take (below_end l p) l ++ (end_row (bound p v x) g ++ b)) z ≡ at_place_in g b z
      go _ is_low k h = rw (below_low l, row_low v x g)
      go _ (is_name {n} i) k h = from-name n i z (omega arith) ∙ read-less (gap_after low (take (seat_in l n) l)) (row_with n v x g) b z h
      go _ (is_high {e} i) k h = absurd (omega arith)

module _ (m : Member) (g : ℕ) where
  -- the member after it, by the ends
  after : Bound → Bound → Member
  after P S = holding m (low_set m.low P.end g) (up_to_end (entries m) P g (from_end m.low (entries m) S))

  above-p : (P S : Bound) (z : ℕ) → P.end < high → place P.end < z
      → at_place_in (low_set m.low P.end g) (up_to_end (entries m) P g (from_end m.low (entries m) S)) z ≡ at_place_in g (from_end m.low (entries m) S) z
  above-p P S z = above-end m.low g (entries m) (from_end m.low (entries m) S) P.version P.value P.end z

  lower-is : (S : Bound) (p v x : ℕ) → EndKind p → p < high → BareEnd (bound p v x) → at_place (after (bound p v x) S) (place p) ≡ Entry v x
  unfolding after
  lower-is S _ v x is_low k bare = at_low (after (bound 0 v x) S) ∙ sym (bare.low refl)
  lower-is S _ v x (is_name {n} i) k bare =
      holding_at m (low_set m.low (suc n) g) (up_to_end (entries m) (bound (suc n) v x) g (from_end m.low (entries m) S)) (place (suc n)) (omega arith) (omega arith)
      ∙ at_name_lem m.low g (entries m) (from_end m.low (entries m) S) v x n i
  lower-is S _ v x (is_high i) k bare = absurd (omega arith)

  upper_is : (P : Bound) (s v x : ℕ) → EndKind s → P.end < s → s ≤ high → BareEnd (bound s v x) → at_place (after P (bound s v x)) (place s) ≡ Entry v x
  unfolding after
  upper_is P _ v x is_low h k bare = absurd (omega arith)
  upper_is P _ v x (is_name {n} i) h k bare =
      holding_at m (low_set m.low P.end g) (up_to_end (entries m) P g (from_end m.low (entries m) (bound (suc n) v x))) (place (suc n)) (omega arith) (omega arith)
      ∙ above-p P (bound (suc n) v x) (place (suc n)) (omega arith) (omega arith)
      ∙ at_end_lem m.low g (entries m) v x n i
  upper_is P _ v x (is_high {e} i) h k bare = at_high (after P (bound e v x)) (place e) (omega arith) ∙ sym (bare.top (omega arith))

  between_is : (P S : Bound) (z : ℕ) → S.end ≤ high → place P.end < z → z < place S.end → at_place (after P S) z ≡ Gap g
  unfolding after
  between_is P S z k a b =
      holding_at m (low_set m.low P.end g) (up_to_end (entries m) P g (from_end m.low (entries m) S)) z (omega arith) (omega arith)
      ∙ above-p P S z (omega arith) a
      ∙ before-end m.low g (entries m) S.version S.value S.end z b

  below-is : (S : Bound) (p v x z : ℕ) → EndKind p → p < high → z < place p → at_place (after (bound p v x) S) z ≡ at_place m z
  unfolding after
  below-is S _ v x z is_low k h = absurd (omega arith)
  below-is S _ v x z (is_name {n} i) k h =
      holding-same m (low_set m.low (suc n) g) (up_to_end (entries m) (bound (suc n) v x) g (from_end m.low (entries m) S)) z
      (λ _ _. before-name m.low g (entries m) (from_end m.low (entries m) S) v x n i z h)
  below-is S _ v x z (is_high i) k h = absurd (omega arith)

  above-is : (P : Bound) (s v x z : ℕ) → EndKind s → P.end < s → s ≤ high → place s < z → at_place (after P (bound s v x)) z ≡ at_place m z
  unfolding after
  above-is P _ v x z is_low h k a = absurd (omega arith)
  above-is P _ v x z (is_name {n} i) h k a =
      holding-same m (low_set m.low P.end g) (up_to_end (entries m) P g (from_end m.low (entries m) (bound (suc n) v x))) z
      (λ _ _. above-p P (bound (suc n) v x) z (omega arith) (omega arith) ∙ past_end_lem m.low g (entries m) v x n i z a)
  above-is P _ v x z (is_high {e} i) h k a =
      holding-same m (low_set m.low P.end g) (up_to_end (entries m) P g (from_end m.low (entries m) (bound e v x))) z (λ _ b. absurd (omega arith))

pub coalesce_shows : (m : Member) (P S : Bound) (g : ℕ) → P.end < S.end → S.end ≤ high → BareEnd P → BareEnd S → fits_coalesce m P.end S.end ≡ true
    → Joined (place P.end) (place S.end) (bound_reading P) (bound_reading S) g (at_place m) (at_place (coalesce_of m P S g))
unfolding after up_to_end from_end
coalesce_shows m P S g h k bare_p bare_s fits =
    subst (λ w. Joined (place P.end) (place S.end) (bound_reading P) (bound_reading S) g (at_place m) (at_place w)) (sym is) shows
  where
    is : coalesce_of m P S g ≡ after m g P S
    is = coalesce_fits m P S g h fits ∙ ap (holding m (low_set m.low P.end g)) (coalesced_is m.low (entries m) P S g h)

    shows : Joined (place P.end) (place S.end) (bound_reading P) (bound_reading S) g (at_place m) (at_place (after m g P S))
    shows =
        record {
          lower = lower-is m g S P.end P.version P.value (end_kind P.end) (omega arith) bare_p;
          upper = upper_is m g P S.end S.version S.value (end_kind S.end) h k bare_s;
          between = λ z. between_is m g P S z k;
          outside = λ z. outside z;
        }
      where
        outside : (z : ℕ) → (z < place P.end) ⊎ (place S.end < z) → at_place (after m g P S) z ≡ at_place m z
        outside z (inl a) = below-is m g S P.end P.version P.value z (end_kind P.end) (omega arith) a
        outside z (inr a) = above-is m g P S.end S.version S.value z (end_kind S.end) h k a
