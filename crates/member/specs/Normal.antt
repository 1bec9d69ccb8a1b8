-- A write and a coalescing as one list, split where the new rows stand.
use Rattle.std.specs.Prelude.{◌≡◌, refl, Bool, true, false, cond, ℕ, zero, suc, ◌+◌, ◌≤◌, ◌<◌, get_or, ltb, eqb}
use Rattle.std.proofs.Math.Path.{sym, ap}
use Rattle.std.proofs.Common.{◌∙◌, arith, add-zero, zero-add, suc-add, length-append, length-drop, le-ltb, ne_eqb, eq-eqb}
use mathlib.Core.List.{List, [], ◌∷◌, ◌++◌, append_assoc, append-nil}
use Rattle.std.proofs.Math.ListN.{length, take, drop}
use Rattle.std.proofs.Math.Seq.{take-length, drop-length, drop-drop, take-append-add, drop-append-add, set-append_seam, get_or-append_seam, set_out}
use Rattle.std.proofs.Math.Dec.{eqb-suc-zero}
use Rattle.member.specs.Limits.{largest_name}
use Rattle.member.specs.Tile.{none}
use Rattle.member.specs.Search.{seat_in, next_in, below_end, past_end, gap_below}
use Rattle.member.specs.Change.{row_with, written, written_end, cleared, regapped, gap_set, coalesced}
use Rattle.member.specs.SearchLaws.{name_cut, end_cut, end_before, all_append, all_cons, below-stop, past-here, below_append, past-append, all-below, length-below, past-le-length, past-from}
use Rattle.member.specs.EndLaws.{EndKind, is_low, is_name, is_high, end_kind, at_name_lem, below_low, below_name, below_high, past_low, past_name, past_high, bound, end_row, row_low, row_name, row_high, written_low, written_name, written-high}
use Rattle.member.specs.declared.Row.{Row}
use Rattle.member.specs.declared.Bound.{Bound}

-- the version of the gap above these rows, with a gap g below them
unfoldable pub gap_after : ℕ → List Row → ℕ
gap_after g [] = g
gap_after g (r ∷ l) = gap_after r.gap l

pub gap_cons : (g : ℕ) (r : Row) (l : List Row) (i : ℕ) → gap_below g (r ∷ l) (suc i) ≡ gap_below r.gap l i
gap_cons g r l zero = refl
gap_cons g r l (suc i) = refl

pub gap_below_lem : (g : ℕ) (l : List Row) (i : ℕ) → i ≤ length l → gap_below g l i ≡ gap_after g (take i l)
unfolding gap_after
gap_below_lem g l zero h = refl
gap_below_lem g [] (suc i) h = absurd (omega arith)
gap_below_lem g (r ∷ l) (suc i) h = gap_cons g r l i ∙ gap_below_lem r.gap l i (omega arith)

pub after-append : (g : ℕ) (a b : List Row) → gap_after g (a ++ b) ≡ gap_after (gap_after g a) b
unfolding gap_after
after-append g [] b = refl
after-append g (r ∷ a) b = after-append r.gap a b

pub gap_append : (g : ℕ) (a b : List Row) (i : ℕ) → gap_below g (a ++ b) (length a + i) ≡ gap_below (gap_after g a) b i
unfolding gap_after
gap_append g [] b i = rw (zero-add i)
gap_append g (r ∷ a) b i = rw (suc-add (length a) i) (gap_cons g r (a ++ b) (length a + i) ∙ gap_append r.gap a b i)

-- A write: the rows below the name, its row, the rows past it.
pub written_is : (g : ℕ) (l : List Row) (n v x : ℕ)
    → written g l n v x ≡ take (seat_in l n) l ++ (row_with n v x (gap_below g l (next_in l n)) ∷ drop (next_in l n) l)
unfolding written seat_in next_in
written_is g [] n v x = refl
written_is g (r ∷ l) n v x = go (ltb r.name n) (eqb r.name n) (written_is r.gap l n v x)
  where
    go : (a b : Bool) → written r.gap l n v x ≡ take (seat_in l n) l ++ (row_with n v x (gap_below r.gap l (next_in l n)) ∷ drop (next_in l n) l)
        → cond a (r ∷ written r.gap l n v x) (cond b (row_with n v x r.gap ∷ l) (row_with n v x g ∷ (r ∷ l)))
        ≡ take (cond a (suc (seat_in l n)) 0) (r ∷ l) ++ (row_with n v x (gap_below g (r ∷ l) (cond a (suc (next_in l n)) (cond b 1 0))) ∷ drop (cond a (suc (next_in l n)) (cond b 1 0)) (r ∷ l))
    go true b h = rw (gap_cons g r l (next_in l n), h)
    go false true h = refl
    go false false h = refl

-- The same at an end.
pub written_end_is : (g : ℕ) (l : List Row) (b : Bound)
    → written_end g l b ≡ take (below_end l b.end) l ++ (end_row b (gap_below g l (past_end l b.end)) ++ drop (past_end l b.end) l)
written_end_is g l b = go b.end b.version b.value (end_kind b.end)
  where
    go : (e v x : ℕ) → EndKind e → written_end g l (bound e v x) ≡ take (below_end l e) l ++ (end_row (bound e v x) (gap_below g l (past_end l e)) ++ drop (past_end l e) l)
    go _ v x is_low = rw (written_low g l v x, below_low l, past_low l, row_low v x g)
    go _ v x (is_name {n} h) = rw (written_name g l n v x h, below_name l n h, past_name l n h, row_name n v x (gap_below g l (next_in l n)) h) (written_is g l n v x)
    go _ v x (is_high {e} h) =
        rw
        (written-high g l e v x h, below_high l e h, past_high l e h, row_high e v x (gap_below g l (length l)) h, take-length l, drop-length l, append-nil l)

-- rows below the end stay in front of what is written
pub written_end-append : (g : ℕ) (a c : List Row) (b : Bound) → below_end a b.end ≡ length a → written_end g (a ++ c) b ≡ a ++ written_end (gap_after g a) c b
written_end-append g a c b h =
    written_end_is g (a ++ c) b
    ∙ rw (
      below_append (end_cut b.end) a c h,
      past-append (end_cut b.end) a c h,
      take-append-add a c (below_end c b.end),
      drop-append-add a c (past_end c b.end),
      gap_append g a c (past_end c b.end),
      written_end_is (gap_after g a) c b,
    ) (append_assoc a (take (below_end c b.end) c) (end_row b (gap_below (gap_after g a) c (past_end c b.end)) ++ drop (past_end c b.end) c))

-- the gap below a place past the first k
pub gap_drop : (g : ℕ) (l : List Row) (k i : ℕ) → k ≤ length l → gap_below (gap_below g l k) (drop k l) i ≡ gap_below g l (k + i)
gap_drop g l zero i h = rw (zero-add i)
gap_drop g [] (suc k) i h = absurd (omega arith)
gap_drop g (r ∷ l) (suc k) i h = rw (gap_cons g r l k, suc-add k i, gap_cons g r l (k + i)) (gap_drop r.gap l k i (omega arith))

-- an end once written is the first row that is not below it
written_end_stops : (b : Bound) (g : ℕ) (c : List Row) → 0 < b.end → below_end (end_row b g ++ drop (past_end c b.end) c) b.end ≡ 0
written_end_stops b g c = go b.end b.version b.value (end_kind b.end)
  where
    go : (e v x : ℕ) → EndKind e → 0 < e → below_end (end_row (bound e v x) g ++ drop (past_end c e) c) e ≡ 0
    go _ v x is_low l = absurd (omega arith)
    go _ v x (is_name {n} h) l =
        rw (row_name n v x g h, below_name (row_with n v x g ∷ drop (past_end c (suc n)) c) n h)
        (below-stop (name_cut n) (row_with n v x g) (drop (past_end c (suc n)) c) (le-ltb n n (omega arith)))
    go _ v x (is_high {e} h) l = rw (row_high e v x g h, past_high c e h, drop-length c, below_high [] e h)

-- a name's own row, above rows that stand below it
module _ (a b : List Row) (n v x g : ℕ) (i : n ≤ largest_name) (all : below_end a (suc n) ≡ length a) where
  pub seat-of : below_end (a ++ (row_with n v x g ∷ b)) (suc n) ≡ length a
  seat-of =
      below_append (end_cut (suc n)) a (row_with n v x g ∷ b) all
      ∙ rw (below_name (row_with n v x g ∷ b) n i, below-stop (name_cut n) (row_with n v x g) b (le-ltb n n (omega arith)), add-zero (length a))

  pub past_of : past_end (a ++ (row_with n v x g ∷ b)) (suc n) ≡ length a + 1
  past_of =
      past-append (end_cut (suc n)) a (row_with n v x g ∷ b) all
      ∙ rw (past_name (row_with n v x g ∷ b) n i, past-here (name_cut n) (row_with n v x g) b (le-ltb n n (omega arith)) (eq-eqb n n refl))

-- The steps of a coalescing, one after another.
module _ (low : ℕ) (l : List Row) (P S : Bound) (h : P.end < S.end) where
  unfoldable pub A : List Row
  A = take (below_end l P.end) l

  unfoldable pub gp : ℕ
  gp = gap_below low l (past_end l P.end)

  unfoldable pub C : List Row
  C = drop (past_end l P.end) l

  unfoldable pub front : List Row
  front = A ++ end_row P gp

  pub front_below : below_end front S.end ≡ length front
  unfolding front A
  front_below =
      all_append (end_cut S.end) A (end_row P gp) (all-below (end_cut P.end) (end_cut S.end) (end_before P.end S.end h).lower l)
      (go P.end P.version P.value (end_kind P.end) h)
    where
      go : (e v x : ℕ) → EndKind e → e < S.end → below_end (end_row (bound e v x) gp) S.end ≡ length (end_row (bound e v x) gp)
      go _ v x is_low k = rw (row_low v x gp) (end_cut S.end).below-nil
      go _ v x (is_name {n} i) k =
          rw (row_name n v x gp i)
          (all_cons (end_cut S.end) (row_with n v x gp) [] ((end_before (suc n) S.end k).same (row_with n v x gp) (at_name_lem n i (row_with n v x gp) refl)) (end_cut S.end).below-nil)
      go _ v x (is_high {e} i) k = rw (row_high e v x gp i) (end_cut S.end).below-nil

  front-gap : gap_after low front ≡ gp
  unfolding front A gp gap_after
  front-gap = go P.end P.version P.value (end_kind P.end)
    where
      go : (e v x : ℕ) → EndKind e → gap_after low (take (below_end l e) l ++ end_row (bound e v x) (gap_below low l (past_end l e))) ≡ gap_below low l (past_end l e)
      go _ v x is_low = rw (below_low l, past_low l, row_low v x low)
      go _ v x (is_name {n} i) =
          rw (row_name n v x (gap_below low l (past_end l (suc n))) i)
          (after-append low (take (below_end l (suc n)) l) (row_with n v x (gap_below low l (past_end l (suc n))) ∷ []))
      go _ v x (is_high {e} i) =
          rw (row_high e v x (gap_below low l (past_end l e)) i, append-nil (take (below_end l e) l), below_high l e i, past_high l e i)
          (sym (gap_below_lem low l (length l) (omega arith)))

  pub both : written_end low (written_end low l P) S ≡ front ++ written_end gp C S
  unfolding front A C gp
  both =
      ap (λ w. written_end low w S) (written_end_is low l P ∙ sym (append_assoc A (end_row P gp) C))
      ∙ written_end-append low front C S front_below
      ∙ ap (λ k. front ++ written_end k C S) front-gap

  -- what is kept up to p
  kept_low : take (past_end (front ++ written_end gp C S) P.end) (front ++ written_end gp C S) ≡ front
  unfolding front A C gp
  kept_low = go P.end P.version P.value S.end S.version S.value (end_kind P.end) h
    where
      go : (e v x s w y : ℕ) → EndKind e → e < s
          → let g = gap_below low l (past_end l e) in
          let a = take (below_end l e) l ++ end_row (bound e v x) g in
          let b = a ++ written_end g (drop (past_end l e) l) (bound s w y) in
          take (past_end b e) b ≡ a
      go _ v x s w y is_low k = rw (below_low l, past_low l, row_low v x low, past_low (written_end low l (bound s w y)))
      go _ v x s w y (is_name {n} i) k =
          let g = gap_below low l (past_end l (suc n)) in
          let a = take (below_end l (suc n)) l in
          let b = written_end g (drop (past_end l (suc n)) l) (bound s w y) in
          rw (
            row_name n v x g i,
            append_assoc a (row_with n v x g ∷ []) b,
            past_of a b n v x g i (all-below (end_cut (suc n)) (end_cut (suc n)) (λ r q. q) l),
            take-append-add a (row_with n v x g ∷ b) 1,
          )
      go _ v x s w y (is_high {e} i) k =
          let a = take (below_end l e) l in
          rw (
            row_high e v x (gap_below low l (past_end l e)) i,
            append-nil a,
            past_high l e i,
            drop-length l,
            written-high (gap_below low l (length l)) [] s w y (omega arith),
            append-nil a,
            past_high a e i,
          ) (take-length a)

  -- what is kept from s on
  kept_high : drop (below_end (front ++ written_end gp C S) S.end) (front ++ written_end gp C S) ≡ end_row S (gap_below low l (past_end l S.end)) ++ drop (past_end l S.end) l
  unfolding C gp
  kept_high =
      let s = S.end in
      let T = take (below_end C s) C in
      let E = end_row S (gap_below gp C (past_end C s)) ++ drop (past_end C s) C in
      rw (
        below_append (end_cut s) front (written_end gp C S) front_below,
        drop-append-add front (written_end gp C S) (below_end (written_end gp C S) s),
        written_end_is gp C S,
        below_append (end_cut s) T E (all-below (end_cut s) (end_cut s) (λ r q. q) C),
        drop-append-add T E (below_end E s),
        written_end_stops S (gap_below gp C (past_end C s)) C (omega arith),
        drop-drop (past_end C s) (past_end l P.end) l,
        gap_drop low l (past_end l P.end) (past_end C s) (past-le-length (end_cut P.end) l),
        past-from (end_cut P.end) (end_cut s) (end_before P.end s h) l,
      )

-- the gap above an end, whose row stands above rows that are below it
pub gap_set_is : (a Y : List Row) (P : Bound) (g g' : ℕ) → below_end a P.end ≡ length a
    → gap_set (a ++ end_row P g ++ Y) P.end g' ≡ a ++ (end_row P g' ++ Y)
unfolding gap_set
gap_set_is a Y P g g' = go P.end P.version P.value (end_kind P.end)
  where
    go : (e v x : ℕ) → EndKind e → below_end a e ≡ length a → gap_set (a ++ end_row (bound e v x) g ++ Y) e g' ≡ a ++ (end_row (bound e v x) g' ++ Y)
    go _ v x is_low h = rw (row_low v x g, row_low v x g', append-nil a)
    go _ v x (is_name {n} i) h =
        rw (
          row_name n v x g i,
          row_name n v x g' i,
          append_assoc a (row_with n v x g ∷ []) Y,
          eqb-suc-zero n,
          seat-of a Y n v x g i h,
          get_or-append_seam a (row_with n v x g) Y none,
        ) (set-append_seam a (row_with n v x g) Y (row_with n v x g'))
    go _ v x (is_high {e} i) h =
        rw (row_high e v x g i, row_high e v x g' i, append-nil a, ne_eqb e 0 (λ z. omega arith), below_high (a ++ Y) e i)
        (set_out (a ++ Y) (length (a ++ Y)) (regapped g' (get_or (a ++ Y) (length (a ++ Y)) none)) (omega arith))

-- Coalescing p..s: the rows below p, the rows of p and s, the rows past s. s keeps the version of the gap in which it stood.
pub coalesced_is : (low : ℕ) (l : List Row) (P S : Bound) (g : ℕ) → P.end < S.end
    → coalesced low l P S g
    ≡ take (below_end l P.end) l ++ (end_row P g ++ (end_row S (gap_below low l (past_end l S.end)) ++ drop (past_end l S.end) l))
unfolding coalesced cleared front A gp C
coalesced_is low l P S g h =
    rw (both low l P S h, kept_low low l P S h, kept_high low l P S h)
    (gap_set_is (take (below_end l P.end) l) (end_row S (gap_below low l (past_end l S.end)) ++ drop (past_end l S.end) l) P
    (gap_below low l (past_end l P.end)) g (all-below (end_cut P.end) (end_cut P.end) (λ r q. q) l))

-- How many rows there are then.
pub written-length : (g : ℕ) (l : List Row) (n v x : ℕ) → length (written g l n v x) + next_in l n ≡ seat_in l n + 1 + length l
written-length g l n v x =
    rw (
      written_is g l n v x,
      length-append (take (seat_in l n) l) (row_with n v x (gap_below g l (next_in l n)) ∷ drop (next_in l n) l),
      length-below (name_cut n) l,
      length-drop (next_in l n) l,
    ) (omega (arith, past-le-length (name_cut n) l))

pub coalesced-length : (low : ℕ) (l : List Row) (P S : Bound) (g : ℕ) → P.end < S.end
    → length (coalesced low l P S g) + past_end l S.end ≡ below_end l P.end + length (end_row P g) + length (end_row S (gap_below low l (past_end l S.end))) + length l
coalesced-length low l P S g h =
    let E = end_row S (gap_below low l (past_end l S.end)) in
    let D = drop (past_end l S.end) l in
    rw (
      coalesced_is low l P S g h,
      length-append (take (below_end l P.end) l) (end_row P g ++ (E ++ D)),
      length-append (end_row P g) (E ++ D),
      length-append E D,
      length-below (end_cut P.end) l,
      length-drop (past_end l S.end) l,
    ) (omega (arith, past-le-length (end_cut S.end) l))
