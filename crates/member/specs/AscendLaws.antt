-- Rows that ascend and are in range: what of that a change of the rows keeps.
use Rattle.std.specs.Prelude.{◌≡◌, refl, List, [], ◌∷◌, ◌++◌, Bool, true, false, cond, ◌&&◌, ℕ, zero, suc, ◌+◌, ◌≤◌, ◌<◌, length, take, drop, ltb, leb, eqb}
use Rattle.std.proofs.Common.{subst, arith, add-one, leb-true, le-leb, ltb-true, ltb-false, eqb-true}
use Rattle.std.proofs.Math.Bool.{and-eq-true_iff}
use Rattle.std.proofs.lemmas.Bool.{eqb-false}
use Rattle.member.specs.Limits.{largest_name, largest_value, largest_version}
use Rattle.member.specs.Search.{seat_in, next_in, gap_below, end_below}
use Rattle.member.specs.Sound.{in_range, ascends}
use Rattle.member.specs.Normal.{gap_cons}
use Rattle.member.specs.declared.Row.{Row}

-- The parts of the two tests.
pub record InRange (r : Row) : Type 0 where
  pub name-max : r.name ≤ largest_name
  pub version-min : 1 ≤ r.version
  pub version-max : r.version ≤ largest_version
  pub value-max : r.value ≤ largest_value
  pub gap-max : r.gap ≤ largest_version

pub in_range_lem : (r : Row) → in_range r ≡ true → InRange r
unfolding in_range
in_range_lem r h =
    let a = leb r.name largest_name in
    let b = leb 1 r.version in
    let c = leb r.version largest_version in
    let d = leb r.value largest_value in
    let e = leb r.gap largest_version in
    let h₁ = (and-eq-true_iff a (b && (c && (d && e)))).0 h in
    let h₂ = (and-eq-true_iff b (c && (d && e))).0 h₁.1 in
    let h₃ = (and-eq-true_iff c (d && e)).0 h₂.1 in
    let h₄ = (and-eq-true_iff d e).0 h₃.1 in
    record {
      name-max = leb-true r.name largest_name h₁.0;
      version-min = leb-true 1 r.version h₂.0;
      version-max = leb-true r.version largest_version h₃.0;
      value-max = leb-true r.value largest_value h₄.0;
      gap-max = leb-true r.gap largest_version h₄.1;
    }

pub range_of : (r : Row) → InRange r → in_range r ≡ true
unfolding in_range
range_of r h =
    rw (
      le-leb r.name largest_name h.name-max,
      le-leb 1 r.version h.version-min,
      le-leb r.version largest_version h.version-max,
      le-leb r.value largest_value h.value-max,
      le-leb r.gap largest_version h.gap-max,
    )

-- rows whose names are x or greater, each above the one before
abbrev pub Ascends : ℕ → List Row → Type 0
Ascends x l = ascends x l ≡ true

pub asc_nil : (x : ℕ) → Ascends x []
unfolding ascends
asc_nil x = refl

pub asc_cons : (x : ℕ) (r : Row) (l : List Row) → x ≤ r.name → InRange r → Ascends (r.name + 1) l → Ascends x (r ∷ l)
unfolding ascends
asc_cons x r l h i k = rw (le-leb x r.name h, range_of r i) k

pub asc_parts : (x : ℕ) (r : Row) (l : List Row) → Ascends x (r ∷ l) → (x ≤ r.name) × InRange r × Ascends (r.name + 1) l
unfolding ascends
asc_parts x r l h =
    let h₁ = (and-eq-true_iff (leb x r.name) (in_range r && ascends (r.name + 1) l)).0 h in
    let h₂ = (and-eq-true_iff (in_range r) (ascends (r.name + 1) l)).0 h₁.1 in
    (leb-true x r.name h₁.0, in_range_lem r h₂.0, h₂.1)

pub asc_le : (x y : ℕ) (l : List Row) → x ≤ y → Ascends y l → Ascends x l
asc_le x y [] h k = asc_nil x
asc_le x y (r ∷ l) h k = let p = asc_parts y r l k in asc_cons x r l (omega (arith, p.0)) p.1 p.2

-- rows below a name, and then others from it on
pub asc_take : (x : ℕ) (l b : List Row) (n : ℕ) → Ascends x l → x ≤ n → Ascends n b → Ascends x (take (seat_in l n) l ++ b)
unfolding seat_in
asc_take x [] b n h k i = asc_le x n b k i
asc_take x (r ∷ l) b n h k i = let p = asc_parts x r l h in go (ltb r.name n) refl (λ u. asc_take (r.name + 1) l b n p.2 u i) p.0 p.1
  where
    go : (t : Bool) → ltb r.name n ≡ t → (r.name + 1 ≤ n → Ascends (r.name + 1) (take (seat_in l n) l ++ b)) → x ≤ r.name → InRange r
        → Ascends x (take (cond t (suc (seat_in l n)) 0) (r ∷ l) ++ b)
    go true e j u v = asc_cons x r (take (seat_in l n) l ++ b) u v (j (omega (arith, ltb-true r.name n e)))
    go false e j u v = asc_le x n b k i

-- the rows past a name
pub asc_drop : (x : ℕ) (l : List Row) (n : ℕ) → Ascends x l → Ascends (n + 1) (drop (next_in l n) l)
unfolding next_in
asc_drop x [] n h = asc_nil (n + 1)
asc_drop x (r ∷ l) n h = let p = asc_parts x r l h in go (ltb r.name n) (eqb r.name n) refl refl (asc_drop (r.name + 1) l n p.2) p
  where
    go : (t u : Bool) → ltb r.name n ≡ t → eqb r.name n ≡ u → Ascends (n + 1) (drop (next_in l n) l) → (x ≤ r.name) × InRange r × Ascends (r.name + 1) l
        → Ascends (n + 1) (drop (cond t (suc (next_in l n)) (cond u 1 0)) (r ∷ l))
    go true u e f i p = i
    go false true e f i p = subst (λ k. Ascends (k + 1) l) (eqb-true r.name n f) p.2
    go false false e f i p = asc_cons (n + 1) r l (far (ltb-false r.name n e) (eqb-false r.name n f)) p.1 p.2
      where
        far : n ≤ r.name → (r.name ≡ n → ⊥) → n + 1 ≤ r.name
        far a b = omega arith

-- without one row
pub asc_without : (x : ℕ) (l : List Row) (i : ℕ) → Ascends x l → Ascends x (take i l ++ drop (i + 1) l)
asc_without x [] zero h = h
asc_without x (r ∷ l) zero h = let p = asc_parts x r l h in asc_le x (r.name + 1) l (omega (arith, p.0)) p.2
asc_without x [] (suc i) h = rw (add-one (suc i)) h
asc_without x (r ∷ l) (suc i) h =
    let p = asc_parts x r l h in
    rw (add-one (suc i)) (asc_cons x r (take i l ++ drop (suc i) l) p.0 p.1 (rw (← add-one i) (asc_without (r.name + 1) l i p.2)))

-- with one more above the last
asc_last : (x : ℕ) (r : Row) (l : List Row) → Ascends x (r ∷ l) → x < end_below (r ∷ l) (length (r ∷ l))
asc_last x r [] h = let p = asc_parts x r [] h in rw (le-leb r.name largest_name p.1.name-max) (omega (arith, p.0))
asc_last x r (q ∷ l) h = let p = asc_parts x r (q ∷ l) h in omega (arith, asc_last (r.name + 1) q l p.2, p.0)

pub asc_snoc : (x : ℕ) (l : List Row) (r : Row) → Ascends x l → x ≤ r.name → end_below l (length l) ≤ r.name → InRange r → Ascends x (l ++ (r ∷ []))
asc_snoc x [] r h k e i = asc_cons x r [] k i (asc_nil (r.name + 1))
asc_snoc x (q ∷ []) r h k e i =
    let p = asc_parts x q [] h in
    let u : q.name + 1 ≤ r.name = rw (le-leb q.name largest_name p.1.name-max) at e in
    asc_cons x q (r ∷ []) p.0 p.1 (asc_cons (q.name + 1) r [] u i (asc_nil (r.name + 1)))
asc_snoc x (q ∷ (q' ∷ l)) r h k e i =
    let p = asc_parts x q (q' ∷ l) h in
    let u : q.name + 1 < end_below (q' ∷ l) (length (q' ∷ l)) = asc_last (q.name + 1) q' l p.2 in
    asc_cons x q (q' ∷ (l ++ (r ∷ []))) p.0 p.1 (asc_snoc (q.name + 1) (q' ∷ l) r p.2 (omega arith) e i)

-- every gap is in range
pub asc_gap : (x g : ℕ) (l : List Row) (i : ℕ) → Ascends x l → g ≤ largest_version → gap_below g l i ≤ largest_version
asc_gap x g l zero h k = k
asc_gap x g [] (suc i) h k = omega arith
asc_gap x g (r ∷ l) (suc i) h k = let p = asc_parts x r l h in rw (gap_cons g r l i) (asc_gap (r.name + 1) r.gap l i p.2 p.1.gap-max)
