-- Round two: the test by which an entry is offered, and an answer that offers none.
use Rattle.std.specs.Prelude.{None}
use Rattle.std.specs.Prelude.{◌≡◌, refl, ◌⊎◌, ◌≢◌, List, ◌∷◌, Bool, true, false, ◌&&◌, ◌||◌, ℕ, ◌+◌, ◌≤◌, ◌<◌, ltb, eqb}
use Rattle.std.proofs.Common.{inl, inr, true≢false, arith, ltb-true, ltb-false, eqb-true}
use Rattle.std.proofs.lemmas.Bool.{false≢true, eqb-false}
use Rattle.member.specs.Search.{end_of}
use Rattle.member.specs.Rounds.{bound_of, offered}
use Rattle.member.specs.AscendLaws.{InRange}
use Rattle.member.specs.RoundOneLaws.{end_name}
use Rattle.member.specs.Places.{place, row_place, at_place_in, version, Shown, bound_reading, OffersBelow, OffersAbove, Passed, AnswersBelow, AnswersAbove}
use Rattle.member.specs.ReadingLaws.{read_same}
use Rattle.member.specs.declared.Row.{Row}
use Rattle.member.specs.declared.Bound.{Bound}
use Rattle.member.specs.declared.Reading.{Reading}

-- the test of an entry
pub offered_true : (k v : ℕ) (beyond : Bool) (r : Row) → offered k v beyond r ≡ true → (end_of r.name ≡ k) ⊎ ((beyond ≡ true) × (v < r.version))
offered_true k v beyond r h = go (eqb (end_of r.name) k) beyond (ltb v r.version) refl refl h
  where
    go : (a b c : Bool) → eqb (end_of r.name) k ≡ a → ltb v r.version ≡ c → (a || (b && c)) ≡ true → (end_of r.name ≡ k) ⊎ ((b ≡ true) × (v < r.version))
    go true b c e f h = inl (eqb-true (end_of r.name) k e)
    go false true true e f h = inr (refl, ltb-true v r.version f)
    go false true false e f h = absurd (false≢true h)
    go false false c e f h = absurd (false≢true h)

-- an entry offered is k or has a version above v
pub offered_counts : (k v : ℕ) (beyond : Bool) (r : Row) → offered k v beyond r ≡ true → (end_of r.name ≡ k) ⊎ (v < r.version)
offered_counts k v beyond r h = go (offered_true k v beyond r h)
  where
    go : (end_of r.name ≡ k) ⊎ ((beyond ≡ true) × (v < r.version)) → (end_of r.name ≡ k) ⊎ (v < r.version)
    go (inl a) = inl a
    go (inr a) = inr a.1

pub counts_at : (f : Shown) (k v : ℕ) (b : Bound) → f (place b.end) ≡ bound_reading b → (b.end ≡ k) ⊎ (v < b.version)
    → (place b.end ≡ place k) ⊎ (v < version (f (place b.end)))
counts_at f k v b s (inl a) = inl (omega arith)
counts_at f k v b s (inr a) = inr (rw s a)

pub offered_false : (k v : ℕ) (beyond : Bool) (r : Row) → offered k v beyond r ≡ false → (end_of r.name ≡ k → ⊥) × (beyond ≡ true → r.version ≤ v)
offered_false k v beyond r h = go (eqb (end_of r.name) k) beyond (ltb v r.version) refl refl h
  where
    go : (a b c : Bool) → eqb (end_of r.name) k ≡ a → ltb v r.version ≡ c → (a || (b && c)) ≡ false → (end_of r.name ≡ k → ⊥) × (b ≡ true → r.version ≤ v)
    go true b c e f h = absurd (true≢false h)
    go false true true e f h = absurd (true≢false h)
    go false true false e f h = (eqb-false (end_of r.name) k e, λ _. ltb-false v r.version f)
    go false false c e f h = (eqb-false (end_of r.name) k e, λ w. absurd (false≢true w))

-- an offered row is k or lies beyond it; a row that is not offered is passed
module _ (k v g : ℕ) (r : Row) (l : List Row) (i : InRange r) where
  pub row_at : at_place_in g (r ∷ l) (place (end_of r.name)) ≡ bound_reading (bound_of r)
  row_at = read_same g r l (place (end_of r.name)) (omega (arith, end_name r i))

  pub row-passed : (beyond : Bool) → (place k ≢ row_place r → beyond ≡ true) → offered k v beyond r ≡ false → (z : ℕ) → row_place r ≡ z
      → Passed (place k) v z (at_place_in g (r ∷ l) z)
  row-passed beyond far t z h =
      let q = offered_false k v beyond r t in
      let n : end_of r.name ≡ r.name + 1 = end_name r i in
      let apart : place k ≢ row_place r = λ e. q.0 (omega arith) in
      rw (read_same g r l z h) ((λ e. apart (omega arith)), q.1 (far apart))

-- where a member answers None, no place is offered
passed_not : (k v y : ℕ) (r : Reading) → Passed k v y r → (y ≡ k) ⊎ (v < version r) → ⊥
passed_not k v y r p (inl e) = p.0 e
passed_not k v y r p (inr h) = omega (arith, p.1)

pub none_below : (f : Shown) (k v x : ℕ) → AnswersBelow f k v x None → (y : ℕ) → OffersBelow f (place k) v x y → ⊥
none_below f k v x a y o = passed_not (place k) v y (f y) (a y o.reach o.under o.entry) o.counts

pub none_above : (f : Shown) (k v x : ℕ) → AnswersAbove f k v x None → (y : ℕ) → OffersAbove f (place k) v x y → ⊥
none_above f k v x a y o = passed_not (place k) v y (f y) (a y o.reach o.over o.entry) o.counts
