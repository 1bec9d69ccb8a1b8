-- What is left of round two, one entry less at a time.
use Rattle.member.specs.declared.Bound.{Bound}
use Rattle.std.specs.Prelude.{Option, Some, None}
use mathlib.Core.Path.{◌≡◌, refl, ap, ◌∙◌}
use mathlib.Core.List.{List, [], ◌∷◌, ◌++◌}
use mathlib.Core.Bool.{Bool, cond}
use Prim.Native.Nat.{ℕ, zero, suc, ◌+◌, ◌-◌, ◌≤◌, ◌<◌}
use native.Mathlib.Omega.{arith}
use native.Mathlib.Numerals.{add-one, sub-one}
use borrow.Author.Tests.{eq-eqb, ne_eqb}
use lib.Dec.{ltb}
use lib.ListN.{length, take, drop, get_or, drop_of_length-le}
use lib.Seq.{take-suc, drop-cons}
use Rattle.member.specs.Limits.{high}
use Rattle.member.specs.Tile.{none, entries, unused}
use Rattle.member.specs.Search.{end_of, seat_in, next_in}
use Rattle.member.specs.Rounds.{bare, bare_offer, offer_below_of, offer_above_of, offered, offer_of, last_offer, first_offer}
use Rattle.member.specs.declared.Row.{Row}
use Rattle.member.specs.declared.Member.{Member}
use Rattle.member.proofs.Rows.{entry_at}
use Rattle.member.proofs.Changes.{places}
use Rattle.member.proofs.Shift.{end-of-first}

-- the last of the entries is offered, or else it is the last offer before it
pub last_snoc : (k v : ℕ) (o : Option Bound) (l : List Row) (r : Row)
    → last_offer k v o (l ++ (r ∷ [])) ≡ cond (offered k v (ltb k (end_of r.name)) r) (offer_of r) (last_offer k v o l)
unfolding last_offer
last_snoc k v o [] r = refl
last_snoc k v o (q ∷ l) r = last_snoc k v (cond (offered k v (ltb k (end_of q.name)) q) (offer_of q) o) l r

-- LOW or HIGH is offered, or nothing
pub bare_is : (e k : ℕ) → k ≡ e → bare_offer e k ≡ Some (bare e)
bare_is e k h = rw (eq-eqb k e)

pub bare_not : (e k : ℕ) → (k ≡ e → ⊥) → bare_offer e k ≡ None
bare_not e k h = rw (ne_eqb k e)

-- at the place that the search gave, all of it is left
pub below_from : (m : Member) (x k v i : ℕ) → i ≡ seat_in (entries m) x
    → offer_below_of m x k v ≡ last_offer k v (bare_offer 0 k) (take i (entries m))
unfolding offer_below_of
below_from m x k v i s = rw s

pub above_from : (m : Member) (x k v i : ℕ) → i ≡ next_in (entries m) x
    → offer_above_of m x k v ≡ first_offer k v (bare_offer high k) (drop i (entries m))
unfolding offer_above_of
above_from m x k v i s = rw s

-- the entries from place i on are the rows from there to the last entry
pub rows_from : (m : Member) (i n : ℕ) → n ≡ length (entries m) → i ≤ n → take (n - i) (drop i m.rows) ≡ drop i (entries m)
rows_from m i n q h = rw q (rw (places m) at (end-of-first (entries m) (unused m) i (omega arith)))

-- one step down from place i, and one up from it; e is the end of the entry met there, and b whether it is offered
pub last_step : (m : Member) (k v i : ℕ) (o : Option Bound) (e : ℕ) (b : Bool) → 0 < i → i ≤ length (entries m)
    → e ≡ end_of (get_or m.rows (i - 1) none).name → b ≡ offered k v (ltb k e) (get_or m.rows (i - 1) none)
    → last_offer k v o (take i (entries m)) ≡ cond b (offer_of (get_or m.rows (i - 1) none)) (last_offer k v o (take (i - 1) (entries m)))
last_step m k v zero o e b p h s t = elim p [ ]
last_step m k v (suc i) o e b p h s t =
    let r = get_or m.rows i none in
    let t : b ≡ offered k v (ltb k (end_of r.name)) r = (rw sub-one at t) ∙ ap (λ (e : ℕ). offered k v (ltb k e) r) (rw sub-one at s) in
    rw (sub-one, t, ← entry_at m i h, take-suc (entries m) i none) (last_snoc k v o (take i (entries m)) (get_or (entries m) i none))

pub first_step : (k v : ℕ) (l : List Row) (i : ℕ) (o : Option Bound) (e : ℕ) (b : Bool) → i < length l
    → e ≡ end_of (get_or l i none).name → b ≡ offered k v (ltb e k) (get_or l i none)
    → first_offer k v o (drop i l) ≡ cond b (offer_of (get_or l i none)) (first_offer k v o (drop (i + 1) l))
unfolding first_offer
first_step k v l i o e b h s t =
    let r = get_or l i none in
    let t : b ≡ offered k v (ltb (end_of r.name) k) r = t ∙ ap (λ (e : ℕ). offered k v (ltb e k) r) s in
    rw (t, drop-cons l i none, add-one i)

-- where no entry is left
pub last_end : (k v : ℕ) (o : Option Bound) (l : List Row) (i : ℕ) → i ≤ 0 → last_offer k v o (take i l) ≡ o
unfolding last_offer
last_end k v o l zero h = refl
last_end k v o l (suc i) h = absurd (omega arith)

pub first_end : (k v : ℕ) (o : Option Bound) (l : List Row) (i : ℕ) → length l ≤ i → first_offer k v o (drop i l) ≡ o
unfolding first_offer
first_end k v o l i h = rw (drop_of_length-le l)
