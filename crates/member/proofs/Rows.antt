-- Facts of lists of rows that the functions' proofs share.
use mathlib.Core.Path.{◌≡◌, refl, ap, sym, ◌∙◌, subst}
use mathlib.Core.List.{List, [], ◌∷◌, map}
use mathlib.Core.Bool.{Bool, true, false, cond}
use Prim.Native.Nat.{ℕ, zero, suc, ◌+◌, ◌-◌, ◌≤◌, ◌<◌}
use native.Mathlib.Omega.{arith}
use native.Mathlib.Numerals.{add-one, sub-one}
use borrow.Author.Tests.{lt-ltb, le-ltb, eq-eqb, ne_eqb}
use lib.Dec.{ltb, eqb}
use lib.ListN.{length, drop, get_or, length-take, length-map, drop_of_length-le}
use lib.Seq.{get_or-take, drop-cons}
use Rattle.member.specs.Tile.{none, entries}
use Rattle.member.specs.Search.{seat_in, next_in, gap_below, end_below, end_of}
use Rattle.member.specs.declared.Row.{Row}
use Rattle.member.specs.declared.Member.{Member}

-- an array of structs has its length by its elements' bits
pub length_of_map : {A B : Type 0} (f : A → B) (l : List A) (n : ℕ) → length (map f l) ≡ n → length l ≡ n
length_of_map f l n e = sym (length-map l f) ∙ e

-- no member has more entries than places
pub entries_le : (m : Member) (n : ℕ) → length m.rows ≡ n → length (entries m) ≤ n
entries_le m n e = simp length-take (omega arith)

-- an entry is what stands in its place
pub entry_at : (m : Member) (i : ℕ) → i < length (entries m) → get_or (entries m) i none ≡ get_or m.rows i none
entry_at m i h =
    let k : i < m.count = omega (arith, length-take m.count m.rows) in rw get_or-take

-- the search stops at the first entry that is not below the name, and goes on past one that is
pub seat_here : (m : Member) (i x : ℕ) → i < length (entries m) → x ≤ (get_or m.rows i none).name
    → seat_in (drop i (entries m)) x ≡ 0
unfolding seat_in
seat_here m i x h e =
    let e : x ≤ (get_or (entries m) i none).name = rw (entry_at m i h) e in
    rw (drop-cons (entries m) i none, le-ltb (get_or (entries m) i none).name x)

pub seat_on : (m : Member) (i x : ℕ) → i < length (entries m) → (get_or m.rows i none).name < x
    → seat_in (drop i (entries m)) x ≡ suc (seat_in (drop (i + 1) (entries m)) x)
unfolding seat_in
seat_on m i x h e =
    let e : (get_or (entries m) i none).name < x = rw (entry_at m i h) e in
    rw (drop-cons (entries m) i none, lt-ltb (get_or (entries m) i none).name x, add-one)

-- past the last entry there is nothing to search
pub seat_end : (l : List Row) (i x : ℕ) → length l ≤ i → seat_in (drop i l) x ≡ 0
unfolding seat_in
seat_end l i x h = rw (drop_of_length-le l)

-- at or below the name stand the entries below it and, if it is there, its own
pub next-held : (l : List Row) (x : ℕ) → seat_in l x < length l → (get_or l (seat_in l x) none).name ≡ x → next_in l x ≡ seat_in l x + 1
unfolding seat_in next_in
next-held [] x = λ h e. omega arith
next-held (r ∷ l) x = go (ltb r.name x) (seat_in l x) (next_in l x) (next-held l x)
  where
    go : (b : Bool) (s n : ℕ) → (s < length l → (get_or l s none).name ≡ x → n ≡ s + 1)
        → cond b (suc s) 0 < suc (length l) → (get_or (r ∷ l) (cond b (suc s) 0) none).name ≡ x
        → cond b (suc n) (cond (eqb r.name x) 1 0) ≡ cond b (suc s) 0 + 1
    go true s n f h e = let k : n ≡ s + 1 = f (omega arith) e in omega arith
    go false s n f h e = rw (eq-eqb r.name x e)

pub next_other : (l : List Row) (x : ℕ) → (seat_in l x < length l → (get_or l (seat_in l x) none).name ≡ x → ⊥) → next_in l x ≡ seat_in l x
unfolding seat_in next_in
next_other [] x = λ f. refl
next_other (r ∷ l) x = go (ltb r.name x) (seat_in l x) (next_in l x) (next_other l x)
  where
    go : (b : Bool) (s n : ℕ) → ((s < length l → (get_or l s none).name ≡ x → ⊥) → n ≡ s)
        → (cond b (suc s) 0 < suc (length l) → (get_or (r ∷ l) (cond b (suc s) 0) none).name ≡ x → ⊥)
        → cond b (suc n) (cond (eqb r.name x) 1 0) ≡ cond b (suc s) 0
    go true s n f h = ap suc (f (λ k e. h (omega arith) e))
    go false s n f h = rw (ne_eqb r.name x (h (omega arith)))

-- the same at the place that the search gave
pub next-held_rows : (m : Member) (x i : ℕ) → i ≡ seat_in (entries m) x → i < length (entries m) → (get_or m.rows i none).name ≡ x
    → i + 1 ≡ next_in (entries m) x
next-held_rows m x i s h e =
    let k : (get_or (entries m) i none).name ≡ x = rw (entry_at m i h) e in
    let t : (j : ℕ) → i ≡ j → j < length (entries m) × ((get_or (entries m) j none).name ≡ x) =
    λ j p. subst (λ (j : ℕ). (j < length (entries m)) × ((get_or (entries m) j none).name ≡ x)) p (h, k) in
    let n : next_in (entries m) x ≡ seat_in (entries m) x + 1 = next-held (entries m) x (t _ s).0 (t _ s).1 in
    omega arith

pub next_other_rows : (m : Member) (x i : ℕ) → i ≡ seat_in (entries m) x
    → (i < length (entries m) → (get_or m.rows i none).name ≡ x → ⊥) → i ≡ next_in (entries m) x
next_other_rows m x i s f =
    s ∙ sym
    (next_other (entries m) x
    (subst (λ (j : ℕ). j < length (entries m) → (get_or (entries m) j none).name ≡ x → ⊥) s
    (λ h e. f h (sym (ap (λ (r : Row). r.name) (entry_at m i h)) ∙ e))))

-- the gap and the end below a place that is not the lowest
pub gap_below_at : (m : Member) (i : ℕ) → 0 < i → i ≤ length (entries m) → (get_or m.rows (i - 1) none).gap ≡ gap_below m.low (entries m) i
gap_below_at m zero h k = elim h [ ]
gap_below_at m (suc i) h k = rw (sub-one, ← entry_at m i k)

pub end_below_at : (m : Member) (i : ℕ) → 0 < i → i ≤ length (entries m) → end_of (get_or m.rows (i - 1) none).name ≡ end_below (entries m) i
end_below_at m zero h k = elim h [ ]
end_below_at m (suc i) h k = rw (sub-one, ← entry_at m i k)
