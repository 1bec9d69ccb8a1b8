-- The place that the search gives decides the reading, and whether a write adds an entry.
use mathlib.Core.Path.{◌≡◌, refl, ap, sym, ◌∙◌, subst}
use mathlib.Core.List.{List, [], ◌∷◌}
use mathlib.Core.Bool.{Bool, true, false, cond}
use Prim.Native.Nat.{ℕ, zero, suc, ◌≤◌, ◌<◌}
use native.Mathlib.Omega.{arith}
use borrow.Author.Tests.{ltb-true, lt-ltb, le-ltb, eq-eqb, ne_eqb, le-leb, lt-leb}
use lib.Dec.{ltb, eqb, leb}
use lib.ListN.{length, get_or}
use Rattle.member.specs.Limits.{high}
use Rattle.member.specs.Tile.{none, entries, reading_in, reading_of}
use Rattle.member.specs.Search.{seat_in, next_in, gap_below, end_of, end_at}
use Rattle.member.specs.Change.{row_with, written, fits_write}
use Rattle.member.specs.declared.Row.{Row}
use Rattle.member.specs.declared.Member.{Member}
use Rattle.member.specs.declared.Reading.{Reading}
use Rattle.member.specs.declared.Reading.TheVariants.{Entry, Gap}
use Rattle.member.proofs.Rows.{entry_at}

-- a search ends among the entries, or just past them
pub seat_le : (l : List Row) (x : ℕ) → seat_in l x ≤ length l
unfolding seat_in
seat_le [] x = omega arith
seat_le (r ∷ l) x = go (ltb r.name x) (seat_in l x) (seat_le l x)
  where
    go : (b : Bool) (s : ℕ) → s ≤ length l → cond b (suc s) 0 ≤ suc (length l)
    go true s h = omega arith
    go false s h = omega arith

pub next_le : (l : List Row) (x : ℕ) → next_in l x ≤ length l
unfolding next_in
next_le [] x = omega arith
next_le (r ∷ l) x = go (ltb r.name x) (eqb r.name x) (next_in l x) (next_le l x)
  where
    go : (b d : Bool) (s : ℕ) → s ≤ length l → cond b (suc s) (cond d 1 0) ≤ suc (length l)
    go true d s h = omega arith
    go false true s h = omega arith
    go false false s h = omega arith

-- does an ascending list hold the name?
unfoldable pub held_in : List Row → ℕ → Bool
held_in [] x = false
held_in (r ∷ l) x = cond (ltb r.name x) (held_in l x) (eqb r.name x)

-- it is held where it stands in the place that the search gave, and past the last entry it is not
pub held_in_lem : (l : List Row) (x : ℕ) → seat_in l x < length l → held_in l x ≡ eqb (get_or l (seat_in l x) none).name x
unfolding seat_in held_in
held_in_lem [] x = λ h. absurd (omega arith)
held_in_lem (r ∷ l) x = go (ltb r.name x) (seat_in l x) (held_in l x) (held_in_lem l x)
  where
    go : (b : Bool) (s : ℕ) (t : Bool) → (s < length l → t ≡ eqb (get_or l s none).name x) → cond b (suc s) 0 < suc (length l)
        → cond b t (eqb r.name x) ≡ eqb (get_or (r ∷ l) (cond b (suc s) 0) none).name x
    go true s t f h = f (omega arith)
    go false s t f h = refl

pub held_past : (l : List Row) (x : ℕ) → length l ≤ seat_in l x → held_in l x ≡ false
unfolding seat_in held_in
held_past [] x = λ h. refl
held_past (r ∷ l) x = go (ltb r.name x) (seat_in l x) (held_in l x) (held_past l x)
  where
    go : (b : Bool) (s : ℕ) (t : Bool) → (length l ≤ s → t ≡ false) → suc (length l) ≤ cond b (suc s) 0
        → cond b t (eqb r.name x) ≡ false
    go true s t f h = f (omega arith)
    go false s t f h = absurd (omega arith)

-- the reading is the entry in that place, or else the gap below it
pub reading_at : ℕ → List Row → ℕ → Bool → Reading
reading_at g l i true = Entry (get_or l i none).version (get_or l i none).value
reading_at g l i false = Gap (gap_below g l i)

gap_above : (r : Row) (l : List Row) (i : ℕ) → gap_below r.gap l i ≡ (get_or (r ∷ l) i none).gap
gap_above r l zero = refl
gap_above r l (suc i) = refl

pub reading_at_lem : (g : ℕ) (l : List Row) (x : ℕ) → reading_in g l x ≡ reading_at g l (seat_in l x) (held_in l x)
unfolding seat_in held_in reading_in reading_at
reading_at_lem g [] x = refl
reading_at_lem g (r ∷ l) x = go (ltb r.name x) refl (seat_in l x) (held_in l x) (reading_in r.gap l x) (reading_at_lem r.gap l x)
  where
    below : (s : ℕ) (t : Bool) → reading_at r.gap l s t ≡ reading_at g (r ∷ l) (suc s) t
    below s true = refl
    below s false = ap Gap (gap_above r l s)

    here : (t : Bool) → cond t (Entry r.version r.value) (Gap g) ≡ reading_at g (r ∷ l) 0 t
    here true = refl
    here false = refl

    go : (b : Bool) → ltb r.name x ≡ b → (s : ℕ) (t : Bool) (a : Reading) → a ≡ reading_at r.gap l s t
        → cond (eqb r.name x) (Entry r.version r.value) (cond b a (Gap g))
        ≡ reading_at g (r ∷ l) (cond b (suc s) 0) (cond b t (eqb r.name x))
    go true e s t a h = rw (ne_eqb r.name x (λ q. omega (arith, ltb-true r.name x e))) (h ∙ below s t)
    go false e s t a h = here (eqb r.name x)

-- a write adds an entry unless the name is held
pub length-written : (g : ℕ) (l : List Row) (n v x : ℕ) → length (written g l n v x) ≡ cond (held_in l n) (length l) (suc (length l))
unfolding held_in written
length-written g [] n v x = refl
length-written g (r ∷ l) n v x =
    go (ltb r.name n) (held_in l n) (eqb r.name n) (written r.gap l n v x) (length-written r.gap l n v x)
  where
    go : (b t d : Bool) (w : List Row) → length w ≡ cond t (length l) (suc (length l))
        → length (cond b (r ∷ w) (cond d (row_with n v x r.gap ∷ l) (row_with n v x g ∷ (r ∷ l))))
        ≡ cond (cond b t d) (suc (length l)) (suc (suc (length l)))
    go true true d w h = ap suc h
    go true false d w h = ap suc h
    go false t true w h = refl
    go false t false w h = refl

-- The same on a member, at the place i that the search gave.
module _ (m : Member) (x i : ℕ) (s : i ≡ seat_in (entries m) x) where
  pub held-here : i < length (entries m) → held_in (entries m) x ≡ eqb (get_or m.rows i none).name x
  held-here h =
      rw (← entry_at m i h)
      (subst (λ (j : ℕ). j < length (entries m) → held_in (entries m) x ≡ eqb (get_or (entries m) j none).name x) (sym s)
      (held_in_lem (entries m) x) h)

  pub held-nowhere : length (entries m) ≤ i → held_in (entries m) x ≡ false
  held-nowhere h = held_past (entries m) x (omega arith)

  reading-here : (t : Bool) → held_in (entries m) x ≡ t → reading_at m.low (entries m) i t ≡ reading_of m x
  reading-here t e =
      sym (reading_at_lem m.low (entries m) x ∙ (λ j. reading_at m.low (entries m) (sym s j) (e j)))

  pub reads-entry : i < length (entries m) → (get_or m.rows i none).name ≡ x
      → Entry (get_or m.rows i none).version (get_or m.rows i none).value ≡ reading_of m x
  unfolding reading_at
  reads-entry h e = rw (← entry_at m i h) (reading-here true (held-here h ∙ eq-eqb _ x e))

  pub reads-gap : held_in (entries m) x ≡ false → (v : ℕ) → v ≡ gap_below m.low (entries m) i → Gap v ≡ reading_of m x
  unfolding reading_at
  reads-gap h v e = ap Gap e ∙ reading-here false h

-- with a place free a write fits; with none it fits where the name is held
pub fits_free : (m : Member) (n : ℕ) → length (entries m) < 32 → true ≡ fits_write m n
unfolding fits_write
fits_free m n h = rw (length-written m.low (entries m) n 0 0) (go (held_in (entries m) n))
  where
    go : (t : Bool) → true ≡ leb (cond t (length (entries m)) (suc (length (entries m)))) 32
    go true = sym (le-leb (length (entries m)) 32 (omega arith))
    go false = sym (le-leb (suc (length (entries m))) 32 (omega arith))

pub fits_full : (m : Member) (n : ℕ) → length (entries m) ≡ 32 → held_in (entries m) n ≡ fits_write m n
unfolding fits_write
fits_full m n h = rw (length-written m.low (entries m) n 0 0) (go (held_in (entries m) n))
  where
    go : (t : Bool) → t ≡ leb (cond t (length (entries m)) (suc (length (entries m)))) 32
    go true = sym (le-leb (length (entries m)) 32 (omega arith))
    go false = sym (lt-leb (suc (length (entries m))) 32 (omega arith))

-- the upper end of the gap below place i
pub end_entry : (m : Member) (i : ℕ) → i < length (entries m) → end_of (get_or m.rows i none).name ≡ end_at (entries m) i
end_entry m i h = rw (← entry_at m i h, lt-ltb i (length (entries m)))

pub end_high : (l : List Row) (i : ℕ) → length l ≤ i → high ≡ end_at l i
end_high l i h = rw (le-ltb i (length l))
