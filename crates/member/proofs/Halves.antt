-- A search made half by half: what a half says of the whole, and what all places say of those that are used.
use mathlib.Core.Path.{◌≡◌, refl, ap, sym}
use mathlib.Core.List.{List, [], ◌∷◌}
use mathlib.Core.Bool.{Bool, true, false, cond}
use Prim.Native.Nat.{ℕ, zero, suc, ◌+◌, ◌≤◌, ◌<◌, min}
use native.Mathlib.Nat.{zero-add}
use native.Mathlib.Omega.{arith}
use lib.Dec.{ltb, leb}
use borrow.Author.Tests.{leb-true, leb-false}
use lib.ListN.{length, take, drop, get_or, length-take, length-drop}
use lib.Seq.{get_or-drop, take_all}
use Rattle.member.specs.Tile.{none, entries}
use Rattle.member.specs.Search.{seat_in}
use Rattle.member.specs.declared.Row.{Row}
use Rattle.member.specs.declared.Member.{Member}
use Rattle.member.proofs.Rows.{seat_here, seat_on}

-- found among the first k, so found among all
pub seat_early : (l : List Row) (k x : ℕ) → seat_in (take k l) x < length (take k l) → seat_in l x ≡ seat_in (take k l) x
unfolding seat_in
seat_early l zero x h = absurd (omega arith)
seat_early [] (suc k) x h = absurd (omega arith)
seat_early (r ∷ l) (suc k) x h = go (ltb r.name x) (seat_early l k x) h
  where
    go : (b : Bool) → (seat_in (take k l) x < length (take k l) → seat_in l x ≡ seat_in (take k l) x)
        → cond b (suc (seat_in (take k l) x)) 0 < suc (length (take k l)) → cond b (suc (seat_in l x)) 0 ≡ cond b (suc (seat_in (take k l) x)) 0
    go true e h = ap suc (e (omega arith))
    go false e h = refl

-- not found there, so the search goes on behind them
pub seat_late : (l : List Row) (k x : ℕ) → length (take k l) ≤ seat_in (take k l) x → seat_in l x ≡ length (take k l) + seat_in (drop k l) x
unfolding seat_in
seat_late l zero x h = sym (zero-add (seat_in l x))
seat_late [] (suc k) x h = refl
seat_late (r ∷ l) (suc k) x h = go (ltb r.name x) (seat_late l k x) h
  where
    go : (b : Bool) → (length (take k l) ≤ seat_in (take k l) x → seat_in l x ≡ length (take k l) + seat_in (drop k l) x)
        → suc (length (take k l)) ≤ cond b (suc (seat_in (take k l) x)) 0 → cond b (suc (seat_in l x)) 0 ≡ suc (length (take k l)) + seat_in (drop k l) x
    go true e h = omega (arith, e (omega arith))
    go false e h = absurd (omega arith)

-- the same the other way: what all say, the first k say
pub seat_used : (l : List Row) (k x : ℕ) → seat_in l x < length (take k l) → seat_in l x ≡ seat_in (take k l) x
unfolding seat_in
seat_used l zero x h = absurd (omega arith)
seat_used [] (suc k) x h = absurd (omega arith)
seat_used (r ∷ l) (suc k) x h = go (ltb r.name x) (seat_used l k x) h
  where
    go : (b : Bool) → (seat_in l x < length (take k l) → seat_in l x ≡ seat_in (take k l) x)
        → cond b (suc (seat_in l x)) 0 < suc (length (take k l)) → cond b (suc (seat_in l x)) 0 ≡ cond b (suc (seat_in (take k l) x)) 0
    go true e h = ap suc (e (omega arith))
    go false e h = refl

pub seat_unused : (l : List Row) (k x : ℕ) → length (take k l) ≤ seat_in l x → length (take k l) ≡ seat_in (take k l) x
unfolding seat_in
seat_unused l zero x h = refl
seat_unused [] (suc k) x h = refl
seat_unused (r ∷ l) (suc k) x h = go (ltb r.name x) (seat_unused l k x) h
  where
    go : (b : Bool) → (length (take k l) ≤ seat_in l x → length (take k l) ≡ seat_in (take k l) x)
        → suc (length (take k l)) ≤ cond b (suc (seat_in l x)) 0 → suc (length (take k l)) ≡ cond b (suc (seat_in (take k l) x)) 0
    go true e h = ap suc (e (omega arith))
    go false e h = absurd (omega arith)

-- so the first k say the lesser of what all say and how many they are
pub seat_least : (l : List Row) (k x : ℕ) → min (seat_in l x) (length (take k l)) ≡ seat_in (take k l) x
seat_least l k x = go (leb (length (take k l)) (seat_in l x)) refl
  where
    go : (b : Bool) → leb (length (take k l)) (seat_in l x) ≡ b → min (seat_in l x) (length (take k l)) ≡ seat_in (take k l) x
    go true e = let h : length (take k l) ≤ seat_in l x = leb-true _ _ e in omega (arith, seat_unused l k x h)
    go false e = let h : seat_in l x < length (take k l) = leb-false _ _ e in omega (arith, seat_used l k x h)

-- 16 places from place i on, as a member that uses them all
abbrev pub half_from : Member → ℕ → Member
half_from m i = record { low = m.low; count = 16; rows = drop i m.rows }

-- a half has all its places
pub half_length : (m : Member) (from : ℕ) → length m.rows ≡ 32 → from ≤ 16 → length (entries (half_from m from)) ≡ 16
half_length m from e h =
    omega (arith, length-drop from m.rows, length-take 16 (drop from m.rows))

-- one place of a half, where r is the row that was read there
module _ (m : Member) (from i x : ℕ) (r : Row) (q : r ≡ get_or m.rows (from + i) none) (h : i < length (entries (half_from m from))) where
  named : r.name ≡ (get_or (drop from m.rows) i none).name
  named = rw (get_or-drop from m.rows i none) (ap (λ (r : Row). r.name) q)

  pub half-here : x ≤ r.name → seat_in (drop i (entries (half_from m from))) x ≡ 0
  half-here k = seat_here (half_from m from) i x h (omega (arith, named))

  pub half-on : r.name < x → seat_in (drop i (entries (half_from m from))) x ≡ suc (seat_in (drop (i + 1) (entries (half_from m from))) x)
  half-on k = seat_on (half_from m from) i x h (omega (arith, named))

-- the two halves of a member
module _ (m : Member) (r : length m.rows ≡ 32) (x a : ℕ) (e : a ≡ 0 + seat_in (entries (half_from m 0)) x) where
  pub first-half : a < 16 → a ≡ seat_in m.rows x
  first-half h = omega (arith, seat_early m.rows 16 x (omega (arith, half_length m 0 r (omega arith))))

  pub second-half : 16 ≤ a → (b : ℕ) → b ≡ 16 + seat_in (entries (half_from m 16)) x → b ≡ seat_in m.rows x
  second-half h b p =
      let n = half_length m 0 r (omega arith) in
      let t : take 16 (drop 16 m.rows) ≡ drop 16 m.rows = take_all 16 (drop 16 m.rows) (omega (arith, length-drop 16 m.rows)) in
      omega (arith, seat_late m.rows 16 x (omega arith), ap (λ (k : List Row). seat_in k x) t)
