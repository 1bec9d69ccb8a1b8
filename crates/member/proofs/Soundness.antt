-- What is left of the tests of soundness, one place less at a time.
use mathlib.Core.Path.{◌≡◌, refl, ap, sym, ◌∙◌}
use mathlib.Core.List.{List, [], ◌∷◌}
use mathlib.Core.Bool.{Bool, true, false, ◌&&◌}
use Prim.Native.Nat.{ℕ, zero, suc, ◌+◌, ◌-◌, ◌≤◌, ◌<◌}
use native.Mathlib.Omega.{arith}
use native.Mathlib.Numerals.{add-one}
use borrow.Author.Tests.{leb-true, le-leb, lt-leb}
use lib.Dec.{leb}
use lib.ListN.{length, take, drop, get_or, length-drop, drop_of_length-le}
use lib.Seq.{drop-cons, take_all}
use Rattle.std.specs.List.{list_all}
use Rattle.member.specs.Tile.{none, entries, unused}
use Rattle.member.specs.Sound.{in_range, is_none, ascends, all_none}
use Rattle.member.specs.declared.Row.{Row}
use Rattle.member.specs.declared.Member.{Member}

-- the row in place i ends the test where its name is below x; otherwise b, whether it is in range, decides
pub ascends_low : (x : ℕ) (l : List Row) (i : ℕ) → i < length l → (get_or l i none).name < x → ascends x (drop i l) ≡ false
unfolding ascends
ascends_low x l i h k = rw (drop-cons l i none, lt-leb x (get_or l i none).name)

pub ascends_step : (x : ℕ) (l : List Row) (i : ℕ) (b : Bool) → i < length l → x ≤ (get_or l i none).name → b ≡ in_range (get_or l i none)
    → ascends x (drop i l) ≡ b && ascends ((get_or l i none).name + 1) (drop (i + 1) l)
unfolding ascends
ascends_step x l i b h k t = rw (t, drop-cons l i none, add-one i, le-leb x (get_or l i none).name)

pub ascends_end : (l : List Row) (x i : ℕ) → length l ≤ i → ascends x (drop i l) ≡ true
unfolding ascends
ascends_end l x i h = rw (drop_of_length-le l)

-- the rows that the count counts are the entries
pub take_used : (m : Member) (n : ℕ) → n ≡ length (entries m) → take n m.rows ≡ entries m
take_used m n e = rw e (go m.count m.rows)
  where
    go : (n : ℕ) (l : List Row) → take (length (take n l)) l ≡ take n l
    go zero l = refl
    go (suc n) [] = refl
    go (suc n) (r ∷ l) = ap (λ (t : List Row). r ∷ t) (go n l)

-- in an unused place, b is whether it holds zero
pub none_step : (l : List Row) (i : ℕ) (b : Bool) → i < length l → b ≡ is_none (get_or l i none)
    → all_none (drop i l) ≡ b && all_none (drop (i + 1) l)
unfolding all_none
none_step l i b h t = rw (t, drop-cons l i none, add-one)

pub none_end : (l : List Row) (i : ℕ) → length l ≤ i → all_none (drop i l) ≡ true
unfolding all_none
none_end l i h = rw (drop_of_length-le l)

-- the unused places begin where the entries end
pub drop_used : (n : ℕ) (l : List Row) → drop (length (take n l)) l ≡ drop n l
drop_used zero l = refl
drop_used (suc n) [] = refl
drop_used (suc n) (r ∷ l) = drop_used n l

pub none_from : (m : Member) (i : ℕ) → i ≡ length (entries m) → all_none (unused m) ≡ all_none (drop i m.rows)
none_from m i e = rw (e, drop_used m.count m.rows)

-- and there is no more than they
none_each : (l : List Row) → list_all is_none l ≡ all_none l
unfolding all_none
none_each [] = refl
none_each (r ∷ l) = ap (λ (b : Bool). is_none r && b) (none_each l)

pub none_past : (m : Member) (n : ℕ) → n ≡ length (entries m)
    → list_all is_none (take (length m.rows - n) (drop n m.rows)) ≡ all_none (unused m)
none_past m n e =
    rw (take_all (length m.rows - n) (drop n m.rows) (rw (length-drop n m.rows) (omega arith))) (none_each (drop n m.rows)) ∙ sym (none_from m n e)

-- a name in range is at most the largest
pub in_range_name : (r : Row) → in_range r ≡ true → r.name ≤ 1048575
unfolding in_range
in_range_name r e = leb-true r.name 1048575 (left (leb r.name 1048575) _ e)
  where
    left : (a b : Bool) → (a && b) ≡ true → a ≡ true
    left true b e = refl
    left false b e = e
