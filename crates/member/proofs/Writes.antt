-- What a write comes to where the name has an entry, where it has none, and where there is no place left; and a row added above
-- the last.
use mathlib.Core.Path.{◌≡◌, refl, sym, ◌∙◌}
use mathlib.Core.List.{List, [], ◌∷◌, ◌++◌}
use mathlib.Core.Bool.{true}
use Prim.Native.Nat.{ℕ, ◌+◌, ◌≤◌, ◌<◌}
use native.Mathlib.Omega.{arith}
use native.Mathlib.Numerals.{add-one}
use borrow.Author.Tests.{lt-ltb, le-leb, lt-leb}
use lib.ListN.{length, take, drop, get_or, set, length-set}
use lib.Seq.{set_split, set-append_left, take-length, drop-length}
use Rattle.member.specs.Limits.{slots}
use Rattle.member.specs.Tile.{none, entries, unused, holding}
use Rattle.member.specs.Search.{seat_in, next_in, gap_below, end_below}
use Rattle.member.specs.Sound.{in_range}
use Rattle.member.specs.Change.{row_with, written, write_of, inserted_at, append_of}
use Rattle.member.specs.Normal.{written_is}
use Rattle.member.specs.declared.Row.{Row}
use Rattle.member.specs.declared.Member.{Member}
use Rattle.member.proofs.Rows.{entry_at}
use Rattle.member.proofs.Shift.{length_more}
use Rattle.member.proofs.Changes.{member_path, places, same_count}

-- an entry of the name takes the version and value, and keeps its gap
written_held : (g : ℕ) (l : List Row) (n v x i : ℕ) → i ≡ seat_in l n → i + 1 ≡ next_in l n → i < length l
    → written g l n v x ≡ set l i (row_with n v x (get_or l i none).gap)
written_held g l n v x i s t h =
    written_is g l n v x ∙ rw (← s, ← t, add-one, set_split l i (row_with n v x (get_or l i none).gap) h)

-- otherwise it is added, and both halves of the split gap keep that gap's version
written_new : (g : ℕ) (l : List Row) (n v x i : ℕ) → i ≡ seat_in l n → i ≡ next_in l n
    → written g l n v x ≡ take i l ++ (row_with n v x (gap_below g l i) ∷ drop i l)
written_new g l n v x i s t = written_is g l n v x ∙ rw (← s, ← t)

-- one entry in place of another
pub set_entry : (m : Member) (g i : ℕ) (r : Row) → i < length (entries m)
    → record { low = g; count = length (entries m); rows = set m.rows i r } ≡ holding m g (set (entries m) i r)
set_entry m g i r h =
    let e : set m.rows i r ≡ set (entries m) i r ++ unused m = rw (places m) at (set-append_left (entries m) (unused m) i r h) in
    member_path refl refl e ∙ sym (same_count m g (set (entries m) i r) (length-set (entries m) i r))

module _ (m : Member) (n v x : ℕ) where
  pub write_fits : (l : List Row) → written m.low (entries m) n v x ≡ l → length l ≤ slots → write_of m n v x ≡ holding m m.low l
  unfolding write_of
  write_fits l e h = rw (e, le-leb (length l) slots h)

  pub write-held : (i : ℕ) → i ≡ seat_in (entries m) n → i + 1 ≡ next_in (entries m) n → i < length (entries m) → length (entries m) ≤ slots
      → record { low = m.low; count = length (entries m); rows = set m.rows i (row_with n v x (get_or m.rows i none).gap) }
      ≡ write_of m n v x
  write-held i s t h k =
      let r = row_with n v x (get_or m.rows i none).gap in
      let e : written m.low (entries m) n v x ≡ set (entries m) i r =
      rw (entry_at m i h) at (written_held m.low (entries m) n v x i s t h) in
      set_entry m m.low i r h ∙ sym (write_fits (set (entries m) i r) e (rw (length-set (entries m) i r) k))

  module _ (i : ℕ) (s : i ≡ seat_in (entries m) n) (t : i ≡ next_in (entries m) n) (h : i ≤ length (entries m)) where
    pub write_new : (g : ℕ) → g ≡ gap_below m.low (entries m) i → length (entries m) < slots → inserted_at m i (row_with n v x g) ≡ write_of m n v x
    unfolding inserted_at
    write_new g q k =
        let r = row_with n v x g in
        let l = take i (entries m) ++ (r ∷ drop i (entries m)) in
        sym (write_fits l (rw (← q) at (written_new m.low (entries m) n v x i s t)) (rw (length_more (entries m) r i h) (omega arith)))

    pub write_full : slots ≤ length (entries m) → m ≡ write_of m n v x
    unfolding write_of
    write_full k =
        let r = row_with n v x (gap_below m.low (entries m) i) in
        let l = take i (entries m) ++ (r ∷ drop i (entries m)) in
        let e : length l ≡ length (entries m) + 1 = length_more (entries m) r i h in
        rw (written_new m.low (entries m) n v x i s t, lt-leb (length l) slots (omega arith))

-- A row above the last, where n counts the entries and b is the end of the last.
pub append-above : (m : Member) (r : Row) (n : ℕ) → n ≡ length (entries m) → n < slots → (b : ℕ) → b ≡ end_below (entries m) n
    → b ≤ r.name → in_range r ≡ true → inserted_at m n r ≡ append_of m r
unfolding inserted_at append_of
append-above m r n e h b q k t =
    let f : take n (entries m) ≡ entries m = rw (← e) at (take-length (entries m)) in
    let d : drop n (entries m) ≡ [] = rw (← e) at (drop-length (entries m)) in
    rw (← e, ← q, lt-ltb n slots h, le-leb b r.name k, t, f, d)
