-- A coalescing as the code makes it: the rows past s moved to their place, then the rows of p and s put in front of them.
use mathlib.Core.Path.{◌≡◌, ap, sym, ◌∙◌}
use mathlib.Core.Bool.{Bool, true, false, cond, ◌&&◌}
use mathlib.Core.List.{List, [], ◌∷◌, ◌++◌, append_assoc}
use Prim.Native.Nat.{ℕ, ◌+◌, ◌-◌, ◌≤◌, ◌<◌}
use native.Mathlib.Omega.{arith}
use borrow.Author.Tests.{le-leb, lt-leb, ne_eqb}
use lib.Dec.{leb, ltb}
use lib.ListN.{length, take, drop, length-append}
use lib.Seq.{sets}
use Rattle.member.specs.Limits.{slots, high}
use Rattle.member.specs.Tile.{entries, holding}
use Rattle.member.specs.Search.{below_end, past_end, gap_below}
use Rattle.member.specs.Change.{row_with, low_set, coalesced, coalesce_of, fits_coalesce}
use Rattle.member.specs.SearchLaws.{end_cut, end_before, below-le-length, below-le-past, past-le, past-le-length}
use Rattle.member.specs.EndLaws.{end_row}
use Rattle.member.specs.Normal.{coalesced_is}
use Rattle.member.specs.CoalesceLaws.{length-end_row, coalesce_fits, coalesce_full}
use Rattle.member.specs.declared.Row.{Row}
use Rattle.member.specs.declared.Bound.{Bound}
use Rattle.member.specs.declared.Member.{Member}
use Rattle.member.proofs.Fits.{fits_sum}
use Rattle.member.specs.Steps.{moved_at, own, end_put}
use Rattle.member.proofs.Moves.{sets-append}
use Rattle.member.proofs.Moves.{put-moved}

-- What the code asks of the tile: k counts the entries, i those below p and j those at or below s; x and y are the rows of p and s.
pub record Asked (m : Member) (p s k i j x y : ℕ) : Type 0 where
  pub order : p < s
  pub all : k ≡ length (entries m)
  pub below : i ≡ below_end (entries m) p
  pub past : j ≡ past_end (entries m) s
  pub first : x ≡ own p
  pub last : y ≡ own s

module _ {m : Member} {p s k i j x y : ℕ} (a : Asked m p s k i j x y) where
  below_within : i ≤ length (entries m)
  below_within = omega (arith, below-le-length (end_cut p) (entries m))

  past-within : j ≤ length (entries m)
  past-within = omega (arith, past-le-length (end_cut s) (entries m))

  -- how many entries there are then
  pub room : leb (i + x + y + (k - j)) slots ≡ fits_coalesce m p s
  room = fits_sum m p s a.order (i + x + y + (k - j)) (omega (arith, past-within))

own_le : (e : ℕ) → own e ≤ 1
unfolding end_row
own_le e = go (ltb 0 e && ltb e high)
  where
    go : (b : Bool) → length (cond b (row_with (e - 1) 0 0 0 ∷ []) []) ≤ 1
    go true = omega arith
    go false = omega arith

-- both ends added and nothing dropped is the worst there is
pub fits_two : (m : Member) (p s n : ℕ) → p < s → n ≡ length (entries m) → n + 2 ≤ slots → true ≡ fits_coalesce m p s
fits_two m p s n h e k =
    let l = entries m in
    let a = below-le-past (end_cut p) l in
    let b = past-le (end_cut p) (end_cut s) (end_before p s h) l in
    let c = below-le-past (end_cut s) l in
    let d = past-le-length (end_cut s) l in
    let x = own_le p in
    let y = own_le s in
    let t = below_end l p + own p + own s + (n - past_end l s) in
    sym (le-leb t slots (omega arith)) ∙ fits_sum m p s h t (omega arith)

module _ (m : Member) (P S : Bound) (g : ℕ) {k i j x y : ℕ} (a : Asked m P.end S.end k i j x y) where
  pub coalesce-over : slots < i + x + y + (k - j) → m ≡ coalesce_of m P S g
  coalesce-over z = sym (coalesce_full m P S g (sym (room a) ∙ lt-leb (i + x + y + (k - j)) slots z))

  pub coalesce-put : i + x + y + (k - j) ≤ slots → length m.rows ≡ slots
      → (v : ℕ) (b c d : Member) → v ≡ gap_below m.low (entries m) j
      → b ≡ moved_at m j (i + x + y) → c ≡ end_put b i P g → d ≡ end_put c (i + x) S v → d ≡ coalesce_of m P S g
  unfolding moved_at
  coalesce-put z r v b c d qv pb pc pd =
      let l = entries m in
      let w = end_row P g ++ end_row S v in
      let low = low_set m.low P.end g in
      let e : length (end_row P g) ≡ x = length-end_row P g ∙ sym a.first in
      let o : low_set c.low S.end v ≡ low =
      rw (ne_eqb S.end 0 (λ n. omega arith)) (ap (λ (t : Member). t.low) pc ∙ ap (λ (t : Member). low_set t.low P.end g) pb) in
      let f : sets c.rows (i + x) (end_row S v) ≡ sets b.rows i w =
      ap (λ (t : Member). sets t.rows (i + x) (end_row S v)) pc ∙ rw e at (sets-append (end_row P g) (end_row S v) b.rows i) in
      let n : i + length w ≡ i + x + y = omega (arith, length-append (end_row P g) (end_row S v), length-end_row S v) in
      let q : take i l ++ (w ++ drop j l) ≡ coalesced m.low l P S g =
      rw (append_assoc (end_row P g) (end_row S v) (drop j l), qv, a.below, a.past) (sym (coalesced_is m.low l P S g a.order)) in
      pd
      ∙ (λ t. record { low = o t; count = (pc t).count; rows = f t })
      ∙ put-moved m j (i + x + y) (past-within a) (omega arith) b w i low pb (below_within a) n
      ∙ ap (λ (t : List Row). holding m low t) q
      ∙ sym (coalesce_fits m P S g a.order (sym (room a) ∙ le-leb (i + x + y + (k - j)) slots z))
