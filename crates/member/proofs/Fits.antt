-- How many entries a coalescing leaves: those below p and above s, and one for each of p and s that is a name.
use mathlib.Core.Path.{◌≡◌, refl, sym, ◌∙◌}
use mathlib.Core.List.{List}
use mathlib.Core.Bool.{true}
use Prim.Native.Nat.{ℕ, suc, ◌+◌, ◌-◌, ◌≤◌, ◌<◌}
use native.Mathlib.Omega.{arith}
use borrow.Author.Tests.{lt-ltb, le-ltb, le-leb}
use lib.Dec.{leb}
use lib.ListN.{length}
use Rattle.member.specs.Limits.{slots, high}
use Rattle.member.specs.Tile.{entries}
use Rattle.member.specs.Search.{seat_in, next_in, below_end, past_end, gap_below}
use Rattle.member.specs.Rounds.{bare}
use Rattle.member.specs.Change.{coalesced, fits_coalesce}
use Rattle.member.specs.EndLaws.{EndKind, is_low, is_name, is_high, end_kind, end_row, below_low, past_low, below_name, past_name, below_high, past_high}
use Rattle.member.specs.Normal.{coalesced-length}
use Rattle.member.specs.CoalesceLaws.{length-end_row}
use Rattle.member.specs.declared.Row.{Row}
use Rattle.member.specs.declared.Member.{Member}

-- the rows of an end's own
abbrev pub own : ℕ → ℕ
own e = length (end_row (bare e) 0)

pub own_low : (e : ℕ) → e ≡ 0 → own e ≡ 0
unfolding end_row
own_low e h = rw (le-ltb 0 e (omega arith))

pub own_name : (e : ℕ) → 0 < e → e < high → own e ≡ 1
unfolding end_row
own_name e h k = rw (lt-ltb 0 e h, lt-ltb e high k)

pub own-high : (e : ℕ) → high ≤ e → own e ≡ 0
unfolding end_row
own-high e h = rw (lt-ltb 0 e (omega arith), le-ltb e high h)

-- nothing stands at LOW and HIGH, and what stands at another end has its name
pub past_name_end : (l : List Row) (e : ℕ) → own e ≡ 1 → (1 ≤ e) × (below_end l e ≡ seat_in l (e - 1)) × (next_in l (e - 1) ≡ past_end l e)
past_name_end l e h = go e (end_kind e) h
  where
    go : (e : ℕ) → EndKind e → own e ≡ 1 → (1 ≤ e) × (below_end l e ≡ seat_in l (e - 1)) × (next_in l (e - 1) ≡ past_end l e)
    go _ is_low h = absurd (omega (arith, own_low 0 refl))
    go _ (is_name {n} p) h =
        let z : suc n - 1 ≡ n = omega arith in
        (omega arith, rw z (below_name l n p), rw z (sym (past_name l n p)))
    go e (is_high p) h = absurd (omega (arith, own-high e p))

pub past_bare_end : (l : List Row) (e : ℕ) → (own e ≡ 1 → ⊥) → below_end l e ≡ past_end l e
past_bare_end l e h = go e (end_kind e) h
  where
    go : (e : ℕ) → EndKind e → (own e ≡ 1 → ⊥) → below_end l e ≡ past_end l e
    go _ is_low h = below_low l ∙ sym (past_low l)
    go _ (is_name {n} p) h = absurd (h (own_name (suc n) (omega arith) (omega arith)))
    go e (is_high p) h = below_high l e p ∙ sym (past_high l e p)

module _ (m : Member) (p s : ℕ) where
  pub fits-order : s ≤ p → true ≡ fits_coalesce m p s
  unfolding fits_coalesce
  fits-order h = rw (le-ltb p s h)

  module _ (h : p < s) where
    pub fits_sum : (n : ℕ) → n + past_end (entries m) s ≡ below_end (entries m) p + own p + own s + length (entries m)
        → leb n slots ≡ fits_coalesce m p s
    unfolding fits_coalesce
    fits_sum n e =
        let l = entries m in
        let k : length (coalesced m.low l (bare p) (bare s) 0) ≡ n =
        omega (arith, coalesced-length m.low l (bare p) (bare s) 0 h, length-end_row (bare s) (gap_below m.low l (past_end l s))) in
        rw (lt-ltb p s h, k)

    pub fits-high : high ≤ p → length (entries m) ≤ slots → true ≡ fits_coalesce m p s
    fits-high k n =
        let l = entries m in
        sym (le-leb (length l) slots n)
        ∙ fits_sum (length l)
        (omega (arith, own-high p k, own-high s (omega arith), below_high l p k, past_high l s (omega arith)))
