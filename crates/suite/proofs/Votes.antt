-- The votes gone through place by place: at most 15 in a member's place, none in an unused one.
use mathlib.Core.Path.{◌≡◌, refl, sym, ◌∙◌}
use mathlib.Core.Logic.{◌⊎◌, inl, inr}
use mathlib.Core.List.{List}
use mathlib.Core.Bool.{false, ◌&&◌}
use Prim.Native.Nat.{ℕ, zero, suc, ◌+◌, ◌-◌, ◌≤◌, ◌<◌}
use borrow.Author.Tests.{le-leb, lt-leb}
use lib.Dec.{leb, eqb-suc-zero, leb-suc-zero}
use lib.ListN.{length, drop, get_or}
use Rattle.suite.specs.Suite.{small_vote, no_vote, largest_vote}
use Rattle.suite.proofs.Used.{used_from, used-here, unused-here}

-- the largest vote that may stand in place i
abbrev pub Most : ℕ → ℕ → ℕ → Type 0
Most n i most = ((i < n) × (most ≡ largest_vote)) ⊎ ((n ≤ i) × (most ≡ 0))

zero-only : (v : ℕ) → no_vote v ≡ leb v 0
zero-only zero = refl
zero-only (suc v) = eqb-suc-zero v ∙ sym (leb-suc-zero v)

votes_here : (n i : ℕ) (l : List ℕ) (most : ℕ) → i < length l → Most n i most
    → used_from small_vote no_vote (n - i) (drop i l) ≡ leb (get_or l i 0) most && used_from small_vote no_vote (n - (i + 1)) (drop (i + 1) l)
votes_here n i l most h (inl (k, p)) = rw p (used-here small_vote no_vote n i l 0 h k)
votes_here n i l most h (inr (k, p)) = rw (p, ← zero-only (get_or l i 0)) (unused-here small_vote no_vote n i l 0 h k)

pub votes_stop : (n i : ℕ) (l : List ℕ) (most : ℕ) → i < length l → Most n i most → most < get_or l i 0
    → used_from small_vote no_vote (n - i) (drop i l) ≡ false
votes_stop n i l most h m k = votes_here n i l most h m ∙ rw (lt-leb (get_or l i 0) most k)

pub votes_on : (n i : ℕ) (l : List ℕ) (most : ℕ) → i < length l → Most n i most → get_or l i 0 ≤ most
    → used_from small_vote no_vote (n - i) (drop i l) ≡ used_from small_vote no_vote (n - (i + 1)) (drop (i + 1) l)
votes_on n i l most h m k = votes_here n i l most h m ∙ rw (le-leb (get_or l i 0) most k)
