-- What the definitions of a change of entries come to: other entries, as many as before, and a row dropped.
use mathlib.Core.Path.{◌≡◌, refl, ap}
use mathlib.Core.List.{List, ◌++◌}
use Prim.Native.Nat.{ℕ, ◌≤◌, ◌<◌}
use borrow.Author.Tests.{lt-ltb, le-ltb}
use lib.ListN.{length, drop, replicate, length-replicate, take-append-drop}
use lib.Seq.{drop_at}
use Rattle.member.specs.Tile.{none, entries, unused, holding}
use Rattle.member.specs.Change.{without, drop_of}
use Rattle.member.specs.declared.Row.{Row}
use Rattle.member.specs.declared.Member.{Member}

pub member_path : {a b c d : ℕ} {r s : List Row} → a ≡ b → c ≡ d → r ≡ s
    → ◌≡◌ {A = Member} (record { low = a; count = c; rows = r }) (record { low = b; count = d; rows = s })
member_path p q r = λ j. record { low = p j; count = q j; rows = r j }

-- a member's places are its entries and those unused
pub places : (m : Member) → entries m ++ unused m ≡ m.rows
places m = take-append-drop m.count m.rows

-- the places that are free where the entries are as many as they were
pub free_same : (n : ℕ) (u : List Row) → drop n (replicate n none ++ u) ≡ u
free_same n u = drop_at (replicate n none) u n (length-replicate n none)

-- other entries, as many as before
pub same_count : (m : Member) (g : ℕ) (l : List Row) → length l ≡ length (entries m)
    → holding m g l ≡ record { low = g; count = length (entries m); rows = l ++ unused m }
unfolding holding
same_count m g l e =
    member_path refl e (ap (λ (t : List Row). l ++ t) (rw e (free_same (length (entries m)) (unused m))))

pub drop_within : (m : Member) (i : ℕ) → i < length (entries m) → drop_of m i ≡ holding m m.low (without (entries m) i)
unfolding drop_of
drop_within m i h = rw (lt-ltb i (length (entries m)) h)

pub drop_past : (m : Member) (i : ℕ) → length (entries m) ≤ i → drop_of m i ≡ m
unfolding drop_of
drop_past m i h = rw (le-ltb i (length (entries m)) h)
