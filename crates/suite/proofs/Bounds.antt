-- No member, sound or not, offers an entry below whose end is past HIGH.
use Rattle.member.specs.declared.Bound.{Bound}
use Rattle.std.specs.Prelude.{Option, Some, None}
use mathlib.Core.Path.{◌≡◌, refl}
use mathlib.Core.List.{List, [], ◌∷◌}
use mathlib.Core.Bool.{Bool, true, false, cond}
use Prim.Native.Nat.{ℕ, ◌+◌, ◌≤◌}
use native.Mathlib.Omega.{arith}
use borrow.Author.Tests.{leb-true}
use lib.Dec.{leb, ltb, eqb}
use lib.ListN.{take}
use Rattle.member.specs.Limits.{largest_name, high}
use Rattle.member.specs.Tile.{entries}
use Rattle.member.specs.Search.{end_of, seat_in}
use Rattle.member.specs.Rounds.{offered, offer_of, last_offer, bare, bare_offer, offer_below_of}
use Rattle.member.specs.declared.Row.{Row}
use Rattle.member.specs.declared.Member.{Member}

abbrev pub end_within : Option Bound → Type 0
end_within (Some b) = b.end ≤ high
end_within None = Unit {0}

end_within_lem : (n : ℕ) → end_of n ≤ high
end_within_lem n = go (leb n largest_name) (leb-true n largest_name)
  where
    go : (b : Bool) → (b ≡ true → n ≤ largest_name) → cond b (n + 1) high ≤ high
    go true h = let k : n ≤ largest_name = h refl in omega arith
    go false h = omega arith

either : (b : Bool) (o p : Option Bound) → end_within o → end_within p → end_within (cond b o p)
either true o p h k = h
either false o p h k = k

last_within : (k v : ℕ) (o : Option Bound) (l : List Row) → end_within o → end_within (last_offer k v o l)
unfolding last_offer
last_within k v o [] h = h
last_within k v o (r ∷ l) h =
    last_within k v (cond (offered k v (ltb k (end_of r.name)) r) (offer_of r) o) l
    (either (offered k v (ltb k (end_of r.name)) r) (offer_of r) o (end_within_lem r.name) h)

pub below_within : (m : Member) (x k v : ℕ) → end_within (offer_below_of m x k v)
unfolding offer_below_of
below_within m x k v =
    last_within k v (bare_offer 0 k) (take (seat_in (entries m) x) (entries m))
    (either (eqb k 0) (Some (bare 0)) None (omega arith) tt)
