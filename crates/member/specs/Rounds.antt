-- The answers of a member to the two rounds of a neighbour query.
use Rattle.std.specs.Prelude.{Option, Some, None}
use Rattle.std.specs.Prelude.{List, [], ◌∷◌, Bool, cond, ◌&&◌, ◌||◌, ℕ, take, drop, ltb, eqb}
use Rattle.member.specs.Limits.{high}
use Rattle.member.specs.Tile.{entries, reading_of}
use Rattle.member.specs.Search.{end_of, seat_in, next_in, gap_below, end_below, end_at}
use Rattle.member.specs.declared.Row.{Row}
use Rattle.member.specs.declared.Member.{Member}
use Rattle.member.specs.declared.Side.{Side}
use Rattle.member.specs.declared.Around.{Around}
use Rattle.member.specs.declared.Bound.{Bound}

-- Round one: the version and lower end of its gap next below x;
abbrev pub below_of : Member → ℕ → Side
below_of m x =
    record { version = gap_below m.low (entries m) (seat_in (entries m) x); end = end_below (entries m) (seat_in (entries m) x) }

-- the version and upper end of its gap next above x. Where x is no entry, both are the gap around x.
abbrev pub above_of : Member → ℕ → Side
above_of m x =
    record { version = gap_below m.low (entries m) (next_in (entries m) x); end = end_at (entries m) (next_in (entries m) x) }

abbrev pub around_of : Member → ℕ → Around
around_of m x = record { reading = reading_of m x; below = below_of m x; above = above_of m x }

-- an entry as an answer gives it
abbrev pub bound_of : Row → Bound
bound_of r = record { end = end_of r.name; version = r.version; value = r.value }

abbrev pub offer_of : Row → Option Bound
offer_of r = Some (bound_of r)

-- LOW and HIGH, entries of version 0 and value 0
abbrev pub bare : ℕ → Bound
bare e = record { end = e; version = 0; value = 0 }

-- an entry is offered that is k itself, or lies beyond k on x's side with a version above v
abbrev pub offered : ℕ → ℕ → Bool → Row → Bool
offered k v beyond r = eqb (end_of r.name) k || (beyond && ltb v r.version)

-- the last entry offered, or else o
unfoldable pub last_offer : ℕ → ℕ → Option Bound → List Row → Option Bound
last_offer k v o [] = o
last_offer k v o (r ∷ l) = last_offer k v (cond (offered k v (ltb k (end_of r.name)) r) (offer_of r) o) l

-- the first entry offered, or else o
unfoldable pub first_offer : ℕ → ℕ → Option Bound → List Row → Option Bound
first_offer k v o [] = o
first_offer k v o (r ∷ l) = cond (offered k v (ltb (end_of r.name) k) r) (offer_of r) (first_offer k v o l)

-- LOW or HIGH is offered where it is k
abbrev pub bare_offer : ℕ → ℕ → Option Bound
bare_offer e k = cond (eqb k e) (Some (bare e)) None

-- Round two: its greatest entry from k up to but not x that is k itself or has version above v, if any;
unfoldable pub offer_below_of : Member → ℕ → ℕ → ℕ → Option Bound
offer_below_of m x k v = last_offer k v (bare_offer 0 k) (take (seat_in (entries m) x) (entries m))

-- above is the mirror image.
unfoldable pub offer_above_of : Member → ℕ → ℕ → ℕ → Option Bound
offer_above_of m x k v = first_offer k v (bare_offer high k) (drop (next_in (entries m) x) (entries m))
