-- What a member shows at each place. Places make the space of names dense, so that the gap between the names n and n + 1 is
-- something: the end e (LOW 0, the name n n + 1, HIGH 1,048,577) has the place 2e, and the space above it the place 2e + 1.
use Rattle.std.specs.Prelude.{Option, Some, None}
use Rattle.std.specs.Prelude.{List, [], ◌∷◌, cond, ◌≡◌, ◌⊎◌, ℕ, suc, ◌*◌, ◌≤◌, ◌<◌, ltb, leb, eqb}
use Rattle.member.specs.Limits.{high}
use Rattle.member.specs.Tile.{entries}
use Rattle.member.specs.declared.Row.{Row}
use Rattle.member.specs.declared.Member.{Member}
use Rattle.member.specs.declared.Bound.{Bound}
use Rattle.member.specs.declared.Reading.{Reading}
use Rattle.member.specs.declared.Reading.TheVariants.{Entry, Gap}

abbrev pub place : ℕ → ℕ
place e = 2 * e

abbrev pub space_above : ℕ → ℕ
space_above e = suc (2 * e)

abbrev pub hi_place : ℕ
hi_place = place high

abbrev pub row_place : Row → ℕ
row_place r = place (suc r.name)

-- The reading at a place: the entry there, or else the gap around it. g is the version of the gap below the rows.
unfoldable pub at_place_in : ℕ → List Row → ℕ → Reading
at_place_in g [] z = Gap g
at_place_in g (r ∷ l) z =
    cond (eqb (row_place r) z) (Entry r.version r.value) (cond (ltb (row_place r) z) (at_place_in r.gap l z) (Gap g))

-- Each member has LOW and HIGH as entries of version 0, value 0.
unfoldable pub at_place : Member → ℕ → Reading
at_place m z = cond (eqb z 0) (Entry 0 0) (cond (leb hi_place z) (Entry 0 0) (at_place_in m.low (entries m) z))

abbrev pub version : Reading → ℕ
version (Entry v x) = v
version (Gap v) = v

abbrev pub IsEntry : Reading → Type 0
IsEntry (Entry v x) = Unit {0}
IsEntry (Gap v) = ⊥

abbrev pub IsGap : Reading → Type 0
IsGap (Entry v x) = ⊥
IsGap (Gap v) = Unit {0}

-- A tile by what it shows.
abbrev pub Shown : Type 0
Shown = ℕ → Reading

-- The member rules up to HIGH's place: LOW and HIGH are entries of version 0 and value 0, names alone have entries, and
-- a gap has one version over all its places.
pub record ShownRules (hi : ℕ) (f : Shown) : Type 0 where
  pub low : f 0 ≡ Entry 0 0
  pub high : f hi ≡ Entry 0 0
  pub spaces : (e : ℕ) → space_above e ≤ hi → IsGap (f (space_above e))
  pub one-gap : (z : ℕ) → z < hi → IsGap (f z) → IsGap (f (suc z)) → f z ≡ f (suc z)

-- What a bound says of its end: LOW and HIGH are entries of version 0, value 0.
abbrev pub bound_reading : Bound → Reading
bound_reading b = Entry b.version b.value

pub record BareEnd (b : Bound) : Type 0 where
  pub low : b.end ≡ 0 → bound_reading b ≡ Entry 0 0
  pub top : b.end ≡ high → bound_reading b ≡ Entry 0 0

-- Writing an entry at the place x.
pub record Wrote (x : ℕ) (r : Reading) (f f' : Shown) : Type 0 where
  pub here : f' x ≡ r
  pub elsewhere : (z : ℕ) → (z ≡ x → ⊥) → f' z ≡ f z

-- Coalescing p..s with version g: the readings given at p and s, and one gap between them.
pub record Joined (p s : ℕ) (a b : Reading) (g : ℕ) (f f' : Shown) : Type 0 where
  pub lower : f' p ≡ a
  pub upper : f' s ≡ b
  pub between : (z : ℕ) → p < z → z < s → f' z ≡ Gap g
  pub outside : (z : ℕ) → (z < p) ⊎ (s < z) → f' z ≡ f z

-- Round one: the lower end of the gap next below x,
pub record LowerEnd (f : Shown) (x k : ℕ) : Type 0 where
  pub under : k < x
  pub entry : IsEntry (f k)
  pub none : (y : ℕ) → k < y → y < x → IsGap (f y)

-- and the upper end of the gap next above x.
pub record UpperEnd (hi : ℕ) (f : Shown) (x k : ℕ) : Type 0 where
  pub over : x < k
  pub fits : k ≤ hi
  pub entry : IsEntry (f k)
  pub none : (y : ℕ) → x < y → y < k → IsGap (f y)

-- Round two: the greatest entry from k up to but not x that is k itself or has a version above v,
pub record OffersBelow (f : Shown) (k v x y : ℕ) : Type 0 where
  pub reach : k ≤ y
  pub under : y < x
  pub entry : IsEntry (f y)
  pub counts : (y ≡ k) ⊎ (v < version (f y))
  pub greatest : (z : ℕ) → y < z → z < x → IsEntry (f z) → version (f z) ≤ v

-- and its mirror image, from k down to but not x.
pub record OffersAbove (f : Shown) (k v x y : ℕ) : Type 0 where
  pub reach : y ≤ k
  pub over : x < y
  pub entry : IsEntry (f y)
  pub counts : (y ≡ k) ⊎ (v < version (f y))
  pub least : (z : ℕ) → x < z → z < y → IsEntry (f z) → version (f z) ≤ v

-- An entry at y that is not offered: it is not k, and its version is not above v.
abbrev pub Passed : ℕ → ℕ → ℕ → Reading → Type 0
Passed k v y r = (y ≡ k → ⊥) × (version r ≤ v)

-- What a member's answer says of what it shows, below x and above x.
abbrev pub AnswersBelow : Shown → ℕ → ℕ → ℕ → Option Bound → Type 0
AnswersBelow f k v x (Some b) = OffersBelow f (place k) v x (place b.end) × (f (place b.end) ≡ bound_reading b)
AnswersBelow f k v x None = (y : ℕ) → place k ≤ y → y < x → IsEntry (f y) → Passed (place k) v y (f y)

abbrev pub AnswersAbove : Shown → ℕ → ℕ → ℕ → Option Bound → Type 0
AnswersAbove f k v x (Some b) = OffersAbove f (place k) v x (place b.end) × (f (place b.end) ≡ bound_reading b)
AnswersAbove f k v x None = (y : ℕ) → y ≤ place k → x < y → IsEntry (f y) → Passed (place k) v y (f y)
