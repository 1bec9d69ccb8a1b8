-- What a change does at each place. That every change keeps the invariant is the theorem of proofs/Change.
use Rattle.std.specs.Prelude.{ℕ, suc, ◌≤◌, ◌<◌, ◌≡◌, ◌⊎◌, Bool}
use Rattle.ideal.specs.Tiles.{version, IsGap, Tile}
use Rattle.ideal.specs.Votes.{In}

-- A shows the same at z before and after; or its version there is raised.
abbrev pub Kept : Tile → Tile → ℕ → Type 0
Kept A A' z = A' z ≡ A z

abbrev pub Raised : Tile → Tile → ℕ → Type 0
Raised A A' z = version (A z) < version (A' z)

abbrev pub Moved : Tile → Tile → ℕ → Type 0
Moved A A' z = Kept A A' z ⊎ Raised A A' z

-- a member's tile, f before and f' after, shows what A shows afterwards, or what it showed before
abbrev pub Shown : Tile → Tile → Tile → ℕ → Type 0
Shown A' f f' z = (f' z ≡ A' z) ⊎ (f' z ≡ f z)

-- the same at a place and the next: both in one way
abbrev pub MovedAlike : Tile → Tile → ℕ → Type 0
MovedAlike A A' z = (Kept A A' z × Kept A A' (suc z)) ⊎ (Raised A A' z × Raised A A' (suc z))

abbrev pub ShownAlike : Tile → Tile → Tile → ℕ → Type 0
ShownAlike A' f f' z = ((f' z ≡ A' z) × (f' (suc z) ≡ A' (suc z))) ⊎ ((f' z ≡ f z) × (f' (suc z) ≡ f (suc z)))

-- M and A before, M' and A' after; w are the members written.
-- A member shows at each place what A shows afterwards, or what it showed before; w gets all that is raised.
-- Over two neighbouring places of one gap of A' the change is alike, in A and in each member.
pub record Change (n hi : ℕ) (w : ℕ → Bool) (M : ℕ → Tile) (A : Tile) (M' : ℕ → Tile) (A' : Tile) : Type 0 where
  pub cell : (z : ℕ) → z ≤ hi → Moved A A' z
  pub member : (i z : ℕ) → i < n → z ≤ hi → Shown A' (M i) (M' i) z
  pub reaches : (i z : ℕ) → i < n → z ≤ hi → In w i → Raised A A' z → M' i z ≡ A' z
  pub cells : (z : ℕ) → z < hi → IsGap (A' z) → IsGap (A' (suc z)) → MovedAlike A A' z
  pub alike : (i z : ℕ) → i < n → z < hi → IsGap (A' z) → IsGap (A' (suc z)) → ShownAlike A' (M i) (M' i) z
