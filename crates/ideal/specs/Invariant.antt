-- The invariant behind the directory: beside the members stands an ideal tile A, without limits, that got every
-- accepted change.
use Rattle.std.specs.Prelude.{ℕ, suc, ◌≤◌, ◌<◌, ◌≡◌, Bool, ◌↔◌, eqb}
use Rattle.std.proofs.Common.{arith}
use Rattle.ideal.specs.Tiles.{version, IsGap, Tile, TileRules}
use Rattle.ideal.specs.Votes.{Voting, Writes}

-- member i has A's version at the place z
abbrev pub Current : (ℕ → Tile) → Tile → ℕ → ℕ → Type 0
Current M A z i = version (M i z) ≡ version (A z)

-- the set of those that have
abbrev pub current : (ℕ → Tile) → Tile → ℕ → ℕ → Bool
current M A z i = eqb (version (M i z)) (version (A z))

pub record Inv (q : Voting) (hi : ℕ) (M : ℕ → Tile) (A : Tile) : Type 0 where
  pub rules : (i : ℕ) → i < q.members → TileRules hi (M i)
  pub ideal : TileRules hi A
  -- no member is ahead of A
  pub behind : (i z : ℕ) → i < q.members → z ≤ hi → version (M i z) ≤ version (A z)
  -- who has A's version shows what A shows
  pub same : (i z : ℕ) → i < q.members → z ≤ hi → Current M A z i → M i z ≡ A z
  -- W votes have A's version
  pub known : (z : ℕ) → z ≤ hi → Writes q (current M A z)
  -- who is current somewhere in a gap of A is so all over it
  pub through : (i z : ℕ) → i < q.members → z < hi → IsGap (A z) → IsGap (A (suc z)) → Current M A z i ↔ Current M A (suc z) i

-- a member that is no older than A at a place shows what A shows
pub newest : {q : Voting} {hi : ℕ} {M : ℕ → Tile} {A : Tile} → Inv q hi M A → (i z : ℕ) → i < q.members → z ≤ hi →
    version (A z) ≤ version (M i z) → M i z ≡ A z
newest v i z m l h = v.same i z m l (omega (arith, v.behind i z m l))
