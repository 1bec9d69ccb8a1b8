-- Neighbours: what the two rounds are, and what they are to find. That they find it is the theorem of proofs/Neighbours.
use Rattle.std.specs.Prelude.{ℕ, ◌<◌, ◌≡◌, Bool}
use Rattle.member.specs.declared.Reading.{Reading}
use Rattle.ideal.specs.Tiles.{version, Tile}
use Rattle.ideal.specs.Votes.{In}
use Rattle.ideal.specs.Best.{Best}

-- Round one at the space z next to x: 'v is the highest gap version and k that member's end (lowest-numbered on a tie)'.
-- `End` is the lower end below, or the upper end above.
pub record RoundOne (n : ℕ) (M : ℕ → Tile) (read : ℕ → Bool) (z : ℕ) (End : Tile → ℕ → Type 0) (i v k : ℕ) : Type 0 where
  pub winner : Best (λ m. version (M m z)) (In read) n i
  pub says : version (M i z) ≡ v
  pub end : End (M i) k

-- Round two: p is the nearest place that a read member offers, and j the member with 'the highest version among those
-- offering it and, on a tie, the lowest-numbered'. `Within y p` says that y is no nearer to x than p.
pub record RoundTwo (n : ℕ) (M : ℕ → Tile) (read : ℕ → Bool) (Offer : Tile → ℕ → Type 0) (Within : ℕ → ℕ → Type 0)
    (p j : ℕ) : Type 0 where
  pub chosen : Best (λ m. version (M m p)) (λ m. In read m × Offer (M m) p) n j
  pub nearest : (m y : ℕ) → m < n → In read m → Offer (M m) y → Within y p

-- What is found: A's own end p, A's version in the gap z between, and A's reading at p.
pub record Found (A : Tile) (z : ℕ) (End : Tile → ℕ → Type 0) (v p : ℕ) (r : Reading) : Type 0 where
  pub end : End A p
  pub gap : version (A z) ≡ v
  pub reading : r ≡ A p
