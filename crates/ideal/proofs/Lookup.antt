-- Lookup: 'the reading with the highest version' in a read set is A's.
use Rattle.std.specs.Prelude.{ℕ, ◌≤◌, ◌≡◌, Bool}
use Rattle.std.proofs.Common.{ap, arith}
use Rattle.ideal.specs.Tiles.{version, Tile}
use Rattle.ideal.specs.Votes.{In, Voting, Reads}
use Rattle.ideal.specs.Best.{Best}
use Rattle.ideal.specs.Invariant.{Inv, newest}
use Rattle.ideal.proofs.Seen.{seen}

pub lookup : {q : Voting} {hi : ℕ} {M : ℕ → Tile} {A : Tile} → Inv q hi M A → (read : ℕ → Bool) → Reads q read → (z : ℕ) →
    z ≤ hi → {i : ℕ} → Best (λ m. version (M m z)) (In read) q.members i → M i z ≡ A z
lookup v read r z l {i} b =
    let s = seen v read r z l in
    newest v i z b.exists l (omega (arith, ap version s.3, b.greatest s.0 s.1 s.2))
