-- A read set and the members that are current share one.
use Rattle.std.specs.Prelude.{ℕ, ◌≤◌, ◌<◌, ◌≡◌, Bool}
use Rattle.std.proofs.Common.{eqb-true}
use Rattle.ideal.specs.Tiles.{version, Tile}
use Rattle.ideal.specs.Votes.{In, Voting, Reads, shared}
use Rattle.ideal.specs.Invariant.{current, Inv}

-- some member of a read set shows what A shows
pub seen : {q : Voting} {hi : ℕ} {M : ℕ → Tile} {A : Tile} → Inv q hi M A → (read : ℕ → Bool) → Reads q read → (z : ℕ) →
    z ≤ hi → (i : ℕ) × (i < q.members) × In read i × (M i z ≡ A z)
seen {q} {hi} {M} {A} v read r z l =
    let s = shared q read (current M A z) r (v.known z l) in
    (s.0, s.1, s.2, v.same s.0 z s.1 l (eqb-true (version (M s.0 z)) (version (A z)) s.3))
