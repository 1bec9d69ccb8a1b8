-- The quorum, test by test in the code's order.
use mathlib.Core.Path.{◌≡◌, ap, ◌∙◌}
use mathlib.Core.Bool.{false}
use Prim.Native.Nat.{ℕ, ◌+◌, ◌-◌, ◌^◌, ◌≤◌, ◌<◌}
use native.Mathlib.Omega.{arith}
use borrow.Author.Tests.{le-leb, lt-leb}
use lib.Dec.{ltb}
use lib.ListN.{length}
use Rattle.suite.specs.Sets.{total, votes_of}
use Rattle.suite.specs.SetLaws.{chosen-everyone}
use Rattle.suite.specs.Suite.{ballots_in, quorum}
use Rattle.suite.specs.declared.Frame.{Frame}

-- 1 ≤ R ≤ V, 1 ≤ W ≤ V, R + W > V
module _ (r w v : ℕ) where
  pub read-zero : r ≡ 0 → false ≡ quorum r w v
  read-zero h = rw (lt-leb 1 r (omega arith))

  pub read_over : 1 ≤ r → v < r → false ≡ quorum r w v
  read_over a h = rw (le-leb 1 r a, lt-leb r v h)

  pub write-zero : 1 ≤ r → r ≤ v → w ≡ 0 → false ≡ quorum r w v
  write-zero a b h = rw (le-leb 1 r a, le-leb r v b, lt-leb 1 w (omega arith))

  pub write-over : 1 ≤ r → r ≤ v → 1 ≤ w → v < w → false ≡ quorum r w v
  write-over a b d h = rw (le-leb 1 r a, le-leb r v b, le-leb 1 w d, lt-leb w v h)

  pub in_range_lem : 1 ≤ r → r ≤ v → 1 ≤ w → w ≤ v → ltb v (r + w) ≡ quorum r w v
  in_range_lem a b d h = rw (le-leb 1 r a, le-leb r v b, le-leb 1 w d, le-leb w v h)

-- the votes of the set of all members are V
pub total-everyone : (f : Frame) (set : ℕ) → set ≡ 2 ^ length (ballots_in f) - 1 → votes_of (ballots_in f) set ≡ total (ballots_in f)
total-everyone f set p = ap (votes_of (ballots_in f)) p ∙ ap total (chosen-everyone (ballots_in f))
