-- A change leaves as many places as there were.
use Rattle.std.specs.Prelude.{◌≡◌, refl, List, Bool, cond, ℕ, leb, ltb}
use Rattle.std.proofs.Common.{◌∙◌, arith, leb-true}
use Rattle.std.proofs.Math.Bool.{true, false}
use Rattle.std.proofs.Math.ListN.{length}
use Rattle.member.specs.Limits.{slots}
use Rattle.member.specs.Tile.{entries, holding}
use Rattle.member.specs.Change.{written, fitting, write_of, coalesced, low_set, coalesce_of}
use Rattle.member.specs.Holding.{holding_rows}
use Rattle.member.specs.declared.Row.{Row}
use Rattle.member.specs.declared.Bound.{Bound}
use Rattle.member.specs.declared.Member.{Member}

module _ (m : Member) (h : length m.rows ≡ slots) where
  fitting-rows : (g : ℕ) (l : List Row) → length (fitting m g l).rows ≡ slots
  fitting-rows g l = go (leb (length l) slots) refl
    where
      go : (t : Bool) → leb (length l) slots ≡ t → length (cond t (holding m g l) m).rows ≡ slots
      go true e = holding_rows m g l (omega (arith, leb-true (length l) slots e)) ∙ h
      go false e = h

  pub write-rows : (n v x : ℕ) → length (write_of m n v x).rows ≡ slots
  unfolding write_of
  write-rows n v x = fitting-rows m.low (written m.low (entries m) n v x)

  pub coalesce-rows : (P S : Bound) (g : ℕ) → length (coalesce_of m P S g).rows ≡ slots
  unfolding coalesce_of
  coalesce-rows P S g = go (ltb P.end S.end)
    where
      go : (t : Bool) → length (cond t (fitting m (low_set m.low P.end g) (coalesced m.low (entries m) P S g)) m).rows ≡ slots
      go true = fitting-rows (low_set m.low P.end g) (coalesced m.low (entries m) P S g)
      go false = h
