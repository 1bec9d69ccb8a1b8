-- Insert and update: a change of one place.
use Rattle.std.specs.Prelude.{ℕ, ◌<◌, ◌≡◌, Bool}
use Rattle.std.proofs.Common.{subst, inl, inr, arith}
use Rattle.member.specs.declared.Reading.{Reading}
use Rattle.ideal.specs.Places.{place}
use Rattle.ideal.specs.Tiles.{version, IsEntry, Tile}
use Rattle.ideal.specs.Votes.{Voting, Writes}
use Rattle.ideal.specs.Invariant.{Inv}
use Rattle.ideal.specs.Region.{Patched, PatchRules, Written, Allowed}
use Rattle.ideal.proofs.RegionKeeps.{region}

-- An entry newer than what A shows, at the place of the end e of a name; 'version = lookup's version + 1' is one.
pub written_entry : {q : Voting} {hi : ℕ} {M : ℕ → Tile} {A : Tile} {w : ℕ → Bool} {M' : ℕ → Tile} {A' : Tile} → Inv q hi M A →
    Writes q w → (e : ℕ) (r : Reading) → 0 < e → place e < hi → IsEntry r → version (A (place e)) < version r →
    Written q.members hi (place e) (place e) (λ _. r) w M M' → Patched hi (place e) (place e) (λ _. r) A A' → Inv q hi M' A'
written_entry {hi = hi} {A = A} v enough e r low high entry newer = region v enough rules allowed
  where
    rules : PatchRules hi (place e) (place e) (λ _. r)
    rules =
        record {
          low = λ h. absurd (omega arith);
          high = λ h. absurd (omega arith);
          spaces = λ t l d. absurd (omega (arith, d.0, d.1));
          one-gap = λ z a b. absurd (omega arith);
          low-edge = entry;
          up-edge = entry;
          fits = omega arith;
        }

    allowed : Allowed hi (place e) (place e) (λ _. r) A
    allowed =
        record {
          cell = λ z d. let at : place e ≡ z = omega (arith, d.0, d.1) in inr (subst (λ y. version (A y) < version r) at newer);
          cells = λ z a b. absurd (omega arith);
          low-edge = λ z h. inl entry;
          up-edge = λ h. inl entry;
        }
