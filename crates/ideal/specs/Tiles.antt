-- A tile as the theory sees it: what it shows at each place, by the member's own definitions.
use Rattle.std.specs.Prelude.{ℕ, suc, ◌≤◌, ◌≡◌, refl, ◌⊎◌}
use Rattle.std.proofs.Common.{sym, subst, ◌∙◌, inl, inr, arith}
use Rattle.std.proofs.Math.Decide.{le_ind}
use Rattle.member.specs.declared.Reading.{Reading}
use Rattle.member.specs.declared.Reading.TheVariants.{Entry, Gap}
pub use Rattle.member.specs.Places.{version, IsEntry, IsGap, Shown as Tile, ShownRules as TileRules}
use Rattle.ideal.specs.Places.{place, space_above, which}

pub kind : (r : Reading) → IsEntry r ⊎ IsGap r
kind (Entry v x) = inl tt
kind (Gap v) = inr tt

pub not_both : (r : Reading) → IsEntry r → IsGap r → ⊥
not_both (Entry v x) e g = g
not_both (Gap v) e g = e

-- the rules speak of the places up to HIGH's alone
pub rules_ext : {hi : ℕ} {f f' : Tile} → ((z : ℕ) → z ≤ hi → f' z ≡ f z) → TileRules hi f → TileRules hi f'
rules_ext {hi} {f} {f'} same t =
    record {
      low = same 0 (omega arith) ∙ t.low;
      high = same hi (omega arith) ∙ t.high;
      spaces = λ e l. subst IsGap (sym (same (space_above e) (omega arith))) (t.spaces e l);
      one-gap = λ z l g g'. same z (omega arith) ∙ (t.one-gap z l (subst IsGap (same z (omega arith)) g) (subst IsGap (same (suc z) (omega arith)) g') ∙ sym (same (suc z) (omega arith)));
    }

-- HIGH's place is an end's, and so is the place of every entry
pub entry_place : {hi : ℕ} {f : Tile} → TileRules hi f → (z : ℕ) → z ≤ hi → IsEntry (f z) → (e : ℕ) × (z ≡ place e)
entry_place {hi} {f} t z l h = go (which z)
  where
    go : (e : ℕ) × ((z ≡ place e) ⊎ (z ≡ space_above e)) → (e : ℕ) × (z ≡ place e)
    go (e, inl p) = (e, p)
    go (e, inr p) = absurd (not_both (f (space_above e)) (subst (λ y. IsEntry (f y)) p h) (t.spaces e (omega arith)))

-- over places that are gaps throughout, a tile shows one reading
pub run : {hi : ℕ} {f : Tile} → TileRules hi f → (a b : ℕ) → a ≤ b → b ≤ hi → ((y : ℕ) → a ≤ y → y ≤ b → IsGap (f y)) →
    f a ≡ f b
run {hi} {f} t a b ab l gaps = le_ind {n = a} (λ m. m ≤ hi → ((y : ℕ) → a ≤ y → y ≤ m → IsGap (f y)) → f a ≡ f m) (λ _ _. refl) step b ab l gaps
  where
    step : (m : ℕ) → a ≤ m → (m ≤ hi → ((y : ℕ) → a ≤ y → y ≤ m → IsGap (f y)) → f a ≡ f m) → suc m ≤ hi →
        ((y : ℕ) → a ≤ y → y ≤ suc m → IsGap (f y)) → f a ≡ f (suc m)
    step m am before lm g = before (omega arith) (λ y h k. g y h (omega arith)) ∙ t.one-gap m lm (g m am (omega arith)) (g (suc m) (omega arith) (omega arith))
