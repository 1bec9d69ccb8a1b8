-- The places of the ends and of the spaces between them, and two ways to compare numbers.
use Rattle.std.specs.Prelude.{ℕ, zero, suc, ◌≤◌, ◌<◌, ◌≡◌, refl, ◌⊎◌, Bool, true, false, ltb}
use Rattle.std.proofs.Common.{inl, inr, arith, ltb-true, ltb-false}
pub use Rattle.member.specs.Places.{place, space_above}

-- the end that a name is: 'LOW lies below all names'
abbrev pub end_of : ℕ → ℕ
end_of name = suc name

-- every place is an end's or a space's
pub which : (z : ℕ) → (e : ℕ) × ((z ≡ place e) ⊎ (z ≡ space_above e))
which zero = (0, inl refl)
which (suc z) = next (which z)
  where
    next : (e : ℕ) × ((z ≡ place e) ⊎ (z ≡ space_above e)) → (e : ℕ) × ((suc z ≡ place e) ⊎ (suc z ≡ space_above e))
    next (e, inl h) = (e, inr (omega arith))
    next (e, inr h) = (suc e, inl (omega arith))

-- of two numbers one is less, or it is not
pub lt_or_le : (a b : ℕ) → (a < b) ⊎ (b ≤ a)
lt_or_le a b = go (ltb a b) refl
  where
    go : (t : Bool) → ltb a b ≡ t → (a < b) ⊎ (b ≤ a)
    go true e = inl (ltb-true a b e)
    go false e = inr (ltb-false a b e)

-- two numbers neither of which is less
pub both_ways : {a b : ℕ} → (a < b → ⊥) → (b < a → ⊥) → a ≡ b
both_ways {a} {b} f g = go (lt_or_le a b) (lt_or_le b a)
  where
    go : (a < b) ⊎ (b ≤ a) → (b < a) ⊎ (a ≤ b) → a ≡ b
    go (inl l) o = absurd (f l)
    go (inr l) (inl k) = absurd (g k)
    go (inr l) (inr k) = omega arith
