-- The member with the greatest key in a set, 'on a tie the lowest-numbered': lookup, round one and round two all choose so.
use Rattle.std.specs.Prelude.{ℕ, ◌≤◌, ◌<◌, ◌≡◌, ◌↔◌}
use Rattle.std.proofs.Common.{arith}
use Rattle.ideal.specs.Places.{both_ways}

-- S tells who is asked, of the members below n
pub record Best (key : ℕ → ℕ) (S : ℕ → Type 0) (n i : ℕ) : Type 0 where
  pub exists : i < n
  pub chosen : S i
  pub greatest : (j : ℕ) → j < n → S j → key j ≤ key i
  pub lowest : (j : ℕ) → j < i → S j → key j < key i

not_earlier : {key : ℕ → ℕ} {S : ℕ → Type 0} {n i j : ℕ} → Best key S n i → Best key S n j → i < j → ⊥
not_earlier {i = i} {j = j} b c l = omega (arith, c.lowest i l b.chosen, b.greatest j c.exists c.chosen)

pub best_unique : {key : ℕ → ℕ} {S : ℕ → Type 0} {n i j : ℕ} → Best key S n i → Best key S n j → i ≡ j
best_unique b c = both_ways (not_earlier b c) (not_earlier c b)

-- the same choice, of the same members, by keys that agree on them
pub best-same : {key key' : ℕ → ℕ} {S S' : ℕ → Type 0} {n i : ℕ} → ((j : ℕ) → j < n → S j ↔ S' j) →
    ((j : ℕ) → j < n → S j → key j ≡ key' j) → Best key S n i → Best key' S' n i
best-same {key} {key'} {S} {S'} {n} {i} same keys b =
    record {
      exists = b.exists;
      chosen = (same i b.exists).0 b.chosen;
      greatest = λ j l s'. let s = (same j l).1 s' in omega (arith, b.greatest j l s, keys j l s, keys i b.exists b.chosen);
      lowest = λ j l s'.
          let k : j < n = omega (arith, b.exists) in
          let s = (same j k).1 s' in
          omega (arith, b.lowest j l s, keys j k s, keys i b.exists b.chosen);
    }
