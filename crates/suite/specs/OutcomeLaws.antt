-- An outcome is an answer or a refusal, and shows its numbers.
use Rattle.std.specs.Prelude.{◌≡◌, List, ℕ}
use Rattle.std.proofs.Common.{arith}
use Rattle.suite.specs.Outcome.{answered, refused}

pub refused_is : (m n : ℕ) → refused m ≡ refused n → m ≡ n
refused_is m n e = cc

pub not_both : {A : Type 0} (vs : List ℕ) (n : ℕ) → answered vs ≡ refused n → A
not_both vs n e = let z : ◌≡◌ {A = ℕ} 0 1 = cc in absurd (omega arith)
