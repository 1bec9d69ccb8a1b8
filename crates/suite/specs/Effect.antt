-- What is written to a member: a name with its version and value; or p, s and the version of the gap between them.
use Rattle.std.specs.Prelude.{ℕ}
use Rattle.member.specs.declared.Bound.{Bound}

pub data Effect : Type 0 where
  Write : ℕ → ℕ → ℕ → Effect
  Coalesce : Bound → Bound → ℕ → Effect
