-- What a member is asked.
use Rattle.std.specs.Prelude.{ℕ}
use Rattle.member.specs.declared.Side.{Side}

-- its reading at a name; the answers of round one, and of round two for the gaps found below and above; whether a write of a name
-- fits it, and whether a coalescing between two ends does
pub data Question : Type 0 where
  Reading : ℕ → Question
  Around : ℕ → Question
  Offers : ℕ → Side → Side → Question
  FitsWrite : ℕ → Question
  FitsCoalesce : ℕ → ℕ → Question
