-- The arrays of a suite have their lengths. A value of the code always has them; a record of the same fields need not.
use Rattle.std.specs.Prelude.{◌≡◌, Bool, true, length, eqb}
use Rattle.member.specs.Limits.{slots}
use Rattle.member.specs.declared.Member.{Member}
use Rattle.suite.specs.Sets.{all}
use Rattle.suite.specs.declared.Suite.{Suite}

abbrev pub has_places : Member → Bool
has_places m = eqb (length m.rows) slots

pub record Sized (s : Suite) : Type 0 where
  pub members : length s.members ≡ 8
  pub votes : length s.votes ≡ 8
  pub rows : all has_places s.members ≡ true
