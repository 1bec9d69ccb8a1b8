-- What holds of an accepted call.
use Rattle.std.specs.Prelude.{◌≡◌, true}
use Rattle.suite.specs.Sets.{chosen, all}
use Rattle.suite.specs.Suite.{tiles, ballots}
use Rattle.suite.specs.Calls.{Call, write_set}
use Rattle.suite.specs.Accepted.{FineCall}
use Rattle.suite.specs.declared.Suite.{Suite}
use Rattle.history.specs.Directory.{Directory}
use Rattle.history.specs.Told.{presence_refusal, fits_one}

-- what holds of an accepted call
pub record Accepted (s : Suite) (d : Directory) (c : Call) : Type 0 where
  pub fine : FineCall (ballots s) s.read s.write c
  pub presence : presence_refusal d c ≡ 0
  pub fits : all (fits_one d c) (chosen (tiles s) (write_set c)) ≡ true
