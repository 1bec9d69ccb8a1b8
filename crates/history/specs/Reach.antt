-- A suite that can be reached, with a name that is absent.
use Rattle.std.specs.Prelude.{◌≡◌, false, ℕ}
use Rattle.suite.specs.declared.Suite.{Suite}
use Rattle.history.specs.Directory.{Directory}
use Rattle.history.specs.Directory as plain
use Rattle.history.specs.Run.{Reached}

abbrev pub Absent : ℕ → Suite → Type 0
Absent x t = (d : Directory) × Reached t d × (plain.present d x ≡ false)
