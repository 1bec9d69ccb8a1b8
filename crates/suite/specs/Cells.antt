-- A suite whose members stand in eight tiles' memory: which suite that is.
use Rattle.std.specs.Prelude.{List, map, ℕ}
use Rattle.member.specs.Cells.{tile_in}
use Rattle.suite.specs.declared.Frame.{Frame}
use Rattle.suite.specs.declared.Suite.{Suite}

abbrev pub suite_in : Frame → List (List ℕ) → Suite
suite_in f l = record { members = map tile_in l; votes = f.votes; read = f.read; write = f.write; count = f.count }
