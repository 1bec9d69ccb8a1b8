-- `run::Session::clear`: zeros.
use Rattle.std.proofs.Common.{refl}
use Rattle.text.specs.Line.{padded}
use Rattle.run.proofs.Session.clear.Goals as goal

pub returns : goal.returns
unfolding padded
returns c = refl
