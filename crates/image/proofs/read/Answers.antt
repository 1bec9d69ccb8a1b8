-- `read` clears the suite, loads the image into it, and puts back what it held where the image is refused.
use mathlib.Core.Path.{ap}
use Rattle.suite.specs.declared.Suite.{Suite}
use Rattle.image.proofs.Loads.{load-refused, load-done}
use Rattle.image.proofs.read.Goals as goal

pub load-requires : goal.load-requires
load-requires c = ap (λ (s : Suite). s.members) c.blank.ensures

pub returns : goal.returns
returns c = load-done c.args.bytes.now c.load.new.suite c.args.suite.now c.in_default.ensures

pub returns-in-Err : goal.returns-in-Err
returns-in-Err c = load-refused c.args.bytes.now c.in-Err.refusal c.args.suite.now c.in-Err.ensures
