-- `run::lines::is_sound`: only a suite that was accepted is judged.
use Rattle.std.proofs.Common.{◌∙◌, sym, rules}
use Rattle.std.proofs.Math.Bool.{not-not}
use Rattle.run.specs.Course.{unsound}
use Rattle.run.proofs.lines.is_sound.Goals as goal

pub returns-in-Some : goal.returns-in-Some
unfolding unsound
returns-in-Some c = rw c.in-Some.is (c.is_sound.ensures ∙ sym (not-not _))

pub returns-in-None : goal.returns-in-None
unfolding unsound
returns-in-None c = search rules
