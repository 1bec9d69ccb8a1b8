-- `run::lines::rest`: what is said so far, joined to the run over the rest of the text, is the run over all of it.
use Rattle.std.proofs.Common.{◌≡◌, ◌-◌, [], length}
use Rattle.line.specs.Lent.{standing_in}
use Rattle.run.specs.Lent.{session_of}
use Rattle.run.proofs.Going.{Going}
use Rattle.run.proofs.lines.rest.Given as goal

abbrev pub invariant-loop-at : goal.invariant-loop-at
invariant-loop-at l =
    record {
      cleared : l.session ≡ session_of l.session.standing [];
      going : Going l.text (standing_in l.initial.session.standing) l.from l.initial.out l.filled (standing_in l.session.standing) l.at l.out l.written;
    }

abbrev pub decreases-loop-at : goal.decreases-loop-at
decreases-loop-at l = length l.text - l.at
