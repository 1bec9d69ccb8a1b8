-- `answer_unchecked` goes by whether a suite has been accepted, and where none was by whether the line asks for one.
use mathlib.Core.Path.{sym, ◌∙◌}
use Rattle.line.proofs.Creating.{not_asked}
use Rattle.line.proofs.Answering.{on-none}
use Rattle.line.proofs.answer_unchecked.Goals as goal

pub returns-in-Some-ballots : goal.returns-in-Some-ballots
returns-in-Some-ballots c =
    rw c.in_default.is (c.begin.ensures ∙ on-none c.args.line.now (sym c.in-Some-ballots.is ∙ c.ballots.ensures))

pub returns-in-None : goal.returns-in-None
returns-in-None c =
    rw (c.in_default.is, c.no.ensures) (not_asked ∙ on-none c.args.line.now (sym c.in-None.is ∙ c.ballots.ensures))
