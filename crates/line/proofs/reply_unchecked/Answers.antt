-- `reply_unchecked` carries out the line's command.
use mathlib.Core.Path.{◌∙◌}
use Rattle.line.proofs.Answering.{on-accepted}
use Rattle.line.proofs.reply_unchecked.Goals as goal

pub returns : goal.returns
returns c = c.carry_out.ensures ∙ on-accepted _ _ c.parse.ensures
