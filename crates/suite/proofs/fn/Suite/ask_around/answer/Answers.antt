-- The question of round one lays a member's answer out as a row.
use mathlib.Core.Path.{ap, ◌∙◌}
use Rattle.suite.specs.Rows.{row_of, around_row}
use Rattle.suite.proofs.fn.Suite.ask_around.answer.Goals as goal

pub returns : goal.returns
unfolding row_of
returns c = c.around_row.ensures ∙ ap around_row c.around.ensures
