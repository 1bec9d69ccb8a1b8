-- `offers` lays a member's two offers out as a row.
use mathlib.Core.Path.{ap, ◌∙◌}
use Rattle.member.specs.declared.Offered.{Offered}
use Rattle.suite.specs.Rows.{row_of, offers_row}
use Rattle.suite.proofs.ask.offers.Goals as goal

pub returns : goal.returns
unfolding row_of
returns c = c.offers_row.ensures ∙ ap (λ (o : Offered). offers_row o.below o.above) c.offers-both.ensures
