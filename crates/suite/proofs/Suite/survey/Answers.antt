-- `survey` reads the two rounds out of their tables.
use Rattle.std.proofs.Common.{ap, ◌∙◌}
use Rattle.suite.specs.Best.{best}
use Rattle.suite.specs.Sets.{chosen}
use Rattle.suite.specs.Rows.{row_reading, beats_at, no_row}
use Rattle.suite.proofs.Surveying.{survey_is}
use Rattle.suite.proofs.Suite.survey.Goals as goal

pub returns : goal.returns
returns c =
    let a = c.args in
    let s = a.self.now in
    let h = c.requires in
    let one = c.ask_around-one.ensures in
    let two = c.ask_offers-two.ensures in
    let b = c.best_row-b.ensures ∙ ap (λ t. best (beats_at 3 3) no_row (chosen t a.set)) one in
    let u = c.best_row-a.ensures ∙ ap (λ t. best (beats_at 5 5) no_row (chosen t a.set)) one in
    let r = c.row_reading.ensures ∙ ap row_reading (c.best_row-r.ensures ∙ ap (λ t. best (beats_at 1 1) no_row (chosen t a.set)) one) in
    survey_is s a.set h a.name c.best_row-b.result c.best_row-a.result c.row_reading.result c.best_row-p.result c.best_row-s.result b u r
    (c.best_row-p.ensures ∙ ap (λ t. best (beats_at 0 2) no_row (chosen t a.set)) two)
    (c.best_row-s.ensures ∙ ap (λ t. best (beats_at 4 6) no_row (chosen t a.set)) two)
