-- `fill` copies the image where it fits.
use mathlib.Core.Path.{sym, ◌∙◌}
use mathlib.Core.List.{[], ◌∷◌}
use lib.ListN.{length}
use Rattle.suite.specs.Outcome.{answered}
use Rattle.image.proofs.Writing.{fill_short, fill_fits}
use Rattle.image.proofs.fill.Goals as goal

pub returns-then-out-image : goal.returns-then-out-image
returns-then-out-image c =
    let a = c.args in
    sym (fill_short a.image.now a.out.now c.if-out-image.true)

pub returns : goal.returns
returns c =
    let a = c.args in
    (λ j. record { outcome = answered (length a.image.now ∷ []); bytes = c.copy.ensures j })
    ∙ sym (fill_fits a.image.now a.out.now c.if-out-image.false)
