-- `fields::fits` meets its contract: a field is within n bytes exactly where the bytes that it touches are.
-- Assumes nothing.
use mathlib.Core.Path.{sym, ◌∙◌}
use borrow.Author.Tests.{lt-leb}
use Rattle.fields.proofs.Answers.{fits_wide, fits_bytes}
use Rattle.fields.proofs.fits.Goals as goal

pub returns-then-width-le-WIDEST : goal.returns-then-width-le-WIDEST
returns-then-width-le-WIDEST c = fits_bytes c.args.len c.args.at c.args.width c.if-width-le-WIDEST.true

pub returns-else-width-le-WIDEST : goal.returns-else-width-le-WIDEST
returns-else-width-le-WIDEST c =
    lt-leb c.args.width 56 c.if-width-le-WIDEST.false
    ∙ sym (fits_wide c.args.len c.args.at c.args.width c.if-width-le-WIDEST.false)
