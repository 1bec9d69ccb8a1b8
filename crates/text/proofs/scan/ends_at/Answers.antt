-- `text::scan::ends_at`: the line ends there, or the byte there is a space.
use mathlib.Core.Path.{sym, ◌∙◌}
use borrow.Author.Tests.{le-leb}
use Rattle.text.proofs.Sets.{ends_past, ends_byte}
use Rattle.text.proofs.scan.ends_at.Goals as goal

pub returns-then-line-at : goal.returns-then-line-at
returns-then-line-at c = le-leb _ _ c.if-line-at.true ∙ sym (ends_past _ _ c.if-line-at.true)

pub returns-else-line-at : goal.returns-else-line-at
returns-else-line-at c = sym (ends_byte _ _ c.if-line-at.false)
