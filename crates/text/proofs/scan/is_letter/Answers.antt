-- `text::scan::is_letter`: a letter is within its two bounds.
use native.Mathlib.Omega.{arith}
use mathlib.Core.Path.{sym}
use Rattle.text.proofs.Letters.{letter_within, no_letter_below, no_letter_above}
use Rattle.text.proofs.scan.is_letter.Goals as goal

pub returns-in-97-to-122 : goal.returns-in-97-to-122
returns-in-97-to-122 c = sym (letter_within _ (omega arith) (omega arith))

pub returns-in_default : goal.returns-in_default
returns-in_default c = sym (no_letter_below _ (omega arith))

pub returns-in_default-2 : goal.returns-in_default-2
returns-in_default-2 c = sym (no_letter_above _ (omega arith))
