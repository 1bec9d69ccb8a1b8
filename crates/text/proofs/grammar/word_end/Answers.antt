-- `text::grammar::word_end`: the letters that the line begins with are its first word, or the line is no command.
use native.Mathlib.Omega.{arith}
use Rattle.text.specs.Line.{longest_line}
use Rattle.text.proofs.Letters.{too_long, no_word, odd-word, some_word}
use Rattle.text.proofs.grammar.word_end.Goals as goal

pub returns-then-line-gt-LONGEST : goal.returns-then-line-gt-LONGEST
unfolding longest_line
returns-then-line-gt-LONGEST c = too_long _ (omega arith)

pub returns-in_err-get : goal.returns-in_err-get
unfolding longest_line
returns-in_err-get c =
    rw c.from_residual.ensures
    (no_word _ c.if-line-gt-LONGEST.false c.letters-end.ensures (omega (arith, c.in_err-get.ensures.lookup)))

pub returns-then-branch-ne32 : goal.returns-then-branch-ne32
unfolding longest_line
returns-then-branch-ne32 c =
    let at = c.in_ok-get.ensures.lookup.3 in
    odd-word _ c.if-line-gt-LONGEST.false c.letters-end.ensures at.0 (at.1 0) c.if-branch-ne32.true

pub returns : goal.returns
unfolding longest_line
returns c =
    let at = c.in_ok-get.ensures.lookup.3 in
    some_word _ c.if-line-gt-LONGEST.false c.letters-end.ensures at.0 (at.1 0) c.if-branch-ne32.false
