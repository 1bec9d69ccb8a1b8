-- `text::scan::dash_at`: the byte there is `-`, and the word ends behind it.
use mathlib.Core.Path.{sym, ◌∙◌}
use native.Mathlib.Omega.{arith}
use borrow.Author.Tests.{eqb-true, eqb-false, ltb-true}
use Rattle.text.proofs.Sets.{dash_past, dash_other, dash_then}
use Rattle.text.proofs.scan.dash_at.Goals as goal
use Rattle.text.proofs.scan.dash_at.Goals.{then-at-line, else-at-line}

pub returns-then-line-at-eq45 : goal.returns-then-line-at-eq45
returns-then-line-at-eq45 c =
    elim c.if-at-line.branch [
      | then-at-line w ↦
          c.ends_at.ensures
          ∙ sym (dash_then _ _ w.if-at-line.true (eqb-true _ _ (sym w.value-is ∙ c.if-line-at-eq45.true)))
      | else-at-line w ↦ absurd (let h = ltb-true _ _ (sym w.value-is ∙ c.if-line-at-eq45.true) in omega arith)
    ]

pub returns-else-line-at-eq45 : goal.returns-else-line-at-eq45
returns-else-line-at-eq45 c =
    elim c.if-at-line.branch [
      | then-at-line w ↦
          c.if-line-at-eq45.false
          ∙ sym (dash_other _ _ w.if-at-line.true (eqb-false _ _ (sym w.value-is ∙ c.if-line-at-eq45.false)))
      | else-at-line w ↦ c.if-line-at-eq45.false ∙ sym (dash_past _ _ w.if-at-line.false)
    ]
