-- `next` looks at the entry in the place that the search gave.
use native.Mathlib.Omega.{arith}
use Rattle.member.proofs.Rows.{next-held_rows, next_other_rows}
use Rattle.member.proofs.Member.next.Goals as goal
use Rattle.member.proofs.Member.next.Goals.{else-at-used-via-then-at-used+else-self-at, else-at-used-via-else-at-used}

pub returns-then-self-at : goal.returns-then-self-at
returns-then-self-at c =
    let a = c.args in
    next-held_rows a.self.now a.name a.at c.requires (omega arith) c.if-self-at.true

pub returns-else-at-used : goal.returns-else-at-used
returns-else-at-used c =
    let a = c.args in
    elim c.else-at-used.branch [
      | else-at-used-via-then-at-used+else-self-at w ↦ next_other_rows a.self.now a.name a.at c.requires (λ h. w.if-self-at.false)
      | else-at-used-via-else-at-used w ↦ next_other_rows a.self.now a.name a.at c.requires (λ h e. omega arith)
    ]
