-- `append` puts a row in above the last where the three tests hold.
use mathlib.Core.Path.{sym, ◌∙◌}
use Rattle.member.proofs.Writes.{append-above}
use Rattle.member.proofs.Member.append.Goals as goal

pub returns-then-in_range : goal.returns-then-in_range
returns-then-in_range c =
    let a = c.args in
    let n = c.used-top in
    let q = c.end_below in
    c.insert.ensures
    ∙ append-above a.self a.row n.result n.ensures.0 c.if-top-lt-SLOTS.true q.result q.ensures c.if-end_below-row.true
    (sym c.in_range.ensures ∙ c.if-in_range.true)
