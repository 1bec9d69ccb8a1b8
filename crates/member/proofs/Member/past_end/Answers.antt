-- `past_end` looks past the place of a name; LOW and HIGH have no row, so nothing stands at them.
use mathlib.Core.Path.{◌≡◌, sym, ◌∙◌}
use Rattle.member.specs.Tile.{entries}
use Rattle.member.proofs.Fits.{own, past_name_end, past_bare_end}
use Rattle.member.proofs.Member.past_end.Goals as goal

pub overflow_sub-end : goal.overflow_sub-end
overflow_sub-end c =
    let e = c.args.end in
    let o : own e ≡ 1 = sym c.rows_of.ensures.0 ∙ c.if-rows_of-eq1.true in
    (past_name_end (entries c.args.self.now) e o).0

pub next-requires : goal.next-requires
next-requires c =
    let e = c.args.end in
    let o : own e ≡ 1 = sym c.rows_of.ensures.0 ∙ c.if-rows_of-eq1.true in
    c.below_end-at.ensures ∙ (past_name_end (entries c.args.self.now) e o).1

pub returns-then-rows_of-eq1 : goal.returns-then-rows_of-eq1
returns-then-rows_of-eq1 c =
    let e = c.args.end in
    let o : own e ≡ 1 = sym c.rows_of.ensures.0 ∙ c.if-rows_of-eq1.true in
    c.next.ensures ∙ (past_name_end (entries c.args.self.now) e o).2

pub returns-else-rows_of-eq1 : goal.returns-else-rows_of-eq1
returns-else-rows_of-eq1 c =
    c.below_end-at.ensures
    ∙ past_bare_end (entries c.args.self.now) c.args.end (λ o. c.if-rows_of-eq1.false (c.rows_of.ensures.0 ∙ o))
