use borrow.Author.Tests.{eq-eqb, ne_eqb, le-leb, lt-leb}
use Rattle.member.specs.Search.{below_end}
use Rattle.member.proofs.Member.below_end.Goals as goal

-- src/search.rt:58:13
pub returns-then-end-eq0 : goal.returns-then-end-eq0
unfolding below_end
returns-then-end-eq0 c = simp (eq-eqb c.args.end 0 c.if-end-eq0.true)

-- src/search.rt:61:13
pub returns-then-end-ge-HIGH : goal.returns-then-end-ge-HIGH
unfolding below_end
returns-then-end-ge-HIGH c = simp (ne_eqb c.args.end 0 c.if-end-eq0.false, le-leb 1048577 c.args.end c.if-end-ge-HIGH.true) c.used.ensures.0

-- src/search.rt:54:5
pub returns : goal.returns
unfolding below_end
returns c = simp (ne_eqb c.args.end 0 c.if-end-eq0.false, lt-leb 1048577 c.args.end c.if-end-ge-HIGH.false) c.seat.ensures
