use borrow.Author.Tests.{le-leb, lt-leb}
use Rattle.member.proofs.search.end_of.Goals as goal

-- src/search.rt:11:1
pub returns-then-name-le-LARGEST : goal.returns-then-name-le-LARGEST
returns-then-name-le-LARGEST c = simp (le-leb _ 1048575 c.if-name-le-LARGEST.true)

-- src/search.rt:11:1
pub returns-else-name-le-LARGEST : goal.returns-else-name-le-LARGEST
returns-else-name-le-LARGEST c = simp (lt-leb _ 1048575 c.if-name-le-LARGEST.false)
