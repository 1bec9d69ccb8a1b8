-- `text::grammar::voting`: the words ahead, with the votes so far, give what all the words give.
use Prim.Native.Nat.{◌+◌, ◌-◌, ◌≤◌}
use mathlib.Core.Path.{◌≡◌}
use lib.ListN.{length}
use Rattle.text.specs.Line.{voting}
use Rattle.text.specs.Scan.{words_from}
use Rattle.text.proofs.Votes.{collected}
use Rattle.text.proofs.grammar.voting.Given as goal

abbrev pub invariant-loop-next : goal.invariant-loop-next
invariant-loop-next l = (l.count ≤ l.next)
    × (length l.votes ≡ 8)
    × (collected l.read l.write l.votes l.count (words_from l.line l.next) ≡ voting l.read l.write (words_from l.line l.at))

abbrev pub decreases-loop-next : goal.decreases-loop-next
decreases-loop-next l = length l.line + 1 - l.next
