-- `fields::append_after` meets its contract: the word that it stores begins with the bits that were given.
-- Assumes nothing.
use native.Mathlib.Omega.{arith}
use mathlib.Core.Bool.{true}
use mathlib.Core.Path.{◌≡◌, sym, ◌∙◌}
use lib.ListN.{length}
use Rattle.fields.specs.Bits.{Below}
use Rattle.fields.specs.Field.{has_word}
use Rattle.fields.proofs.Below.{below_of_lem}
use Rattle.fields.proofs.Answers.{has_narrow, has_within, after-not}
use Rattle.fields.proofs.Shifts.{may_join, part_lt}
use Rattle.fields.proofs.Storing.{after-met}
use Rattle.fields.proofs.append_after.Goals as goal
use Rattle.fields.proofs.append_after.Goals.{Then-has_word}

-- the test that was passed
passed : (c : Then-has_word)
    → has_word (length c.args.bytes.now) c.args.at
    c.args.width
    ≡ true
passed c = sym c.has_word.ensures ∙ c.if-has_word.true

byte-list : (c : Then-has_word) → Below 256 c.args.bytes.now
byte-list c =
    below_of_lem 256 c.args.bytes.now (λ i k. omega (arith, c.type_inv.bytes i))

pub behind-requires : goal.behind-requires
behind-requires c = has_narrow _ _ _ (passed (goal.at.behind-requires c).Then-has_word)

pub join-requires : goal.join-requires
join-requires c =
    may_join c.args.at _ _ _ (has_narrow _ _ _ (passed (goal.at.join-requires c).Then-has_word)) c.behind.ensures
    (rw c.part-known.ensures (part_lt _ _ _))

pub put_word-requires : goal.put_word-requires
put_word-requires c = has_within _ _ _ (passed (goal.at.put_word-requires c).Then-has_word)

pub returns-then-has_word : goal.returns-then-has_word
returns-then-has_word c =
    let args = c.args in
    c.put_word.ensures
    ∙ after-met args.bytes.now args.at args.width args.v (byte-list (goal.at.returns-then-has_word c).Then-has_word) (passed (goal.at.returns-then-has_word c).Then-has_word) args.before _ _ _
    c.part-known.ensures
    c.behind.ensures
    c.join.ensures

pub returns-else-has_word : goal.returns-else-has_word
returns-else-has_word c = sym (after-not _ _ _ _ _ (sym c.has_word.ensures ∙ c.if-has_word.false))
