-- `fields::append` meets its contract: the word that it stores begins with the bits of the first byte before the field.
-- Assumes nothing.
use Prim.Native.Nat.{ℕ, ◌/◌, ◌-◌, ◌%◌, ◌^◌}
use native.Mathlib.Omega.{arith}
use mathlib.Core.Bool.{true}
use mathlib.Core.Path.{◌≡◌, sym, ap, ◌∙◌}
use lib.ListN.{length}
use Rattle.fields.specs.Bits.{Below}
use Rattle.fields.specs.Field.{has_word}
use Rattle.fields.proofs.Below.{below_of_lem}
use Rattle.fields.proofs.Answers.{has_narrow, has_within, append-not}
use Rattle.fields.proofs.Shifts.{may_join, before_lt}
use Rattle.fields.proofs.Storing.{append-met}
use Rattle.fields.proofs.append.Goals as goal
use Rattle.fields.proofs.append.Goals.{Then-has_word}

-- the test that was passed
passed : (c : Then-has_word)
    → has_word (length c.args.bytes.now) c.args.at
    c.args.width
    ≡ true
passed c = sym c.has_word.ensures ∙ c.if-has_word.true

byte-list : (c : Then-has_word) → Below 256 c.args.bytes.now
byte-list c =
    below_of_lem 256 c.args.bytes.now (λ i k. omega (arith, c.type_inv.bytes i))

pub bounds-bytes-at : goal.bounds-bytes-at
bounds-bytes-at c = omega (arith, has_within _ _ _ (passed (goal.at.bounds-bytes-at c).Then-has_word))

pub behind-requires : goal.behind-requires
behind-requires c = has_narrow _ _ _ (passed (goal.at.behind-requires c).Then-has_word)

pub join-requires : goal.join-requires
join-requires c =
    may_join c.args.at _ _ _ (has_narrow _ _ _ (passed (goal.at.join-requires c).Then-has_word)) c.behind.ensures
    (before_lt _ _ (omega (arith, c.from.ensures, (goal.at.join-requires c).Then-has_word.type_inv.bytes (c.args.at / 8))))

pub put_word-requires : goal.put_word-requires
put_word-requires c = has_within _ _ _ (passed (goal.at.put_word-requires c).Then-has_word)

pub returns-then-has_word : goal.returns-then-has_word
returns-then-has_word c =
    let args = c.args in
    c.put_word.ensures
    ∙ append-met args.bytes.now args.at args.width args.v (byte-list (goal.at.returns-then-has_word c).Then-has_word) (passed (goal.at.returns-then-has_word c).Then-has_word) _ _ _
    (ap (λ (x : ℕ). x / 2 ^ (8 - args.at % 8)) c.from.ensures)
    c.behind.ensures
    c.join.ensures

pub returns-else-has_word : goal.returns-else-has_word
returns-else-has_word c = sym (append-not _ _ _ _ (sym c.has_word.ensures ∙ c.if-has_word.false))
