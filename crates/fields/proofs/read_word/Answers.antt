-- `fields::read_word` meets its contract: the field is a part of the eight bytes around it.
-- Assumes nothing.
use Prim.Native.Nat.{ℕ, ◌≤◌}
use native.Mathlib.Omega.{arith}
use mathlib.Core.Bool.{true}
use mathlib.Core.Path.{◌≡◌, sym, ap₂, ◌∙◌}
use lib.ListN.{length}
use Rattle.fields.specs.Field.{has_word}
use Rattle.fields.specs.Word.{part_of}
use Rattle.fields.proofs.Below.{below_of_lem}
use Rattle.fields.proofs.Answers.{has_narrow, has_within, word_short}
use Rattle.fields.proofs.Within.{word-met}
use Rattle.fields.proofs.read_word.Goals as goal
use Rattle.fields.proofs.read_word.Goals.{Then-has_word}

-- the test that was passed
passed : (c : Then-has_word)
    → has_word (length c.args.bytes.now) c.args.at
    c.args.width
    ≡ true
passed c = sym c.has_word.ensures ∙ c.if-has_word.true

narrow : (c : Then-has_word) → c.args.width ≤ 56
narrow c = has_narrow _ _ _ (passed c)

pub whole_word-requires : goal.whole_word-requires
whole_word-requires c = has_within _ _ _ (passed c)

pub behind-requires : goal.behind-requires
behind-requires c = narrow (goal.at.behind-requires c).Then-has_word

pub part-requires : goal.part-requires
part-requires c = omega (arith, narrow (goal.at.part-requires c).Then-has_word, c.behind.ensures)

pub returns-then-has_word : goal.returns-then-has_word
returns-then-has_word c =
    let args = c.args in
    word-met args.bytes.now args.at args.width c.part.result
    (below_of_lem 256 args.bytes.now (λ i k. omega (arith, c.type_inv.bytes i)))
    (c.part.ensures
    ∙ ap₂ (λ (x after : ℕ). part_of x after args.width) c.whole_word.ensures c.behind.ensures)
    (passed (goal.at.returns-then-has_word c).Then-has_word)

pub returns-else-has_word : goal.returns-else-has_word
returns-else-has_word c = sym (word_short _ _ _ (sym c.has_word.ensures ∙ c.if-has_word.false))
