-- `read_row` takes an entry out of two words, or leaves it to `read_last_row` where they are not there.
use native.Mathlib.Omega.{arith}
use mathlib.Core.Path.{◌≡◌, sym, ◌∙◌}
use Prim.Native.Nat.{◌/◌, ◌%◌, ◌^◌, ◌<◌}
use borrow.Author.Tests.{le-leb}
use Rattle.image.specs.Reader.{judged, read_row}
use Rattle.image.proofs.Words.{word_range, row_in, row_low, words_row}
use Rattle.image.proofs.entries.read_row.Goals as goal
use Rattle.image.proofs.entries.read_row.Goals.{In-Some, In-Some-read_word}

-- the entry in the words that were there, and how great these are
row_is : (c : In-Some-read_word)
    → read_row c.args.bytes.now 20 c.args.lowest c.args.at ≡ row_in c.args.lowest c.args.at c.in-Some.high c.in-Some-read_word.rest
row_is c =
    words_row _ _ _ _ _ (sym c.read_word.ensures ∙ c.in-Some.is)
    (sym c.read_word-2.ensures ∙ c.in-Some-read_word.is)

high_small : (c : In-Some) → c.in-Some.high < 2 ^ 44
high_small c = word_range _ _ 44 _ (sym c.read_word.ensures ∙ c.in-Some.is)

pub returns-then-name-lowest : goal.returns-then-name-lowest
returns-then-name-lowest c =
    row_low c.args.lowest c.args.at c.in-Some.high c.in-Some-read_word.rest c.then-name-lowest.either
    ∙ sym (row_is (goal.at.returns-then-name-lowest c).In-Some-read_word)

pub overflow_cast-result : goal.overflow_cast-result
overflow_cast-result c = omega (arith, high_small (goal.at.overflow_cast-result c).In-Some)

pub returns : goal.returns
unfolding judged
returns c =
    rw (
      row_is (goal.at.returns c).In-Some-read_word,
      le-leb c.args.lowest (c.in-Some.high / 16777216) (omega arith),
      le-leb 1 (c.in-Some.high % 16777216) (omega arith),
    )
