-- The contracts of the public functions leave no choice: any two outcomes that a contract allows are equal.
-- Assumes nothing.
use Prim.Native.Nat.{ℕ}
use mathlib.Core.Path.{◌≡◌, sym, ◌∙◌}
use mathlib.Core.List.{List}
use Rattle.fields.specs.Field.{read_of, word_of, append_of, after_of}
use Rattle.std.specs.Prelude.{Option}

-- `read`: the answer
pub read_determined : (bytes : List ℕ) (at width : ℕ) (r s : Option ℕ)
    → r ≡ read_of bytes at width
    → s ≡ read_of bytes at width
    → r ≡ s
read_determined bytes at width r s p q = p ∙ sym q

-- `read_word`: the answer
pub read_word_determined : (bytes : List ℕ) (at width : ℕ) (r s : Option ℕ)
    → r ≡ word_of bytes at width
    → s ≡ word_of bytes at width
    → r ≡ s
read_word_determined bytes at width r s p q = p ∙ sym q

-- `append`: the lent bytes, all of them
pub append_determined : (bytes : List ℕ) (at width v : ℕ) (after after' : List ℕ)
    → after ≡ append_of bytes at width v
    → after' ≡ append_of bytes at width v
    → after ≡ after'
append_determined bytes at width v after after' p q = p ∙ sym q

-- `append_after`: the lent bytes, all of them
pub append-after_determined : (bytes : List ℕ) (at before width v : ℕ) (after after' : List ℕ)
    → after ≡ after_of bytes at before width v
    → after' ≡ after_of bytes at before width v
    → after ≡ after'
append-after_determined bytes at before width v after after' p q = p ∙ sym q
