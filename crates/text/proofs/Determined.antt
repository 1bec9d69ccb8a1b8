-- The contracts of the public functions leave no choice: any two outcomes that a contract allows are equal.
-- Assumes nothing.
use Prim.Native.Nat.{ℕ}
use mathlib.Core.Path.{◌≡◌, sym, ◌∙◌}
use mathlib.Core.List.{List}
use lib.ListN.{length}
use Rattle.std.specs.Prelude.{Option}
use Rattle.text.specs.Line.{command_of, ballots_of}
use Rattle.text.specs.Answer.{text_of, place_after, printed}
use Rattle.text.specs.declared.Command.{Command}
use Rattle.text.specs.declared.Creation.{Creation}
use Rattle.text.specs.declared.Reply.{Reply}

-- `parse`: the command, or that there is none
pub parse_determined : (line : List ℕ) (r s : Option Command) → r ≡ command_of line → s ≡ command_of line → r ≡ s
parse_determined line r s p q = p ∙ sym q

-- `ballots`: what a `suite` line asks for, or that the line is none
pub ballots_determined : (line : List ℕ) (r s : Option Creation) → r ≡ ballots_of line → s ≡ ballots_of line → r ≡ s
ballots_determined line r s p q = p ∙ sym q

-- `print`: the place, and the lent bytes, all of them
pub print_determined : (reply : Reply) (out : List ℕ) (at r s : ℕ) (after after' : List ℕ)
    → r ≡ place_after (length out) at (text_of reply)
    → after ≡ printed out at (text_of reply)
    → s ≡ place_after (length out) at (text_of reply)
    → after' ≡ printed out at (text_of reply)
    → (r ≡ s) × (after ≡ after')
print_determined reply out at r s after after' p a q b = (p ∙ sym q, a ∙ sym b)
