-- How many bytes an answer has. Assumes nothing.
use mathlib.Core.Path.{◌≡◌, refl, ◌∙◌, ap}
use Prim.Native.Nat.{ℕ, ◌+◌, ◌≤◌}
use native.Mathlib.Omega.{arith}
use lib.ListN.{length, length-append}
use Rattle.text.specs.Words.{ascii}
use Rattle.text.specs.Answer.{decimal, end_of, saying, text_of}
use Rattle.text.specs.declared.Reply.{Reply}
use Rattle.text.specs.declared.Reply.TheVariants.{SuiteOk, Ok, Removed, At, Absent, Near, Refused}

abbrev pub size_of : Reply → ℕ
size_of SuiteOk = 9
size_of (Ok v) = length (decimal v) + 4
size_of (Removed v q) = length (decimal v) + length (decimal q) + 5
size_of (At v x) = length (decimal v) + length (decimal x) + 5
size_of (Absent v) = length (decimal v) + 6
size_of (Near b a q) = length (end_of b) + length (end_of a) + length (decimal q) + 3
size_of (Refused n) = length (decimal n) + 4

pub text_size : (reply : Reply) → length (text_of reply) ≡ size_of reply
unfolding text_of saying ascii
text_size SuiteOk = refl
text_size (Ok v) = simp length-append (omega arith)
text_size (Removed v q) = simp length-append (omega arith)
text_size (At v x) = simp length-append (omega arith)
text_size (Absent v) = simp length-append (omega arith)
text_size (Near b a q) = simp length-append (omega arith)
text_size (Refused n) = simp length-append (omega arith)

pub text_sized : {reply k : Reply} → reply ≡ k → length (text_of reply) ≡ size_of k
text_sized {reply} e = text_size reply ∙ ap size_of e

pub text_some : (reply : Reply) → 1 ≤ length (text_of reply)
unfolding text_of ascii
text_some reply = simp length-append (omega arith)
