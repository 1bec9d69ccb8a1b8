-- No answer is longer than 33 bytes, so it fits wherever as many are free. Assumes nothing.
use mathlib.Core.Path.{◌≡◌}
use Prim.Native.Nat.{ℕ, ◌+◌, ◌≤◌}
use native.Mathlib.Omega.{arith}
use mathlib.Core.Bool.{true}
use lib.ListN.{length}
use borrow.Author.Tests.{le-leb}
use Rattle.text.specs.Answer.{text_of, fits_at}
use Rattle.text.specs.declared.Reply.{Reply}
use Rattle.text.specs.declared.Reply.TheVariants.{SuiteOk, Ok, Removed, At, Absent, Near, Refused}
use Rattle.text.proofs.Writing.{decimal-length, end_length}
use Rattle.text.proofs.Sizes.{size_of, text_size}

most : (reply : Reply) → size_of reply ≤ 33
most SuiteOk = omega arith
most (Ok v) = omega (arith, decimal-length v)
most (Removed v q) = omega (arith, decimal-length v, decimal-length q)
most (At v x) = omega (arith, decimal-length v, decimal-length x)
most (Absent v) = omega (arith, decimal-length v)
most (Near b a q) = omega (arith, end_length b, end_length a, decimal-length q)
most (Refused n) = omega (arith, decimal-length n)

pub longest : (reply : Reply) → length (text_of reply) ≤ 33
longest reply = rw (text_size reply) (most reply)

pub longest_fits : (n at : ℕ) (reply : Reply) → at + 33 ≤ n → fits_at n at (text_of reply) ≡ true
unfolding fits_at
longest_fits n at reply h = le-leb (at + length (text_of reply)) n (omega (arith, longest reply))
