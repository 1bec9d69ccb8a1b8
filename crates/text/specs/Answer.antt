-- The text of an answer. The rules paper, "Line program", its last paragraph and the right side of its listing.
use Rattle.std.specs.Prelude.{ℕ, zero, suc, ◌+◌, ◌-◌, ◌/◌, ◌%◌, ◌≡◌, List, [], ◌∷◌, ◌++◌, Bool, cond, length, take, drop, leb, ltb, eqb}
use Rattle.text.specs.Words.{ascii}
use Rattle.text.specs.declared.Reply.{Reply}
use Rattle.text.specs.declared.Reply.TheVariants.{SuiteOk, Ok, Removed, At, Absent, Near, Refused}

-- a number in decimal, without a leading zero: its last digit comes after the digits of its tenth, if it has a tenth. Ten
-- digits are enough for 4,294,967,295, so nine are enough for its tenth
unfoldable pub digit : ℕ → List ℕ
digit d = (d + 48) ∷ []

unfoldable pub decimal_on : ℕ → ℕ → List ℕ
decimal_on zero n = digit n
decimal_on (suc k) n = cond (ltb n 10) (digit n) (decimal_on k (n / 10) ++ digit (n % 10))

unfoldable pub decimal : ℕ → List ℕ
decimal n = decimal_on 9 n

-- the end of a gap: 0 is LOW, n + 1 the name n, and 1,048,577, one past the largest name's, HIGH
unfoldable pub high_end : ℕ
high_end = 1048577

unfoldable pub end_of : ℕ → List ℕ
end_of e = cond (eqb e 0) (ascii "LOW") (cond (eqb e high_end) (ascii "HIGH") (decimal (e - 1)))

-- "`ok` shows the version, after `del` also requests; `at` version and value; `none` version; `near` predecessor (or LOW),
-- successor (or HIGH), requests; `no` the refusal"
unfoldable pub saying : Reply → List ℕ
saying SuiteOk = ascii "suite ok"
saying (Ok version) = ascii "ok " ++ decimal version
saying (Removed version requests) = ascii "ok " ++ (decimal version ++ (ascii " " ++ decimal requests))
saying (At version value) = ascii "at " ++ (decimal version ++ (ascii " " ++ decimal value))
saying (Absent version) = ascii "none " ++ decimal version
saying (Near below above requests) = end_of below ++ (ascii " " ++ (end_of above ++ (ascii " " ++ decimal requests)))
saying (Refused number) = ascii "no " ++ decimal number

-- with its newline
unfoldable pub text_of : Reply → List ℕ
text_of reply = saying reply ++ ascii "\n"

-- whether a text fits into n bytes at a place; the place behind it; the bytes with the text at the place, and every other
-- byte as it was. Where it does not fit, all of that stays
unfoldable pub fits_at : ℕ → ℕ → List ℕ → Bool
fits_at n at text = leb (at + length text) n

unfoldable pub place_after : ℕ → ℕ → List ℕ → ℕ
place_after n at text = cond (fits_at n at text) (at + length text) at

unfoldable pub printed : List ℕ → ℕ → List ℕ → List ℕ
printed out at text =
    cond (fits_at (length out) at text) (take at out ++ (text ++ drop (at + length text) out)) out

-- what a piece of a text that is written in front of `at` leaves: the piece at its own place, and every other byte as it was
pub record Written (old : List ℕ) (at : ℕ) (new : List ℕ) (from : ℕ) (piece : List ℕ) : Type 0 where
  pub place : from + length piece ≡ at
  pub front : take from new ≡ take from old
  pub bytes : drop from new ≡ piece ++ drop at old
