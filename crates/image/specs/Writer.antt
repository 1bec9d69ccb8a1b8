-- The writer: what it appends, and what it leaves in the bytes that a caller lends.
use Rattle.std.specs.Prelude.{◌≡◌, List, [], ◌∷◌, ◌++◌, cond, ℕ, ◌-◌, ◌*◌, length, drop, replicate, leb, Result, Ok, Err}
use Rattle.fields.specs.Bits.{bits_of, Below}
use Rattle.suite.specs.Suite.{sound_suite}
use Rattle.suite.specs.Outcome.{Outcome, answered, refused, number_of}
use Rattle.suite.specs.declared.Refusal.{Refusal}
use Rattle.suite.specs.declared.Suite.{Suite}
use Rattle.image.specs.Layout.{Piece, bits_in, widths, image_of}

-- the bytes hold these fields, and zero bits behind them
abbrev pub Holds : List ℕ → List Piece → Type 0
Holds bytes l = (bits_of bytes ≡ bits_in l ++ replicate (8 * length bytes - widths l) 0) × Below 256 bytes

-- what appending fields at bit `at` comes to: bytes that hold other fields up to there hold these behind them afterwards
pub record Appended (before : List ℕ) (at : ℕ) (l : List Piece) (after : List ℕ) : Type 0 where
  pub same_length : length after ≡ length before
  pub holds : (done : List Piece) → widths done ≡ at → Holds before done → Holds after (done ++ l)

-- what a call answers, and what stands in the lent bytes afterwards
pub record Lent : Type 0 where
  pub outcome : Outcome
  pub bytes : List ℕ

abbrev pub written_of : Result ℕ Refusal → Outcome
written_of (Ok n) = answered (n ∷ [])
written_of (Err r) = refused (number_of r)

abbrev pub lent_of : Result ℕ Refusal → List ℕ → Lent
lent_of r bytes = record { outcome = written_of r; bytes = bytes }

abbrev pub untouched : ℕ → List ℕ → Lent
untouched n out = record { outcome = refused n; bytes = out }

-- The writer fills its length and leaves later bytes untouched. 19: the lent bytes are too few.
unfoldable pub fill_of : List ℕ → List ℕ → Lent
fill_of image out =
    cond (leb (length image) (length out))
    (record { outcome = answered (length image ∷ []); bytes = image ++ drop (length image) out })
    (untouched 19 out)

-- 1: the suite handed in isn't sound.
unfoldable pub write_of : Suite → List ℕ → Lent
write_of s out = cond (sound_suite s) (fill_of (image_of s) out) (untouched 1 out)
