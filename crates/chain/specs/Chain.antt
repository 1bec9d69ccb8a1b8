-- A chain of bench calls, each fed the last accepted image, with the plain directory beside it.
use Rattle.std.specs.Prelude.{◌≡◌, List, [], ◌++◌, ℕ}
use Rattle.suite.specs.Outcome.{answered}
use Rattle.suite.specs.Calls.{Call, call_of}
use Rattle.suite.specs.declared.Suite.{Suite}
use Rattle.image.specs.Layout.{image_of}
use Rattle.image.specs.Reader.{read_image}
use Rattle.bench.specs.Bench.{Stepped, call_for, settled, admitted, bench_of}
use Rattle.history.specs.Directory.{Directory}
use Rattle.history.specs.Run.{Reached, applied}
use Rattle.history.specs.Told.{told_of}

-- a bench call: its five numbers, and what is lent for image out and for the answer
pub record Asked : Type 0 where
  pub operation : ℕ
  pub read : ℕ
  pub write : ℕ
  pub name : ℕ
  pub value : ℕ
  pub out : List ℕ
  pub answer : List ℕ

-- what it comes to on an image
abbrev pub benched : List ℕ → Asked → Stepped
benched image a = bench_of a.operation a.read a.write a.name a.value image a.out a.answer

abbrev pub called : Asked → Call
called a = call_for a.operation a.read a.write a.name a.value

-- An image that stands at the start of these bytes; there is one at most (Theorems.one-start).
pub record Starts (bytes image : List ℕ) : Type 0 where
  pub later : List ℕ
  pub bytes-are : bytes ≡ image ++ later
  pub accepted : (read_image image).outcome ≡ answered []

-- An image that a chain has come to, with the plain directory of its history. A chain starts from the image of a suite that a run
-- reaches, above all of a created one. An accepted call goes on with the image that image out starts with, and the directory gets
-- its change. After a refused call the chain stands where it stood; a bench may also go on from an earlier image.
pub data Chained : List ℕ → Directory → Type 0 where
  started : {s : Suite} {d : Directory} → Reached s d → Chained (image_of s) d
  went : {image : List ℕ} {d : Directory} → Chained image d → (a : Asked) → (benched image a).code ≡ 0 →
      (next : List ℕ) → Starts (benched image a).out next → Chained next (applied d (called a))

-- What a bench call comes to where the image is that of s and the plain directory is d: 14, 19 for the answer, and else what the
-- plain directory tells of the call, 19 for image out, or 0 with the image of the suite afterwards.
unfoldable pub told : Suite → Directory → Asked → Stepped
told s d a =
    admitted a.operation a.out a.answer
    (settled (told_of s d (called a)) (image_of (call_of s (called a)).suite) a.out a.answer)

-- the suite that an image holds
abbrev pub held : List ℕ → Suite
held image = (read_image image).suite
