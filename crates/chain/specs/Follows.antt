-- What an accepted call of a chain answers, and the suite that a chain's image is the image of.
use Rattle.std.specs.Prelude.{◌≡◌, List, ◌++◌, ℕ, length, drop}
use Rattle.suite.specs.Outcome.{answered}
use Rattle.suite.specs.Calls.{call_of}
use Rattle.suite.specs.declared.Suite.{Suite}
use Rattle.image.specs.Layout.{image_of}
use Rattle.bench.specs.Bench.{numbers_of, bytes_of}
use Rattle.history.specs.Directory.{Directory}
use Rattle.history.specs.Run.{Reached}
use Rattle.history.specs.Told.{values_of}
use Rattle.chain.specs.Chain.{Asked, called, told}

-- an accepted call
pub record Accepted (s : Suite) (d : Directory) (a : Asked) : Type 0 where
  pub outcome : (call_of s (called a)).outcome ≡ answered (values_of s d (called a))
  pub out : (told s d a).out ≡ image_of (call_of s (called a)).suite ++ drop (length (image_of (call_of s (called a)).suite)) a.out
  pub answer : (told s d a).answer ≡ bytes_of (numbers_of (values_of s d (called a))) ++ drop 16 a.answer

-- the suite that a chain's image is the image of
pub record Follows (image : List ℕ) (d : Directory) : Type 0 where
  pub suite : Suite
  pub reached : Reached suite d
  pub image-is : image ≡ image_of suite
