-- What was read, as a load in place of a suite.
-- Assumes nothing.
use Prim.Native.Nat.{ℕ}
use mathlib.Core.Bool.{true, false}
use mathlib.Core.Path.{◌≡◌}
use mathlib.Core.List.{List, []}
use lib.ListN.{drop}
use Rattle.fields.specs.Bits.{bits_of}
use Rattle.suite.specs.Outcome.{answered, refused, number_of}
use Rattle.suite.specs.declared.Refusal.{Refusal}
use Rattle.suite.specs.declared.Suite.{Suite}
use Rattle.image.specs.Reader.{took, fault, read_suite, only_padding, loaded, not_loaded, ended, read_image, load_of}

module _ (image : List ℕ) where
  pub image-fault : (n : ℕ) → fault n ≡ read_suite image 20 0 → not_loaded n ≡ read_image image
  unfolding read_image ended
  image-fault n e = rw (← e)

  module _ (s : Suite) (at : ℕ) (e : took s at ≡ read_suite image 20 0) where
    pub image-done : only_padding (drop at (bits_of image)) ≡ true → loaded s ≡ read_image image
    unfolding read_image ended
    image-done h = rw (← e, h)

    pub image-padding : only_padding (drop at (bits_of image)) ≡ false → not_loaded 18 ≡ read_image image
    unfolding read_image ended
    image-padding h = rw (← e, h)

  -- what loading answers: a refused image leaves the suite that was there
  pub load-refused : (r : Refusal) (before : Suite) → not_loaded (number_of r) ≡ read_image image
      → record { outcome = refused (number_of r); suite = before } ≡ load_of image before
  unfolding load_of
  load-refused r before e = rw (← e)

  pub load-done : (s before : Suite) → loaded s ≡ read_image image → record { outcome = answered []; suite = s } ≡ load_of image before
  unfolding load_of
  load-done s before e = rw (← e)
