-- A list gone through while a test holds.
use mathlib.Core.Path.{◌≡◌}
use mathlib.Core.List.{List}
use mathlib.Core.Bool.{Bool, true, false}
use Prim.Native.Nat.{ℕ, ◌+◌, ◌≤◌, ◌<◌}
use native.Mathlib.Numerals.{add-one}
use lib.ListN.{length, drop, get_or, drop_of_length-le}
use lib.Seq.{drop-cons}
use Rattle.suite.specs.Sets.{all}

module _ {A : Type 0} (f : A → Bool) (l : List A) (i : ℕ) where
  pub all-on : (d : A) → i < length l → f (get_or l i d) ≡ true → all f (drop i l) ≡ all f (drop (i + 1) l)
  unfolding all
  all-on d h e = rw (drop-cons l i d, e, add-one)

  pub all-stop : (d : A) → i < length l → f (get_or l i d) ≡ false → all f (drop i l) ≡ false
  unfolding all
  all-stop d h e = rw (drop-cons l i d, e)

  pub all_past : length l ≤ i → all f (drop i l) ≡ true
  unfolding all
  all_past h = rw (drop_of_length-le l)
