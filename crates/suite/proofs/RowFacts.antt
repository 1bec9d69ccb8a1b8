-- The rows of a round compared.
use mathlib.Core.Path.{◌≡◌}
use mathlib.Core.List.{List}
use mathlib.Core.Bool.{true, false}
use Prim.Native.Nat.{ℕ, ◌≤◌, ◌<◌}
use borrow.Author.Tests.{lt-ltb, le-ltb, eq-eqb, ne_eqb}
use lib.Dec.{ltb}
use lib.ListN.{get_or}
use Rattle.suite.specs.Rows.{beats_at}

-- the three ways in which b and a may stand in the first column
module _ (c t : ℕ) (b a : List ℕ) where
  pub beats-more : get_or a c 0 < get_or b c 0 → true ≡ beats_at c t b a
  beats-more h = rw (lt-ltb (get_or a c 0) (get_or b c 0) h)

  pub beats-level : get_or b c 0 ≤ get_or a c 0 → get_or a c 0 ≡ get_or b c 0 → ltb (get_or a t 0) (get_or b t 0) ≡ beats_at c t b a
  beats-level h e = rw (le-ltb (get_or a c 0) (get_or b c 0) h, eq-eqb (get_or a c 0) (get_or b c 0) e)

  pub beats-less : get_or b c 0 ≤ get_or a c 0 → (get_or a c 0 ≡ get_or b c 0 → ⊥) → false ≡ beats_at c t b a
  beats-less h e = rw (le-ltb (get_or a c 0) (get_or b c 0) h, ne_eqb (get_or a c 0) (get_or b c 0) e)
