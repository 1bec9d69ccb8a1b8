-- Two words are compared byte by byte. Assumes nothing.
use mathlib.Core.Path.{◌≡◌, refl, sym, ◌∙◌}
use Prim.Native.Nat.{ℕ}
use mathlib.Core.List.{List, [], ◌∷◌}
use mathlib.Core.Bool.{Bool}
use lib.Dec.{eqb}
use lib.Pointwise.{pointwise}
use Rattle.text.specs.Words.{same}

same_pointwise : (a b : List ℕ) → pointwise eqb a b ≡ same a b
unfolding same
same_pointwise [] [] = refl
same_pointwise [] (c ∷ b) = refl
same_pointwise (d ∷ a) [] = refl
same_pointwise (d ∷ a) (c ∷ b) = rw (same_pointwise a b)

-- what `==` says of two words, the second of which is written out
pub compared : {r t : Bool} (a b : List ℕ) {w : List ℕ} → r ≡ pointwise eqb a b → b ≡ w → r ≡ t → same a w ≡ t
compared a b e q p = rw (← q, ← same_pointwise a b) (sym e ∙ p)
