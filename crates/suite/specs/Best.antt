-- One fold for everything: of a list of answers, lowest-numbered member first, the first that no other beats.
use Rattle.std.specs.Prelude.{List, [], ◌∷◌, Bool, cond}

-- `beats b a`: b is better than a
unfoldable pub best_from : {A : Type 0} → (A → A → Bool) → A → List A → A
best_from beats a [] = a
best_from beats a (b ∷ l) = best_from beats (cond (beats b a) b a) l

-- d where there is no answer at all
unfoldable pub best : {A : Type 0} → (A → A → Bool) → A → List A → A
best beats d [] = d
best beats d (a ∷ l) = best_from beats a l
