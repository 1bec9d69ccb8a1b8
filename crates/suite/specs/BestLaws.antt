-- Laws of the best of a list.
use Rattle.std.specs.Prelude.{◌≡◌, refl, List, [], ◌∷◌, map, Bool, true, false, cond}
use Rattle.suite.specs.Best.{best, best_from}
use Rattle.suite.specs.SetLaws.{Each}

-- what is better may be said in another way
best_from-same : {A : Type 0} (f g : A → A → Bool) → ((b a : A) → f b a ≡ g b a) → (a : A) (l : List A) → best_from f a l ≡ best_from g a l
unfolding best_from
best_from-same f g e a [] = refl
best_from-same f g e a (b ∷ l) = rw (e b a) (best_from-same f g e (cond (g b a) b a) l)

pub best-same : {A : Type 0} (f g : A → A → Bool) → ((b a : A) → f b a ≡ g b a) → (d : A) (l : List A) → best f d l ≡ best g d l
unfolding best
best-same f g e d [] = refl
best-same f g e d (a ∷ l) = best_from-same f g e a l

-- the best of what f makes of a list is what f makes of the best
best_from-map : {A B : Type 0} (beats : B → B → Bool) (f : A → B) (a : A) (l : List A)
    → best_from beats (f a) (map f l) ≡ f (best_from (λ y x. beats (f y) (f x)) a l)
unfolding best_from
best_from-map beats f a [] = refl
best_from-map beats f a (b ∷ l) = go (beats (f b) (f a)) (best_from-map beats f b l) (best_from-map beats f a l)
  where
    go : (t : Bool) → best_from beats (f b) (map f l) ≡ f (best_from (λ y x. beats (f y) (f x)) b l)
        → best_from beats (f a) (map f l) ≡ f (best_from (λ y x. beats (f y) (f x)) a l)
        → best_from beats (cond t (f b) (f a)) (map f l) ≡ f (best_from (λ y x. beats (f y) (f x)) (cond t b a) l)
    go true p q = p
    go false p q = q

pub best-map : {A B : Type 0} (beats : B → B → Bool) (f : A → B) (d : A) (l : List A)
    → best beats (f d) (map f l) ≡ f (best (λ b a. beats (f b) (f a)) d l)
unfolding best
best-map beats f d [] = refl
best-map beats f d (a ∷ l) = best_from-map beats f a l

-- the best satisfies what d and all of the list satisfy
best_from-each : {A : Type 0} (P : A → Type 0) (beats : A → A → Bool) (a : A) (l : List A) → P a → Each P l → P (best_from beats a l)
unfolding best_from
best_from-each P beats a [] p h = p
best_from-each P beats a (b ∷ l) p h = go (beats b a) (best_from-each P beats b l h.0 h.1) (best_from-each P beats a l p h.1)
  where
    go : (t : Bool) → P (best_from beats b l) → P (best_from beats a l) → P (best_from beats (cond t b a) l)
    go true x y = x
    go false x y = y

pub best-each : {A : Type 0} (P : A → Type 0) (beats : A → A → Bool) (d : A) (l : List A) → P d → Each P l → P (best beats d l)
unfolding best
best-each P beats d [] p h = p
best-each P beats d (a ∷ l) p h = best_from-each P beats a l h.0 h.1
