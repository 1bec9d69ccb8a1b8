-- A command's arguments are read one after another: each set or number that is found, or that is not, decides how the
-- grammar goes on. Assumes nothing.
use mathlib.Core.Path.{◌≡◌, refl, sym, ◌∙◌}
use Prim.Native.Nat.{ℕ, ◌+◌, ◌≤◌, ◌<◌}
use native.Mathlib.Omega.{arith}
use mathlib.Core.List.{List, [], ◌∷◌}
use lib.ListN.{length}
use Rattle.std.specs.Prelude.{Option, None, Some}
use Rattle.std.specs.Option.{option_map}
use Rattle.text.specs.Words.{numeral, argument}
use Rattle.text.specs.Line.{given, with_word, with_set, with_number, with_nothing, reading, changing, removing}
use Rattle.text.specs.Scan.{words_from, set_at, number_at}
use Rattle.text.specs.declared.Members.{Members}
use Rattle.text.specs.declared.scan.Found.{Found}
use Rattle.text.proofs.Places.{Step, stepped, goes, stopped, from_past, from_within}

module _ (line : List ℕ) (at : ℕ) where
  pub number_step : {r : Option (Found ℕ)} {f : Found ℕ} → r ≡ number_at line at → r ≡ Some f → Step numeral line at f.it f.end
  number_step {r} {f} e q = stepped numeral line at f (sym e ∙ q)

  pub set-step : {r : Option (Found Members)} {f : Found Members} → r ≡ set_at line at → r ≡ Some f → Step argument line at f.it f.end
  set-step {r} {f} e q = stepped argument line at f (sym e ∙ q)

  module _ {R : Type 0} where
    -- a set or a number is there: the grammar goes on behind it
    pub set-goes : {r : Option (Found Members)} {s : Found Members} → r ≡ set_at line at → r ≡ Some s
        → (f : Members → List (List ℕ) → Option R) → with_set (words_from line at) f ≡ f s.it (words_from line (s.end + 1))
    set-goes e q = goes argument line at (set-step e q)

    pub number-goes : {r : Option (Found ℕ)} {n : Found ℕ} → r ≡ number_at line at → r ≡ Some n
        → (f : ℕ → List (List ℕ) → Option R) → with_number (words_from line at) f ≡ f n.it (words_from line (n.end + 1))
    number-goes e q = goes numeral line at (number_step e q)

    -- none is: the line is not understood
    pub set-stops : {r : Option (Found Members)} → r ≡ set_at line at → r ≡ None
        → (f : Members → List (List ℕ) → Option R) → with_set (words_from line at) f ≡ None
    set-stops e q = stopped argument line at (sym e ∙ q)

    pub number-stops : {r : Option (Found ℕ)} → r ≡ number_at line at → r ≡ None
        → (f : ℕ → List (List ℕ) → Option R) → with_number (words_from line at) f ≡ None
    number-stops e q = stopped numeral line at (sym e ∙ q)

    -- the end of the line
    pub ends-here : length line ≤ at → (r : R) → with_nothing (words_from line (at + 1)) r ≡ Some r
    unfolding with_nothing
    ends-here h r = rw (from_past line (at + 1) (omega arith))

    pub goes_on : at < length line → (r : R) → with_nothing (words_from line (at + 1)) r ≡ None
    unfolding with_nothing
    goes_on h r = rw (from_within line (at + 1) (omega arith))

-- what is made of the arguments in the end is made of them as they are given
module _ {A R S : Type 0} (read : List ℕ → Option A) (h : R → S) (f : A → List (List ℕ) → Option R) (g : A → List (List ℕ) → Option S)
    (same : (a : A) (ws : List (List ℕ)) → g a ws ≡ option_map h (f a ws)) where
  word_made : (ws : List (List ℕ)) → with_word read ws g ≡ option_map h (with_word read ws f)
  unfolding with_word given
  word_made [] = refl
  word_made (w ∷ ws) = go (read w)
    where
      go : (o : Option A) → given o (λ a. g a ws) ≡ option_map h (given o (λ a. f a ws))
      go None = refl
      go (Some a) = same a ws

module _ {R S : Type 0} (h : R → S) where
  nothing-made : (r : R) (ws : List (List ℕ)) → with_nothing ws (h r) ≡ option_map h (with_nothing ws r)
  unfolding with_nothing
  nothing-made r [] = refl
  nothing-made r (w ∷ ws) = refl

-- the last number
pub last_made : {R : Type 0} (make : ℕ → R) (ws : List (List ℕ))
    → with_number ws (λ k ws. with_nothing ws (make k)) ≡ option_map make (with_number ws (λ k ws. with_nothing ws k))
last_made make = word_made numeral make (λ k ws. with_nothing ws k) (λ k ws. with_nothing ws (make k)) (nothing-made make)

-- so all the arguments of a command may be taken first, and the command made of them
pub reading_made : {R : Type 0} (make : Members → ℕ → R) (ws : List (List ℕ))
    → reading make ws ≡ option_map (λ (p : Members × ℕ). make p.0 p.1) (reading (λ s k. (s, k)) ws)
unfolding reading
reading_made make =
    let h = λ (p : Members × ℕ). make p.0 p.1 in
    word_made argument h _ _ (λ s. word_made numeral h _ _ (λ k. nothing-made h (s, k)))

pub changing_made : {R : Type 0} (make : Members → Members → ℕ → ℕ → R) (ws : List (List ℕ))
    → changing make ws ≡ option_map (λ (p : Members × Members × ℕ × ℕ). make p.0 p.1 p.2 p.3) (changing (λ s t k v. (s, t, k, v)) ws)
unfolding changing
changing_made make =
    let h = λ (p : Members × Members × ℕ × ℕ). make p.0 p.1 p.2 p.3 in
    word_made argument h _ _ (λ s. word_made argument h _ _ (λ t. word_made numeral h _ _ (λ k. word_made numeral h _ _ (λ v. nothing-made h (s, t, k, v)))))

pub removing_made : {R : Type 0} (make : Members → Members → ℕ → R) (ws : List (List ℕ))
    → removing make ws ≡ option_map (λ (p : Members × Members × ℕ). make p.0 p.1 p.2) (removing (λ s t k. (s, t, k)) ws)
unfolding removing
removing_made make =
    let h = λ (p : Members × Members × ℕ). make p.0 p.1 p.2 in
    word_made argument h _ _ (λ s. word_made argument h _ _ (λ t. word_made numeral h _ _ (λ k. nothing-made h (s, t, k))))
