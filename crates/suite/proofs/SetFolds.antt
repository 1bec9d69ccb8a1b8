-- A set gone through place by place: the best of what it names, kept on the way, and a test of all that it names.
use mathlib.Core.Path.{◌≡◌, refl, sym, ap, ◌∙◌}
use mathlib.Core.List.{List, [], ◌∷◌}
use mathlib.Core.Bool.{Bool, true, false, cond}
use Prim.Native.Nat.{ℕ, ◌+◌, ◌/◌, ◌%◌, ◌≤◌, ◌<◌}
use lib.ListN.{length, drop, get_or}
use Rattle.std.specs.Option.{option_map, unwrap_or}
use Rattle.std.proofs.Common.{Option, Some, None, MatchOption, IsTrue}
use Rattle.suite.specs.Sets.{chosen, all}
use Rattle.suite.specs.Best.{best, best_from}
use Rattle.suite.proofs.Sets.{chosen-named, chosen-passed, chosen_past}

-- the best of what is left, going on with the one held where there is one already; d stands where there is none at all
abbrev pub best_on : {A H : Type 0} → (A → A → Bool) → A → (H → A) → Option H → List A → A
best_on f d at (Some x) l = best_from f (at x) l
best_on f d at None l = best f d l

-- what stands in place i may take the place of the one held
module _ {A H : Type 0} (f : A → A → Bool) (d : A) (at : H → A) (l : List A) (i left : ℕ) (h : i < length l) {x : A} (held : Option H)
    (inv : x ≡ best_on f d at held (chosen (drop i l) left)) (held' : Option H) where
  abbrev Next : Type 0
  Next = x ≡ best_on f d at held' (chosen (drop (i + 1) l) (left / 2))

  -- the place is named, and `wins` says whether its element v is better than the one held, where there is any
  module _ (z v : A) (e : left % 2 ≡ 1) (r : v ≡ get_or l i z) (wins : Bool) {Q : H → Type 0} (m : MatchOption held (IsTrue wins) Q)
      (q : (y : H) → Q y → wins ≡ f v (at y)) where
    abbrev more : List A
    more = chosen (drop (i + 1) l) (left / 2)

    pub best-taken : {a : H} → wins ≡ true → held' ≡ Some a → at a ≡ v → Next
    unfolding best best_from
    best-taken {a} t p b = inv ∙ rw (p, b, chosen-named l i z left h e, ← r) (go held m)
      where
        go : (k : Option H) → MatchOption k (IsTrue wins) Q → best_on f d at k (v ∷ more) ≡ best_from f v more
        go (Some y) m = ap (λ b. best_from f (cond b v (at y)) more) (sym (q y m) ∙ t)
        go None m = refl

    pub best-left : wins ≡ false → held' ≡ held → Next
    unfolding best best_from
    best-left t p = inv ∙ rw (p, chosen-named l i z left h e, ← r) (go held m)
      where
        go : (k : Option H) → MatchOption k (IsTrue wins) Q → best_on f d at k (v ∷ more) ≡ best_on f d at k more
        go (Some y) m = ap (λ b. best_from f (cond b v (at y)) more) (sym (q y m) ∙ t)
        go None m = absurd (cc)

  -- it is not named
  pub best-passed : (z : A) → (left % 2 ≡ 1 → ⊥) → held' ≡ held → Next
  best-passed z e p = inv ∙ rw (p, chosen-passed l i z left h e)

-- the set names none of what is left
pub best_end : {A H : Type 0} (f : A → A → Bool) (d : A) (at : H → A) (held : Option H) {rest : List A} → rest ≡ []
    → best_on f d at held rest ≡ unwrap_or (option_map at held) d
unfolding best best_from
best_end f d at (Some x) e = rw e
best_end f d at None e = rw e

module _ {A : Type 0} (p : A → Bool) (l : List A) (i left : ℕ) (d : A) where
  pub every-on : i < length l → left % 2 ≡ 1 → p (get_or l i d) ≡ true
      → all p (chosen (drop i l) left) ≡ all p (chosen (drop (i + 1) l) (left / 2))
  unfolding all
  every-on h e t = rw (chosen-named l i d left h e, t)

  pub every-stop : i < length l → left % 2 ≡ 1 → p (get_or l i d) ≡ false → all p (chosen (drop i l) left) ≡ false
  unfolding all
  every-stop h e t = rw (chosen-named l i d left h e, t)

  pub every-passed : i < length l → (left % 2 ≡ 1 → ⊥)
      → all p (chosen (drop i l) left) ≡ all p (chosen (drop (i + 1) l) (left / 2))
  every-passed h e = ap (all p) (chosen-passed l i d left h e)

  pub every-past : length l ≤ i → all p (chosen (drop i l) left) ≡ true
  unfolding all
  every-past h = ap (all p) (chosen_past l i left h)
