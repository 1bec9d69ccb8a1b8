-- How the searches along the rows go: the laws that hold for a name and for an end alike.
use Rattle.std.specs.Prelude.{◌≡◌, refl, List, [], ◌∷◌, ◌++◌, Bool, true, false, cond, ℕ, suc, ◌+◌, ◌-◌, ◌≤◌, ◌<◌, length, take, drop, ltb, leb, eqb}
use Rattle.std.proofs.Common.{sym, ap, ◌∙◌, arith, suc-add, zero-add, length-append, take-append-drop, length-take-le, ltb-true, leb-true, leb-false, eqb-true, lt-ltb}
use Rattle.std.proofs.lemmas.Bool.{false≢true, eqb-false}
use Rattle.member.specs.Limits.{high}
use Rattle.member.specs.Search.{seat_in, next_in, below_end, past_end}
use Rattle.member.specs.declared.Row.{Row}

-- A search counts the rows from the first on that stand below something, and with `past` one more that stands at it.
pub record Cut (below past : List Row → ℕ) (under here : Row → Bool) : Type 0 where
  pub below-nil : below [] ≡ 0
  pub below-cons : (r : Row) (l : List Row) → below (r ∷ l) ≡ cond (under r) (suc (below l)) 0
  pub past-nil : past [] ≡ 0
  pub past-cons : (r : Row) (l : List Row) → past (r ∷ l) ≡ cond (under r) (suc (past l)) (cond (here r) 1 0)

module _ {f g : List Row → ℕ} {u t : Row → Bool} (c : Cut f g u t) where
  pub below-le-past : (l : List Row) → f l ≤ g l
  below-le-past [] = omega (arith, c.below-nil, c.past-nil)
  below-le-past (r ∷ l) = rw (c.below-cons r l, c.past-cons r l) (go (u r) (below-le-past l))
    where
      go : (b : Bool) → f l ≤ g l → cond b (suc (f l)) 0 ≤ cond b (suc (g l)) (cond (t r) 1 0)
      go true h = omega arith
      go false h = omega arith

  pub past-le-below : (l : List Row) → g l ≤ f l + 1
  past-le-below [] = omega (arith, c.below-nil, c.past-nil)
  past-le-below (r ∷ l) = rw (c.below-cons r l, c.past-cons r l) (go (u r) (t r) (past-le-below l))
    where
      go : (b d : Bool) → g l ≤ f l + 1 → cond b (suc (g l)) (cond d 1 0) ≤ cond b (suc (f l)) 0 + 1
      go true d h = omega arith
      go false true h = omega arith
      go false false h = omega arith

  pub past-le-length : (l : List Row) → g l ≤ length l
  past-le-length [] = omega (arith, c.past-nil)
  past-le-length (r ∷ l) = rw (c.past-cons r l) (go (u r) (t r) (past-le-length l))
    where
      go : (b d : Bool) → g l ≤ length l → cond b (suc (g l)) (cond d 1 0) ≤ suc (length l)
      go true d h = omega arith
      go false true h = omega arith
      go false false h = omega arith

  pub below-le-length : (l : List Row) → f l ≤ length l
  below-le-length l = omega (arith, below-le-past l, past-le-length l)

  -- `f a ≡ length a` says that all rows of a stand below
  pub all_cons : (r : Row) (a : List Row) → u r ≡ true → f a ≡ length a → f (r ∷ a) ≡ suc (length a)
  all_cons r a e h = rw (c.below-cons r a, e, h)

  pub all_head : (r : Row) (a : List Row) → f (r ∷ a) ≡ suc (length a) → (u r ≡ true) × (f a ≡ length a)
  all_head r a h = go (u r) (sym (c.below-cons r a) ∙ h)
    where
      go : (b : Bool) → cond b (suc (f a)) 0 ≡ suc (length a) → (b ≡ true) × (f a ≡ length a)
      go true e = (refl, omega arith)
      go false e = absurd (omega arith)

  pub below_append : (a b : List Row) → f a ≡ length a → f (a ++ b) ≡ length a + f b
  below_append [] b h = sym (zero-add (f b))
  below_append (r ∷ a) b h = rw (c.below-cons r (a ++ b), (all_head r a h).0, below_append a b (all_head r a h).1, suc-add)

  pub all_append : (a b : List Row) → f a ≡ length a → f b ≡ length b → f (a ++ b) ≡ length (a ++ b)
  all_append a b h k = below_append a b h ∙ rw (k, length-append a b)

  pub past-append : (a b : List Row) → f a ≡ length a → g (a ++ b) ≡ length a + g b
  past-append [] b h = sym (zero-add (g b))
  past-append (r ∷ a) b h = rw (c.past-cons r (a ++ b), (all_head r a h).0, past-append a b (all_head r a h).1, suc-add)

  pub below-stop : (r : Row) (l : List Row) → u r ≡ false → f (r ∷ l) ≡ 0
  below-stop r l e = rw (c.below-cons r l, e)

  pub past-here : (r : Row) (l : List Row) → u r ≡ false → t r ≡ true → g (r ∷ l) ≡ 1
  past-here r l e h = rw (c.past-cons r l, e, h)

  pub length-below : (l : List Row) → length (take (f l) l) ≡ f l
  length-below l = length-take-le (f l) l (below-le-length l)

  pub length-past : (l : List Row) → length (take (g l) l) ≡ g l
  length-past l = length-take-le (g l) l (past-le-length l)

  -- the rows below stand below whatever is no lower
  pub all-below : {f' g' : List Row → ℕ} {u' t' : Row → Bool} (c' : Cut f' g' u' t') → ((r : Row) → u r ≡ true → u' r ≡ true)
      → (l : List Row) → f' (take (f l) l) ≡ length (take (f l) l)
  all-below {f'} c' up [] = rw c.below-nil c'.below-nil
  all-below {f'} c' up (r ∷ l) = rw (c.below-cons r l) (go (u r) refl (all-below c' up l))
    where
      go : (b : Bool) → u r ≡ b → f' (take (f l) l) ≡ length (take (f l) l) → f' (take (cond b (suc (f l)) 0) (r ∷ l)) ≡ length (take (cond b (suc (f l)) 0) (r ∷ l))
      go true e h = rw (c'.below-cons r (take (f l) l), up r e, h)
      go false e h = c'.below-nil

-- What stands below the one, or at it, stands below the other.
pub record Before (under here under' : Row → Bool) : Type 0 where
  pub lower : (r : Row) → under r ≡ true → under' r ≡ true
  pub same : (r : Row) → here r ≡ true → under' r ≡ true

module _ {f g : List Row → ℕ} {u t : Row → Bool} (c : Cut f g u t) {f' g' : List Row → ℕ} {u' t' : Row → Bool} (c' : Cut f' g' u' t') (up : Before u t u') where
  pub all_past : (l : List Row) → f' (take (g l) l) ≡ length (take (g l) l)
  all_past [] = rw c.past-nil c'.below-nil
  all_past (r ∷ l) = rw (c.past-cons r l) (go (u r) (t r) refl refl (all_past l))
    where
      go : (b d : Bool) → u r ≡ b → t r ≡ d → f' (take (g l) l) ≡ length (take (g l) l)
          → f' (take (cond b (suc (g l)) (cond d 1 0)) (r ∷ l)) ≡ length (take (cond b (suc (g l)) (cond d 1 0)) (r ∷ l))
      go true d e h k = rw (c'.below-cons r (take (g l) l), up.lower r e, k)
      go false true e h k = rw (c'.below-cons r [], up.same r h, c'.below-nil)
      go false false e h k = c'.below-nil

  -- so a search for the other may begin there
  pub below_from : (l : List Row) → f' l ≡ g l + f' (drop (g l) l)
  below_from l = sym (ap f' (take-append-drop (g l) l)) ∙ below_append c' (take (g l) l) (drop (g l) l) (all_past l) ∙ rw (length-past c l)

  pub past-from : (l : List Row) → g' l ≡ g l + g' (drop (g l) l)
  past-from l = sym (ap g' (take-append-drop (g l) l)) ∙ past-append c' (take (g l) l) (drop (g l) l) (all_past l) ∙ rw (length-past c l)

  pub past-le : (l : List Row) → g l ≤ f' l
  past-le l = omega (arith, below_from l)

-- The searches for a name.
abbrev pub under_name : ℕ → Row → Bool
under_name x r = ltb r.name x

abbrev pub at_name : ℕ → Row → Bool
at_name x r = eqb r.name x

pub name_cut : (x : ℕ) → Cut (λ l. seat_in l x) (λ l. next_in l x) (under_name x) (at_name x)
unfolding seat_in next_in
name_cut x = record { below-nil = refl; below-cons = λ r l. refl; past-nil = refl; past-cons = λ r l. refl }

pub name_up : (x y : ℕ) → x ≤ y → (r : Row) → under_name x r ≡ true → under_name y r ≡ true
name_up x y h r e = lt-ltb r.name y (omega (arith, ltb-true r.name x e))

pub name_before : (x y : ℕ) → x < y → Before (under_name x) (at_name x) (under_name y)
name_before x y h =
    record { lower = name_up x y (omega arith); same = λ r e. lt-ltb r.name y (omega (arith, eqb-true r.name x e)) }

-- The searches for an end.
unfoldable pub under_end : ℕ → Row → Bool
under_end e r = cond (eqb e 0) false (cond (leb high e) true (ltb r.name (e - 1)))

unfoldable pub at_end : ℕ → Row → Bool
at_end e r = cond (eqb e 0) false (cond (leb high e) false (eqb r.name (e - 1)))

pub end_cut : (e : ℕ) → Cut (λ l. below_end l e) (λ l. past_end l e) (under_end e) (at_end e)
unfolding below_end past_end under_end at_end seat_in next_in
end_cut e =
    record {
      below-nil = nil (eqb e 0) (leb high e);
      below-cons = λ r l. below r l (eqb e 0) (leb high e);
      past-nil = nil (eqb e 0) (leb high e);
      past-cons = λ r l. past r l (eqb e 0) (leb high e);
    }
  where
    nil : (a b : Bool) → ◌≡◌ {A = ℕ} (cond a 0 (cond b 0 0)) 0
    nil true b = refl
    nil false true = refl
    nil false false = refl

    below : (r : Row) (l : List Row) (a b : Bool) → cond a 0 (cond b (suc (length l)) (cond (ltb r.name (e - 1)) (suc (seat_in l (e - 1))) 0))
        ≡ cond (cond a false (cond b true (ltb r.name (e - 1)))) (suc (cond a 0 (cond b (length l) (seat_in l (e - 1))))) 0
    below r l true b = refl
    below r l false true = refl
    below r l false false = refl

    past : (r : Row) (l : List Row) (a b : Bool)
        → cond a 0 (cond b (suc (length l)) (cond (ltb r.name (e - 1)) (suc (next_in l (e - 1))) (cond (eqb r.name (e - 1)) 1 0)))
        ≡ cond (cond a false (cond b true (ltb r.name (e - 1)))) (suc (cond a 0 (cond b (length l) (next_in l (e - 1))))) (cond (cond a false (cond b false (eqb r.name (e - 1)))) 1 0)
    past r l true b = refl
    past r l false true = refl
    past r l false false = refl

pub end_before : (p s : ℕ) → p < s → Before (under_end p) (at_end p) (under_end s)
unfolding under_end at_end
end_before p s h =
    record {
      lower = λ r. lower r.name (eqb p 0) (leb high p) (eqb s 0) (leb high s) refl refl refl refl;
      same = λ r. same r.name (eqb p 0) (leb high p) (eqb s 0) (leb high s) refl refl refl refl;
    }
  where
    lower : (n : ℕ) (a b c d : Bool) → eqb p 0 ≡ a → leb high p ≡ b → eqb s 0 ≡ c → leb high s ≡ d → cond a false (cond b true (ltb n (p - 1))) ≡ true
        → cond c false (cond d true (ltb n (s - 1))) ≡ true
    lower n true b c d ea eb ec ed k = absurd (false≢true k)
    lower n false b true d ea eb ec ed k = absurd (omega (arith, eqb-true s 0 ec))
    lower n false b false true ea eb ec ed k = refl
    lower n false true false false ea eb ec ed k = absurd (omega (arith, leb-true high p eb, leb-false high s ed))
    lower n false false false false ea eb ec ed k = lt-ltb n (s - 1) (omega (arith, ltb-true n (p - 1) k))

    same : (n : ℕ) (a b c d : Bool) → eqb p 0 ≡ a → leb high p ≡ b → eqb s 0 ≡ c → leb high s ≡ d → cond a false (cond b false (eqb n (p - 1))) ≡ true
        → cond c false (cond d true (ltb n (s - 1))) ≡ true
    same n true b c d ea eb ec ed k = absurd (false≢true k)
    same n false b true d ea eb ec ed k = absurd (omega (arith, eqb-true s 0 ec))
    same n false b false true ea eb ec ed k = refl
    same n false true false false ea eb ec ed k = absurd (false≢true k)
    same n false false false false ea eb ec ed k = lt-ltb n (s - 1) (go (eqb-false p 0 ea) (eqb-true n (p - 1) k))
      where
        go : (p ≡ 0 → ⊥) → n ≡ p - 1 → n < s - 1
        go z i = omega arith
