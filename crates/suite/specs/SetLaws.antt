-- Laws of what a set names, for the callers of this crate too.
use Rattle.std.specs.Prelude.{◌≡◌, refl, List, [], ◌∷◌, ◌++◌, map, Bool, true, false, cond, ℕ, suc, ◌-◌, ◌/◌, ◌%◌, ◌^◌, ◌<◌, eqb, length}
use Rattle.std.proofs.Common.{sym, ap, ◌∙◌, arith, add-one, pow-suc, mod-lt, eqb-true, eq-eqb, pow_pos, shr_lt}
use Rattle.std.proofs.lemmas.Bool.{eqb-false}
use Rattle.std.proofs.Math.Arith.{lt-one}
use Rattle.std.proofs.Math.Pow.{split}
use Rattle.std.specs.Int.Count.{ones, ones_step}
use Rattle.member.specs.declared.Member.{Member}
use Rattle.suite.specs.Sets.{chosen, exists}
use Rattle.suite.specs.Rows.{tabled, table_of, no_row}

-- a set that names only members that exist is a number of as many digits as there are members
pub exists_lt : (votes : List ℕ) (set : ℕ) → exists votes set ≡ true → set < 2 ^ length votes
exists_lt votes set e =
    let q : set / 2 ^ length votes ≡ 0 = eqb-true (set / 2 ^ length votes) 0 e in
    let k : set % 2 ^ length votes < 2 ^ length votes = mod-lt set (pow_pos (length votes)) in
    omega (arith, rw q at (split set (length votes)))

pub half : (n set : ℕ) → set < 2 ^ suc n → set / 2 < 2 ^ n
half n set h = shr_lt n 1 (rw add-one h)

-- a set names as many members as it has digits set
pub length-chosen : {A : Type 0} (l : List A) (set : ℕ) → set < 2 ^ length l → length (chosen l set) ≡ ones set
unfolding chosen ones
length-chosen [] set h = sym (ap ones (lt-one h))
length-chosen (a ∷ l) set h = go (eqb (set % 2) 1) refl (length-chosen l (set / 2) (half (length l) set h))
  where
    go : (b : Bool) → eqb (set % 2) 1 ≡ b → length (chosen l (set / 2)) ≡ ones (set / 2)
        → length (cond b (a ∷ chosen l (set / 2)) (chosen l (set / 2))) ≡ ones set
    go true e k = omega (arith, eqb-true (set % 2) 1 e, ones_step set)
    go false e k =
        let n : set % 2 ≡ 1 → ⊥ = eqb-false (set % 2) 1 e in
        omega (arith, ones_step set)

-- no member is named by 0
pub chosen_none : {A : Type 0} (l : List A) → chosen l 0 ≡ []
unfolding chosen
chosen_none [] = refl
chosen_none (a ∷ l) = chosen_none l

pub chosen-map : {A B : Type 0} (f : A → B) (l : List A) (set : ℕ) → chosen (map f l) set ≡ map f (chosen l set)
unfolding chosen
chosen-map f [] set = refl
chosen-map f (a ∷ l) set = go (eqb (set % 2) 1) (chosen-map f l (set / 2))
  where
    go : (b : Bool) → chosen (map f l) (set / 2) ≡ map f (chosen l (set / 2))
        → cond b (f a ∷ chosen (map f l) (set / 2)) (chosen (map f l) (set / 2))
        ≡ map f (cond b (a ∷ chosen l (set / 2)) (chosen l (set / 2)))
    go true e = ap (λ t. f a ∷ t) e
    go false e = e

-- the set of all members
pub chosen-everyone : {A : Type 0} (l : List A) → chosen l (2 ^ length l - 1) ≡ l
unfolding chosen
chosen-everyone [] = refl
chosen-everyone (a ∷ l) =
    let p : 0 < 2 ^ length l = pow_pos (length l) in
    let e : (2 ^ suc (length l) - 1) % 2 ≡ 1 = omega (arith, pow-suc 2 (length l)) in
    let h : (2 ^ suc (length l) - 1) / 2 ≡ 2 ^ length l - 1 = omega (arith, pow-suc 2 (length l)) in
    rw (eq-eqb ((2 ^ suc (length l) - 1) % 2) 1 e, h, chosen-everyone l)

-- the table's rows of the members that were asked are their answers
tabled-chosen : (f : Member → List ℕ) (l : List Member) (t : List (List ℕ)) (set : ℕ) → set < 2 ^ length l
    → chosen (tabled f l set ++ t) set ≡ map f (chosen l set)
unfolding chosen tabled
tabled-chosen f [] t set h = ap (chosen t) (lt-one h) ∙ chosen_none t
tabled-chosen f (m ∷ l) t set h = go (eqb (set % 2) 1) (tabled-chosen f l t (set / 2) (half (length l) set h))
  where
    go : (b : Bool) → chosen (tabled f l (set / 2) ++ t) (set / 2) ≡ map f (chosen l (set / 2))
        → cond b (cond b (f m) no_row ∷ chosen (tabled f l (set / 2) ++ t) (set / 2)) (chosen (tabled f l (set / 2) ++ t) (set / 2))
        ≡ map f (cond b (m ∷ chosen l (set / 2)) (chosen l (set / 2)))
    go true e = ap (λ r. f m ∷ r) e
    go false e = e

pub chosen_table : (f : Member → List ℕ) (l : List Member) (set : ℕ) → set < 2 ^ length l
    → chosen (table_of f l set) set ≡ map f (chosen l set)
chosen_table f l set h = tabled-chosen f l _ set h

-- P holds of each of a list
abbrev pub Each : {A : Type 0} → (A → Type 0) → List A → Type 0
Each P [] = Unit
Each P (a ∷ l) = P a × Each P l

pub each_map : {A B : Type 0} (P : B → Type 0) (f : A → B) (l : List A) → ((a : A) → P (f a)) → Each P (map f l)
each_map P f [] h = tt
each_map P f (a ∷ l) h = (h a, each_map P f l h)

pub each_chosen : {A : Type 0} (P : A → Type 0) (l : List A) (set : ℕ) → Each P l → Each P (chosen l set)
unfolding chosen
each_chosen P [] set h = tt
each_chosen P (a ∷ l) set h = go (eqb (set % 2) 1) (each_chosen P l (set / 2) h.1)
  where
    go : (b : Bool) → Each P (chosen l (set / 2)) → Each P (cond b (a ∷ chosen l (set / 2)) (chosen l (set / 2)))
    go true k = (h.0, k)
    go false k = k
