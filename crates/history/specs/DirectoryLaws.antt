-- What the plain directory says after each change.
use Rattle.std.specs.Prelude.{◌≡◌, refl, ◌⊎◌, [], ◌∷◌, Bool, true, false, cond, ◌||◌, ℕ, eqb}
use Rattle.std.proofs.Common.{sym, ap, ◌∙◌, inl, inr, eqb-true, eq-eqb, ne_eqb}
use Rattle.std.proofs.lemmas.Bool.{false≢true, eqb-false}
use Rattle.history.specs.Directory.{Directory, present, value_of, insert, update, remove}

pub same_or : (a b : ℕ) → (a ≡ b) ⊎ (a ≡ b → ⊥)
same_or a b = go (eqb a b) refl
  where
    go : (t : Bool) → eqb a b ≡ t → (a ≡ b) ⊎ (a ≡ b → ⊥)
    go true e = inl (eqb-true a b e)
    go false e = inr (eqb-false a b e)

-- two directories say the same of a name
pub record Same (d e : Directory) (n : ℕ) : Type 0 where
  pub presence : present e n ≡ present d n
  pub value : value_of e n ≡ value_of d n

-- a name is there with this value
pub record There (d : Directory) (n v : ℕ) : Type 0 where
  pub presence : present d n ≡ true
  pub value : value_of d n ≡ v

pub insert_here : (d : Directory) (x v : ℕ) → There (insert d x v) x v
unfolding present value_of
insert_here d x v = record { presence = rw (eq-eqb x x refl); value = rw (eq-eqb x x refl) }

pub insert_other : (d : Directory) (x v n : ℕ) → (n ≡ x → ⊥) → Same d (insert d x v) n
unfolding present value_of
insert_other d x v n a = let h = ne_eqb x n (λ e. a (sym e)) in record { presence = rw h; value = rw h }

pub update_presence : (d : Directory) (x v n : ℕ) → present (update d x v) n ≡ present d n
unfolding present update
update_presence [] x v n = refl
update_presence (i ∷ d) x v n = rw (update_presence d x v n)

update_value : (d : Directory) (x v : ℕ) → present d x ≡ true → value_of (update d x v) x ≡ v
unfolding present value_of update
update_value [] x v h = absurd (false≢true h)
update_value (i ∷ d) x v h = go (eqb i.name x) h (update_value d x v)
  where
    go : (t : Bool) → (t || present d x) ≡ true → (present d x ≡ true → value_of (update d x v) x ≡ v) →
        cond t (cond t v i.value) (value_of (update d x v) x) ≡ v
    go true k r = refl
    go false k r = r k

pub update_here : (d : Directory) (x v : ℕ) → present d x ≡ true → There (update d x v) x v
update_here d x v h = record { presence = update_presence d x v x ∙ h; value = update_value d x v h }

update_values : (d : Directory) (x v n : ℕ) → (n ≡ x → ⊥) → value_of (update d x v) n ≡ value_of d n
unfolding value_of update
update_values [] x v n a = refl
update_values (i ∷ d) x v n a = go (eqb i.name n) refl (update_values d x v n a)
  where
    go : (t : Bool) → eqb i.name n ≡ t → value_of (update d x v) n ≡ value_of d n →
        cond t (cond (eqb i.name x) v i.value) (value_of (update d x v) n) ≡ cond t i.value (value_of d n)
    go true e r = let at : i.name ≡ n = eqb-true i.name n e in rw (ne_eqb i.name x (λ q. a (sym at ∙ q)))
    go false e r = r

pub update_other : (d : Directory) (x v n : ℕ) → (n ≡ x → ⊥) → Same d (update d x v) n
update_other d x v n a = record { presence = update_presence d x v n; value = update_values d x v n a }

pub remove_here : (d : Directory) (x : ℕ) → present (remove d x) x ≡ false
unfolding present remove
remove_here [] x = refl
remove_here (i ∷ d) x = go (eqb i.name x) refl (remove_here d x)
  where
    go : (t : Bool) → eqb i.name x ≡ t → present (remove d x) x ≡ false → present (cond t (remove d x) (i ∷ remove d x)) x ≡ false
    go true e r = r
    go false e r = rw (e, r)

pub no_value : (d : Directory) (x : ℕ) → present d x ≡ false → value_of d x ≡ 0
unfolding present value_of
no_value [] x h = refl
no_value (i ∷ d) x h = go (eqb i.name x) h (no_value d x)
  where
    go : (t : Bool) → (t || present d x) ≡ false → (present d x ≡ false → value_of d x ≡ 0) → cond t i.value (value_of d x) ≡ 0
    go true k r = absurd (false≢true (sym k))
    go false k r = r k

pub remove_other : (d : Directory) (x n : ℕ) → (n ≡ x → ⊥) → Same d (remove d x) n
unfolding present value_of remove
remove_other [] x n a = record { presence = refl; value = refl }
remove_other (i ∷ d) x n a = go (eqb i.name x) refl (remove_other d x n a)
  where
    go : (t : Bool) → eqb i.name x ≡ t → Same d (remove d x) n → Same (i ∷ d) (cond t (remove d x) (i ∷ remove d x)) n
    go true e r =
        let at : i.name ≡ x = eqb-true i.name x e in
        let off : eqb i.name n ≡ false = ne_eqb i.name n (λ q. a (sym q ∙ at)) in
        record { presence = r.presence ∙ rw off; value = r.value ∙ rw off }
    go false e r = record { presence = ap (λ t. eqb i.name n || t) r.presence; value = ap (λ t. cond (eqb i.name n) i.value t) r.value }
