-- Fields appended one after another: one, a list of them, and the loops that put them.
-- Assumes nothing.
use Prim.Native.Nat.{ℕ, ◌+◌, ◌-◌, ◌*◌, ◌≤◌, ◌<◌}
use native.Mathlib.Numerals.{add-one}
use native.Mathlib.Omega.{arith}
use mathlib.Core.Path.{◌≡◌, refl, sym, ap, ap₂, subst, ◌∙◌}
use mathlib.Core.List.{List, [], ◌∷◌, ◌++◌, append_assoc, append-nil, flat_map}
use lib.ListN.{length, take, get_or, replicate}
use lib.Seq.{take-suc, take_all}
use Rattle.fields.specs.Bits.{field_bits, bits_of, Below}
use Rattle.fields.specs.Field.{append_of}
use Rattle.fields.proofs.Answers.{has_yes, length-append_of, append_of-below}
use Rattle.fields.proofs.Filling.{filled-append}
use Rattle.image.specs.Layout.{Piece, bits_in, widths}
use Rattle.image.specs.Writer.{Holds, Appended}
use Rattle.image.proofs.Matching.{bits_in-append}
use Rattle.image.proofs.Lengths.{length-bits_in, widths-append}

-- the bytes hold the fields l too, where behind the others stand their bits
pub holds_more : (done l : List Piece) (bits after : List ℕ) (n : ℕ) → bits ≡ bits_in l → bits_of after ≡ (bits_in done ++ bits) ++ replicate n 0
    → n ≡ 8 * length after - (widths done + widths l)
    → Below 256 after
    → Holds after (done ++ l)
holds_more done l bits after n b e k h = (
  e
      ∙ ap₂ (λ (m : List ℕ) (i : ℕ). m ++ replicate i 0) (ap (λ (m : List ℕ). bits_in done ++ m) b ∙ sym (bits_in-append done l))
      (k ∙ ap (λ (i : ℕ). 8 * length after - i) (sym (widths-append done l))),
  h,
)

pub appended_field : (bytes out : List ℕ) (at w v : ℕ) → w ≤ 56 → at + 64 ≤ 8 * length bytes → out ≡ append_of bytes at w v
    → Appended bytes at ((w, v) ∷ []) out
unfolding bits_in widths
appended_field bytes out at w v narrow room f =
    let same : length out ≡ length bytes = ap length f ∙ length-append_of bytes at w v in
    record {
      same_length = same;
      holds = λ done e h.
          holds_more done ((w, v) ∷ []) (field_bits w v) out (8 * length bytes - widths done - w) (sym (append-nil (field_bits w v)))
          (ap bits_of f ∙ filled-append bytes (bits_in done) (8 * length bytes - widths done) at w v h.0 (sym (length-bits_in done ∙ e)) (has_yes (length bytes) at w narrow (omega arith)))
          (omega arith)
          (rw f (append_of-below bytes at w v h.1));
    }

appended_none : (bytes : List ℕ) (at : ℕ) → Appended bytes at [] bytes
appended_none bytes at = record {
  same_length = refl;
  holds = λ done e h. subst (λ (l : List Piece). Holds bytes l) (sym (append-nil done)) h;
}

pub appended_both : (a b : List Piece) (x y z : List ℕ) (at n : ℕ) → Appended x at a y → n ≡ at + widths a → Appended y n b z
    → Appended x at (a ++ b) z
appended_both a b x y z at n s k t = record {
  same_length = t.same_length ∙ s.same_length;
  holds = λ done e h.
      subst (λ (l : List Piece). Holds z l) (append_assoc done a b)
      (t.holds (done ++ a) (widths-append done a ∙ ap (λ (i : ℕ). i + widths a) e ∙ sym k) (s.holds done e h));
}

-- ---- a loop that puts the fields of one element of a list after another

flat_map-append : {A : Type 0} (f : A → List Piece) (a b : List A) → flat_map f (a ++ b) ≡ flat_map f a ++ flat_map f b
unfolding flat_map
flat_map-append f [] b = refl
flat_map-append f (x ∷ a) b =
    ap (λ (l : List Piece). f x ++ l) (flat_map-append f a b) ∙ sym (append_assoc (f x) (flat_map f a) (flat_map f b))

flat_map_one : {A : Type 0} (f : A → List Piece) (a : A) → flat_map f (a ∷ []) ≡ f a
unfolding flat_map
flat_map_one f a = append-nil (f a)

-- the fields of the first i elements are put, and the next goes to bit `next`
pub record PutUpTo {A : Type 0} (f : A → List Piece) (l : List A) (bytes : List ℕ) (at : ℕ) (out : List ℕ) (next i : ℕ) : Type 0 where
  pub put : Appended bytes at (flat_map f (take i l)) out
  pub place : next ≡ at + widths (flat_map f (take i l))
  pub few : i ≤ length l

module _ {A : Type 0} (f : A → List Piece) (l : List A) (bytes : List ℕ) (at : ℕ) where
  pub put-start : PutUpTo f l bytes at bytes at 0
  unfolding widths flat_map
  put-start = record { put = appended_none bytes at; place = omega arith; few = omega arith }

  pub put-more : (d : A) (out out' : List ℕ) (next next' i : ℕ) → PutUpTo f l bytes at out next i → i < length l
      → Appended out next (f (get_or l i d)) out' → next' ≡ next + widths (f (get_or l i d)) → PutUpTo f l bytes at out' next' (i + 1)
  put-more d out out' next next' i s h e n =
      let a = get_or l i d in
      let m : flat_map f (take (i + 1) l) ≡ flat_map f (take i l) ++ f a =
      ap (λ (k : ℕ). flat_map f (take k l)) (add-one i)
      ∙ ap (flat_map f) (take-suc l i d h)
      ∙ flat_map-append f (take i l) (a ∷ [])
      ∙ ap (λ (b : List Piece). flat_map f (take i l) ++ b) (flat_map_one f a)
      in
      record {
        put = rw m (appended_both (flat_map f (take i l)) (f a) bytes out out' at next s.put s.place e);
        place = rw (m, widths-append (flat_map f (take i l)) (f a)) (omega (arith, s.place));
        few = omega arith;
      }

  pub put-end : (out : List ℕ) (next i : ℕ) → PutUpTo f l bytes at out next i → length l ≤ i
      → (next ≡ at + widths (flat_map f l)) × Appended bytes at (flat_map f l) out
  put-end out next i s h =
      let e = take_all i l h in
      (s.place ∙ ap (λ (b : List A). at + widths (flat_map f b)) e, subst (λ (b : List A). Appended bytes at (flat_map f b) out) e s.put)
