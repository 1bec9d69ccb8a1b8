-- A reader and the fields that are written: each reader takes exactly what is written, and what it takes is what was written.
-- Assumes nothing.
use Prim.Native.Nat.{ℕ, ◌+◌, ◌*◌, ◌^◌, ◌≤◌, ◌<◌}
use native.Mathlib.Nat.{add-zero}
use native.Mathlib.Omega.{arith}
use mathlib.Core.Bool.{Bool, true, false}
use mathlib.Core.Path.{◌≡◌, refl, sym, ap, ap₂, subst, ◌∙◌}
use mathlib.Core.List.{List, [], ◌∷◌, ◌++◌, append_assoc}
use lib.ListN.{length, drop, length-drop}
use lib.Seq.{drop-drop}
use Rattle.fields.specs.Bits.{field_bits, bits_of, field_at}
use Rattle.fields.specs.Field.{fits_in, read_of, front_of}
use Rattle.std.specs.Prelude.{Some, None}
use Rattle.fields.proofs.Bytes.{length-bits_of, bits_of_below}
use Rattle.fields.proofs.Below.{below_drop}
use Rattle.fields.proofs.Places.{field_at_lt, field_at-drop, split_field, drop_front, front_length}
use Rattle.fields.proofs.Answers.{fits_within, read_is, read_short}
use Rattle.fields.proofs.Front.{front_field, read_from}
use Rattle.image.specs.Layout.{Piece, bits_in}
use Rattle.image.specs.Reader.{Taken, took, fault, field}

pub bits_in-append : (a b : List Piece) → bits_in (a ++ b) ≡ bits_in a ++ bits_in b
unfolding bits_in
bits_in-append [] b = refl
bits_in-append (p ∷ a) b =
    ap (λ (l : List ℕ). field_bits p.0 p.1 ++ l) (bits_in-append a b)
    ∙ sym (append_assoc (field_bits p.0 p.1) (bits_in a) (bits_in b))

-- from this bit on the image holds these bits
pub record At (image : List ℕ) (at : ℕ) (l : List ℕ) : Type 0 where
  pub within : at ≤ 8 * length image
  pub rest : drop at (bits_of image) ≡ l

-- from bit `at` up to bit n the image holds these fields
pub record Between (image : List ℕ) (at n : ℕ) (l : List Piece) : Type 0 where
  pub within : n ≤ 8 * length image
  pub rest : drop at (bits_of image) ≡ bits_in l ++ drop n (bits_of image)

pub between-append : (image : List ℕ) (at m n : ℕ) (a b : List Piece) → Between image at m a → Between image m n b
    → Between image at n (a ++ b)
between-append image at m n a b s t = record {
  within = t.within;
  rest =
      s.rest
      ∙ ap (λ (l : List ℕ). bits_in a ++ l) t.rest
      ∙ sym (append_assoc (bits_in a) (bits_in b) (drop n (bits_of image)))
      ∙ ap (λ (l : List ℕ). l ++ drop n (bits_of image)) (sym (bits_in-append a b));
}

pub at_append : (image : List ℕ) (at : ℕ) (a b : List Piece) (l : List ℕ) → At image at (bits_in (a ++ b) ++ l)
    → At image at (bits_in a ++ (bits_in b ++ l))
at_append image at a b l s = record {
  within = s.within;
  rest =
      s.rest
      ∙ ap (λ (k : List ℕ). k ++ l) (bits_in-append a b)
      ∙ append_assoc (bits_in a) (bits_in b) l;
}

-- a reader that took a, and from where it left off the image holds the bits l
pub record Reached (image : List ℕ) {A : Type 0} (t : Taken A) (a : A) (l : List ℕ) : Type 0 where
  pub place : ℕ
  pub is : t ≡ took a place
  pub from : At image place l

-- a reader and the fields that are written of what it reads; Ok says what can be written
pub record Matches (image : List ℕ) {A : Type 0} (read : ℕ → Taken A) (pieces : A → List Piece) (Ok : A → Type 0) : Type 0 where
  pub back : (a : A) (at : ℕ) (l : List ℕ) → Ok a → At image at (bits_in (pieces a) ++ l) → Reached image (read at) a l
  pub only : (a : A) (at n : ℕ) → read at ≡ took a n → Ok a × (at ≤ 8 * length image → Between image at n (pieces a))

-- Ok may be said in other words
pub matches_as : {image : List ℕ} {A : Type 0} {read : ℕ → Taken A} {pieces : A → List Piece} {Ok Fit : A → Type 0}
    → Matches image read pieces Ok → ((a : A) → Fit a → Ok a) → ((a : A) → Ok a → Fit a) → Matches image read pieces Fit
matches_as m to from = record {
  back = λ a at l h k. m.back a at l (to a h) k;
  only = λ a at n e. let t = m.only a at n e in (from a t.0, t.1);
}

-- ---- a field

pub field_is : (image : List ℕ) (w at v : ℕ) → read_of image at w ≡ Some v → field image w at ≡ took v (at + w)
unfolding field
field_is image w at v e = rw e

pub field_short : (image : List ℕ) (w at : ℕ) → read_of image at w ≡ None → field image w at ≡ fault 15
unfolding field
field_short image w at e = rw e

module _ (image : List ℕ) (w : ℕ) (narrow : w ≤ 24) where
  field_back : (v at : ℕ) (l : List ℕ) → v < 2 ^ w → At image at (bits_in ((w, v) ∷ []) ++ l)
      → Reached image (field image w at) v l
  unfolding bits_in
  field_back v at l h k =
      let b : drop at (bits_of image) ≡ field_bits w v ++ l = k.rest ∙ append_assoc (field_bits w v) [] l in
      let e : read_of image at w ≡ Some v = read_from image at w (omega arith) k.within ∙ ap (front_of w) b ∙ front_field w v l h in
      let n : length (drop at (bits_of image)) ≡ w + length l = ap length b ∙ front_length w v l in
      let s : at + length (drop at (bits_of image)) ≡ 8 * length image = simp (length-drop, length-bits_of) (omega (arith, k.within)) in
      record {
        place = at + w;
        is = field_is image w at v e;
        from = record {
          within = omega arith;
          rest = sym (drop-drop w at (bits_of image)) ∙ ap (drop w) b ∙ drop_front w v l;
        };
      }

  field-only : (v at n : ℕ) → field image w at ≡ took v n
      → (v < 2 ^ w) × (at ≤ 8 * length image → Between image at n ((w, v) ∷ []))
  unfolding bits_in
  field-only v at n e = go (fits_in (length image) at w) refl
    where
      go : (b : Bool) → fits_in (length image) at w ≡ b
          → (v < 2 ^ w) × (at ≤ 8 * length image → Between image at n ((w, v) ∷ []))
      go true f =
          let x = field_at (bits_of image) at w in
          let q : took x (at + w) ≡ took v n = sym (field_is image w at x (read_is image at w f)) ∙ e in
          let ev : x ≡ v = cc in
          let en : at + w ≡ n = cc in
          let k : at + w ≤ 8 * length image = fits_within (length image) at w f in
          let m : w ≤ length (drop at (bits_of image)) = simp (length-drop, length-bits_of) (omega arith) in
          let front : field_at (bits_of image) at w ≡ field_at (drop at (bits_of image)) 0 w = ap (λ (i : ℕ). field_at (bits_of image) i w) (sym (add-zero at)) ∙ field_at-drop (bits_of image) at 0 w in (
            subst (λ (y : ℕ). y < 2 ^ w) ev (field_at_lt (bits_of image) at w (bits_of_below image)),
            λ h. record {
              within = omega arith;
              rest =
                  sym (split_field w (drop at (bits_of image)) (below_drop 2 at (bits_of image) (bits_of_below image)) m)
                  ∙ ap₂ (λ (y : ℕ) (l : List ℕ). field_bits w y ++ l) (sym front ∙ ev)
                  (drop-drop w at (bits_of image) ∙ ap (λ (i : ℕ). drop i (bits_of image)) en)
                  ∙ sym (append_assoc (field_bits w v) [] (drop n (bits_of image)));
            },
          )
      go false f =
          let q : fault 15 ≡ took v n = sym (field_short image w at (read_short image at w f)) ∙ e in
          let z : ◌≡◌ {A = ℕ} 0 1 = cc in
          absurd (omega arith)

  pub field-matches : Matches image (field image w) (λ v. (w, v) ∷ []) (λ v. v < 2 ^ w)
  field-matches = record { back = field_back; only = field-only }
