-- What is left past the last field: fewer bits than a byte, all of them 0.
-- Assumes nothing.
use Prim.Native.Nat.{ℕ, ◌-◌, ◌*◌, ◌≤◌, ◌<◌}
use native.Mathlib.Omega.{arith}
use mathlib.Core.Bool.{Bool, true, false, and-eq-true_iff}
use mathlib.Core.Path.{◌≡◌, refl, sym, ap, ◌∙◌}
use mathlib.Core.List.{List}
use lib.ListN.{length, take, drop, replicate, length-replicate, length-drop}
use lib.Seq.{take_all}
use lib.Dec.{ltb, eqb}
use borrow.Author.Tests.{ltb-true, lt-ltb, le-ltb, eqb-true, eqb-false, eq-eqb}
use Rattle.fields.specs.Bits.{num_of, bits_of, field_at, Below}
use Rattle.fields.specs.Field.{read_of}
use Rattle.std.specs.Prelude.{Some}
use Rattle.std.specs.Int.{div_ceil}
use Rattle.std.specs.Option.{option_eq}
use Rattle.fields.proofs.Below.{below_drop}
use Rattle.fields.proofs.Width.{num_of-zero, zeros_of}
use Rattle.fields.proofs.Bytes.{length-bits_of, bits_of_below}
use Rattle.fields.proofs.Answers.{fits_yes, read_is}
use Rattle.suite.specs.Sets.{all}
use Rattle.image.specs.Reader.{unset, only_padding}
use Rattle.image.proofs.All.{all_replicate, all_same}

pub padding_passes : (n : ℕ) → n < 8 → only_padding (replicate n 0) ≡ true
unfolding only_padding
padding_passes n h =
    rw (length-replicate {A = ℕ} n 0, lt-ltb n 8 h) (all_replicate unset n 0 (eq-eqb 0 0 refl))

pub record Zeros (l : List ℕ) : Type 0 where
  pub few : length l < 8
  pub zero : l ≡ replicate (length l) 0

pub padding_is : (l : List ℕ) → only_padding l ≡ true → Zeros l
unfolding only_padding
padding_is l h =
    let p = (and-eq-true_iff (ltb (length l) 8) (all unset l)).0 h in
    record { few = ltb-true (length l) 8 p.0; zero = all_same unset 0 (λ v e. eqb-true v 0 e) l p.1 }

-- ---- as the code tests it

-- bits are all 0 where they write 0
zeros_test : (l : List ℕ) → Below 2 l → all unset l ≡ eqb (num_of l) 0
zeros_test l h = go (all unset l) refl (eqb (num_of l) 0) refl
  where
    go : (a : Bool) → all unset l ≡ a → (b : Bool) → eqb (num_of l) 0 ≡ b → a ≡ b
    go true p true q = refl
    go false p false q = refl
    go true p false q =
        absurd (eqb-false (num_of l) 0 q (ap num_of (all_same unset 0 (λ v e. eqb-true v 0 e) l p) ∙ num_of-zero (length l)))
    go false p true q =
        let e : l ≡ replicate (length l) 0 = zeros_of l h (eqb-true (num_of l) 0 q) in
        sym p ∙ ap (all unset) e ∙ all_replicate unset (length l) 0 (eq-eqb 0 0 refl)

module _ (image : List ℕ) (at : ℕ) (h : at ≤ 8 * length image) where
  left-length : length (drop at (bits_of image)) ≡ 8 * length image - at
  left-length = rw (length-drop at (bits_of image), length-bits_of image) refl

  module _ (last : ℕ) (whole : last ≡ div_ceil at 8) where
    -- bytes follow
    pub padding-long : (length image ≡ last → ⊥) → false ≡ only_padding (drop at (bits_of image))
    unfolding only_padding
    padding-long k = let n : 8 ≤ length (drop at (bits_of image)) = rw left-length (omega arith) in rw (le-ltb (length (drop at (bits_of image))) 8 n)

    -- the last bits are there, and are looked at as one number
    pub padding-test : length image ≡ last
        → option_eq eqb (read_of image at (8 * last - at)) (Some 0) ≡ only_padding (drop at (bits_of image))
    unfolding only_padding field_at
    padding-test e =
        let l = drop at (bits_of image) in
        let w = 8 * last - at in
        let is : read_of image at w ≡ Some (field_at (bits_of image) at w) =
        read_is image at w (fits_yes (length image) at w (omega arith) (omega arith))
        in
        let n : length l ≤ w = rw left-length (omega arith) in
        let m : length l < 8 = rw left-length (omega arith) in
        let f : num_of (take w l) ≡ num_of l = ap num_of (take_all w l n) in
        rw (is, lt-ltb (length l) 8 m, zeros_test l (below_drop 2 at (bits_of image) (bits_of_below image)), f)
