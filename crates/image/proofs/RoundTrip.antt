-- Writing and reading undo one another. The image of a sound suite is read as that suite; an image that is read is the image
-- of the suite read, and that suite is sound.
-- Assumes nothing.
use Prim.Native.Nat.{ℕ}
use native.Mathlib.Omega.{arith}
use mathlib.Core.Bool.{Bool, true, false, cond}
use mathlib.Core.Path.{◌≡◌, refl, sym, ap, ◌∙◌}
use mathlib.Core.List.{List, [], ◌∷◌, ◌++◌}
use lib.ListN.{length, drop, replicate}
use Rattle.fields.specs.Bits.{field_bits, bits_of, padding, packed, Below}
use Rattle.fields.proofs.Below.{below_append}
use Rattle.fields.proofs.Width.{field_bits_below}
use Rattle.fields.proofs.Packing.{padding_lt}
use Rattle.fields.proofs.Filling.{filled_by, filled_whole}
use Rattle.suite.specs.Suite.{sound_suite}
use Rattle.suite.specs.Outcome.{answered, refused}
use Rattle.suite.specs.Calls.{Result}
use Rattle.suite.specs.declared.Suite.{Suite}
use Rattle.image.specs.Layout.{Piece, bits_in, name_width, suite_pieces, image_of}
use Rattle.image.specs.Reader.{Taken, took, fault, read_suite, only_padding, loaded, not_loaded, ended, read_image}
use Rattle.image.specs.Sized.{Sized}
use Rattle.image.proofs.Padding.{Zeros, padding_passes, padding_is}
use Rattle.image.proofs.Shapes.{suite-matches}
use Rattle.image.proofs.Members.{names}
use Rattle.image.proofs.Suites.{suite-fits, suite-sound}

pub bits_in_below : (l : List Piece) → Below 2 (bits_in l)
unfolding bits_in
bits_in_below [] = tt
bits_in_below (p ∷ l) = below_append 2 (field_bits p.0 p.1) (bits_in l) (field_bits_below p.0 p.1) (bits_in_below l)

-- ---- there

-- The image of a sound suite is read as that suite.
pub read_written : (s : Suite) → sound_suite s ≡ true → Sized s → read_image (image_of s) ≡ loaded s
unfolding read_image ended image_of
read_written s h z =
    let bits = bits_in (suite_pieces name_width s) in
    let k = padding (length bits) in
    let r =
    (suite-matches (packed bits) name_width (omega arith)).back s 0 (replicate k 0) (suite-fits name_width names s h z)
    record { within = omega arith; rest = filled_by bits (bits_in_below (suite_pieces name_width s)) }
    in
    rw (r.is, r.from.rest, padding_passes k (padding_lt (length bits)))

-- ---- and back

-- what was taken where an image is read
record Read (image : List ℕ) (s : Suite) : Type 0 where
  place : ℕ
  taken : read_suite image name_width 0 ≡ took s place
  rest : Zeros (drop place (bits_of image))

read_is : (image : List ℕ) (s : Suite) → read_image image ≡ loaded s → Read image s
unfolding read_image ended
read_is image s e = go (read_suite image name_width 0) refl e
  where
    judge : (b : Bool) (t : Suite) → cond b (loaded t) (not_loaded 18) ≡ loaded s → (b ≡ true) × (t ≡ s)
    judge true t f = (refl, ap (λ (r : Result). r.suite) f)
    judge false t f =
        let g : refused 18 ≡ answered [] = ap (λ (r : Result). r.outcome) f in
        let z : ◌≡◌ {A = ℕ} 0 1 = cc in
        absurd (omega arith)

    go : (t : Taken Suite) → read_suite image name_width 0 ≡ t → ended image t ≡ loaded s → Read image s
    go (took t n) f g =
        let j = judge (only_padding (drop n (bits_of image))) t g in
        record {
          place = n;
          taken = f ∙ ap (λ (a : Suite). took a n) j.1;
          rest = padding_is (drop n (bits_of image)) j.0;
        }
    go (fault n) f g =
        let g : refused n ≡ answered [] = ap (λ (r : Result). r.outcome) g in
        let z : ◌≡◌ {A = ℕ} 0 1 = cc in
        absurd (omega arith)

-- A suite that was read is sound.
pub read_sound : (image : List ℕ) (s : Suite) → read_image image ≡ loaded s → (sound_suite s ≡ true) × Sized s
read_sound image s e =
    let r = read_is image s e in
    suite-sound name_width names s ((suite-matches image name_width (omega arith)).only s 0 r.place r.taken).0

-- An image that is read is the image of the suite read.
pub written_read : (image : List ℕ) (s : Suite) → Below 256 image → read_image image ≡ loaded s → image ≡ image_of s
unfolding image_of
written_read image s h e =
    let r = read_is image s e in
    let b = ((suite-matches image name_width (omega arith)).only s 0 r.place r.taken).1 (omega arith) in
    let bits = bits_in (suite_pieces name_width s) in
    filled_whole image bits (length (drop r.place (bits_of image))) h
    (b.rest ∙ ap (λ (l : List ℕ). bits ++ l) r.rest.zero)
    r.rest.few

-- ---- one image for a suite, one suite for an image

pub one_image : (a b : List ℕ) (s : Suite) → Below 256 a → Below 256 b → read_image a ≡ loaded s → read_image b ≡ loaded s → a ≡ b
one_image a b s h k e f = written_read a s h e ∙ sym (written_read b s k f)

pub one_suite : (s t : Suite) → sound_suite s ≡ true → sound_suite t ≡ true → Sized s → Sized t → image_of s ≡ image_of t → s ≡ t
one_suite s t h k y z e =
    ap (λ (r : Result). r.suite) (sym (read_written s h y) ∙ ap read_image e ∙ read_written t k z)
