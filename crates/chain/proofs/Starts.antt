-- Where an image is accepted, no longer list of bytes that starts with it is: an image ends where its fields say.
use Rattle.std.specs.Prelude.{◌≡◌, refl, Bool, true, false, cond, List, [], ◌∷◌, ◌++◌, ℕ, ◌*◌, ◌≤◌, ◌<◌, length, drop, ltb, leb}
use Rattle.std.proofs.Common.{sym, ap, subst, ◌∙◌, append_assoc, append-nil, arith, length-append, ltb-true, leb-true, leb-false}
use Rattle.std.proofs.Math.Bool.{and-eq-true_iff}
use Rattle.fields.specs.Bits.{bits_of}
use Rattle.fields.proofs.Bytes.{length-bits_of, bits_of-append}
use Rattle.suite.specs.Sets.{all}
use Rattle.suite.specs.Outcome.{answered}
use Rattle.suite.specs.OutcomeLaws.{not_both}
use Rattle.suite.specs.declared.Suite.{Suite}
use Rattle.image.specs.Layout.{name_width, bits_in, suite_pieces}
use Rattle.image.specs.Reader.{Taken, took, fault, read_suite, unset, only_padding, loaded, not_loaded, ended, read_image}
use Rattle.image.proofs.Shapes.{suite-matches}

-- the suite of an accepted image and where its fields end, less than a byte before the end
record Ends (image : List ℕ) : Type 0 where
  suite : Suite
  place : ℕ
  taken : read_suite image name_width 0 ≡ took suite place
  few : length (drop place (bits_of image)) < 8

ends : (image : List ℕ) → (read_image image).outcome ≡ answered [] → Ends image
unfolding read_image ended only_padding
ends image = go (read_suite image name_width 0) refl
  where
    fewer : (l : List ℕ) (s : Suite) (b : Bool) → only_padding l ≡ b → (cond b (loaded s) (not_loaded 18)).outcome ≡ answered [] → length l < 8
    fewer l s true h e = ltb-true (length l) 8 ((and-eq-true_iff (ltb (length l) 8) (all unset l)).0 h).0
    fewer l s false h e = not_both [] 18 (sym e)

    go : (t : Taken Suite) → read_suite image name_width 0 ≡ t → (ended image t).outcome ≡ answered [] → Ends image
    go (took s n) f e =
        let l = drop n (bits_of image) in
        record { suite = s; place = n; taken = f; few = fewer l s (only_padding l) refl e }
    go (fault n) f e = not_both [] n (sym e)

same_place : (s t : Suite) (m n : ℕ) → took s m ≡ took t n → m ≡ n
same_place s t m n e = cc

no_bytes : (z : List ℕ) → 8 * length z < 8 → z ≡ []
no_bytes [] h = refl
no_bytes (b ∷ z) h = absurd (omega arith)

no_longer : (image z : List ℕ) → (read_image image).outcome ≡ answered [] → (read_image (image ++ z)).outcome ≡ answered [] → z ≡ []
no_longer image z p q =
    let e = ends image p in
    let f = ends (image ++ z) q in
    let fields = bits_in (suite_pieces name_width e.suite) in
    let m = (suite-matches image name_width (omega arith)).only e.suite 0 e.place e.taken in
    let rest = drop e.place (bits_of image) ++ bits_of z in
    let bits : bits_of (image ++ z) ≡ fields ++ rest =
    bits_of-append image z ∙ ap (λ (l : List ℕ). l ++ bits_of z) (m.1 (omega arith)).rest ∙ append_assoc fields (drop e.place (bits_of image)) (bits_of z)
    in
    let r =
    (suite-matches (image ++ z) name_width (omega arith)).back e.suite 0 rest m.0 record { within = omega arith; rest = bits }
    in
    let at : r.place ≡ f.place = same_place e.suite f.suite r.place f.place (sym r.is ∙ f.taken) in
    let few : length rest < 8 = subst (λ (l : List ℕ). length l < 8) (ap (λ (n : ℕ). drop n (bits_of (image ++ z))) (sym at) ∙ r.from.rest) f.few in
    no_bytes z (omega (arith, length-append (drop e.place (bits_of image)) (bits_of z), length-bits_of z))

-- two lists that start another are one a start of the other
longer : (a b x y : List ℕ) → length a ≤ length b → a ++ x ≡ b ++ y → (z : List ℕ) × (b ≡ a ++ z)
longer [] b x y h e = (b, refl)
longer (m ∷ a) [] x y h e = absurd (omega arith)
longer (m ∷ a) (n ∷ b) x y h e =
    let head : m ≡ n = cc in
    let tail : a ++ x ≡ b ++ y = cc in
    let r = longer a b x y (omega arith) tail in
    (r.0, λ j. sym head j ∷ r.1 j)

same_when_longer : (a b x y : List ℕ) → (read_image a).outcome ≡ answered [] → (read_image b).outcome ≡ answered [] → a ++ x ≡ b ++ y
    → length a ≤ length b
    → a ≡ b
same_when_longer a b x y p q e h =
    let r = longer a b x y h e in
    let z : r.0 ≡ [] = no_longer a r.0 p (subst (λ (l : List ℕ). (read_image l).outcome ≡ answered []) r.1 q) in
    sym (r.1 ∙ ap (λ (l : List ℕ). a ++ l) z ∙ append-nil a)

pub one_image_first : (a b x y : List ℕ) → (read_image a).outcome ≡ answered [] → (read_image b).outcome ≡ answered [] → a ++ x ≡ b ++ y → a ≡ b
one_image_first a b x y p q e = go (leb (length a) (length b)) refl
  where
    go : (t : Bool) → leb (length a) (length b) ≡ t → a ≡ b
    go true h = same_when_longer a b x y p q e (leb-true (length a) (length b) h)
    go false h = let k : length b ≤ length a = omega (arith, leb-false (length a) (length b) h) in sym (same_when_longer b a y x q p (sym e) k)
