-- A chain of bench calls answers as the plain directory does, which got the accepted changes in order.
-- The theorems; Chain has the definitions, and the call is that of the bench's contract (`directory_step`).
use Rattle.std.specs.Prelude.{◌≡◌, List, [], ◌++◌, ℕ, drop}
use Rattle.std.proofs.Common.{sym, ap, subst, ◌∙◌}
use Rattle.suite.specs.Outcome.{answered}
use Rattle.suite.specs.Calls.{Result, call_of}
use Rattle.suite.specs.Create.{create_of}
use Rattle.suite.specs.declared.Suite.{Suite}
use Rattle.image.specs.Layout.{image_of}
use Rattle.bench.specs.Bench.{Stepped, numbers_of, bytes_of}
use Rattle.history.specs.Directory.{Directory}
use Rattle.history.specs.Run.{Reached, created}
use Rattle.history.specs.Told.{values_of}
use Rattle.history.proofs.Images.{image_loads}
use Rattle.chain.specs.Chain.{Asked, benched, called, Starts, Chained, started, told, held}
use Rattle.chain.proofs.Starts.{one_image_first}
use Rattle.chain.specs.Follows.{Follows}
use Rattle.chain.proofs.Follows.{told_of_lem, accepted, follows, next_starts}

-- A chain may start from the image of any created suite, with the empty directory.
pub from_creation : (r w : ℕ) (votes : List ℕ) → (create_of r w votes).outcome ≡ answered [] → Chained (image_of (create_of r w votes).suite) []
from_creation r w votes e = started (created r w votes e)

-- What a chain's image holds is a suite that a run of the same calls reaches, with the same plain directory, and the image is its image.
pub chain_reached : {image : List ℕ} {d : Directory} → Chained image d → Reached (held image) d × (image ≡ image_of (held image))
chain_reached {image} {d} l = go (follows l)
  where
    go : Follows image d → Reached (held image) d × (image ≡ image_of (held image))
    go f =
        let e : held image ≡ f.suite = ap held f.image-is ∙ ap (λ (r : Result). r.suite) (image_loads f.reached) in
        (subst (λ (s : Suite). Reached s d) (sym e) f.reached, f.image-is ∙ ap image_of (sym e))

-- Every call of a chain, accepted or refused, comes to what that plain directory tells: what is returned, image out and the answer.
pub chain_faithful : {image : List ℕ} {d : Directory} → Chained image d → (a : Asked) → benched image a ≡ told (held image) d a
chain_faithful {image} {d} l a =
    let r = chain_reached l in
    ap (λ (i : List ℕ). benched i a) r.1 ∙ told_of_lem r.0 a

-- Above all an accepted one: its four numbers are the plain directory's values, with the versions of the suite.
pub accepted-answers : {image : List ℕ} {d : Directory} → Chained image d → (a : Asked) → (benched image a).code ≡ 0 →
    (benched image a).answer ≡ bytes_of (numbers_of (values_of (held image) d (called a))) ++ drop 16 a.answer
accepted-answers l a e =
    let same = chain_faithful l a in
    ap (λ (t : Stepped). t.answer) same ∙ (accepted (chain_reached l).0 a (sym (ap (λ (t : Stepped). t.code) same) ∙ e)).answer

-- After an accepted call image out starts with an image, so a chain can always go on,
pub chain_goes_on : {image : List ℕ} {d : Directory} → Chained image d → (a : Asked) → (benched image a).code ≡ 0 →
    Starts (benched image a).out (image_of (call_of (held image) (called a)).suite)
chain_goes_on {image} l a e =
    let same = chain_faithful l a in
    subst (λ (t : Stepped). Starts t.out (image_of (call_of (held image) (called a)).suite)) (sym same)
    (next_starts (chain_reached l).0 a (sym (ap (λ (t : Stepped). t.code) same) ∙ e))

-- and one image alone stands at the start of any bytes, so a bench finds the new image in image out without being told its length.
pub one_start : (bytes a b : List ℕ) → Starts bytes a → Starts bytes b → a ≡ b
one_start bytes a b p q = one_image_first a b p.later q.later p.accepted q.accepted (sym p.bytes-are ∙ q.bytes-are)
