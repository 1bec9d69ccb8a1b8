-- The contracts of the public functions leave no choice: any two outcomes that a contract allows are equal, answers, lent
-- bytes and the suite alike.
-- Assumes nothing.
use Prim.Native.Nat.{ℕ}
use mathlib.Core.Path.{◌≡◌, refl, sym, ap, ◌∙◌}
use mathlib.Core.List.{List, [], ◌∷◌}
use Rattle.std.specs.Prelude as prelude
use Rattle.std.specs.Prelude.{Ok, Err}
use Rattle.suite.specs.Outcome.{number_of}
use Rattle.suite.specs.OutcomeLaws.{refused_is, not_both}
use Rattle.suite.specs.Calls.{Result}
use Rattle.suite.specs.Determined.{Tells, number_tells}
use Rattle.suite.specs.declared.Refusal.{Refusal}
use Rattle.suite.specs.declared.Suite.{Suite}
use Rattle.image.specs.Layout.{image_of}
use Rattle.image.specs.Reader.{loading_of, load_of, loaded_in}
use Rattle.image.specs.Writer.{Lent, written_of, lent_of, fill_of, write_of}

written-tells : Tells written_of
written-tells (Ok m) (Ok n) e = cc
written-tells (Ok m) (Err b) e = not_both (m ∷ []) (number_of b) e
written-tells (Err a) (Ok n) e = not_both (n ∷ []) (number_of a) (sym e)
written-tells (Err a) (Err b) e = ap Err (number_tells a b (refused_is (number_of a) (number_of b) e))

loading_tells : Tells loading_of
loading_tells (Ok u) (Ok v) e = refl
loading_tells (Ok u) (Err b) e = not_both [] (number_of b) e
loading_tells (Err a) (Ok v) e = not_both [] (number_of a) (sym e)
loading_tells (Err a) (Err b) e = ap Err (number_tells a b (refused_is (number_of a) (number_of b) e))

-- an answer and the lent bytes beside it
lent_determined : (o : Lent) (r r' : prelude.Result ℕ Refusal) (after after' : List ℕ) → lent_of r after ≡ o → lent_of r' after' ≡ o
    → (r ≡ r') × (after ≡ after')
lent_determined o r r' after after' p q =
    let e : lent_of r after ≡ lent_of r' after' = p ∙ sym q in
    (written-tells r r' (ap (λ (l : Lent). l.outcome) e), ap (λ (l : Lent). l.bytes) e)

pub write_determined : (d : Suite) (out : List ℕ) (r r' : prelude.Result ℕ Refusal) (after after' : List ℕ)
    → lent_of r after ≡ write_of d out
    → lent_of r' after' ≡ write_of d out
    → (r ≡ r') × (after ≡ after')
write_determined d out r r' after after' p q = lent_determined (write_of d out) r r' after after' p q

pub write_unchecked_determined : (d : Suite) (out : List ℕ) (r r' : prelude.Result ℕ Refusal) (after after' : List ℕ)
    → lent_of r after ≡ fill_of (image_of d) out
    → lent_of r' after' ≡ fill_of (image_of d) out
    → (r ≡ r') × (after ≡ after')
write_unchecked_determined d out r r' after after' p q =
    lent_determined (fill_of (image_of d) out) r r' after after' p q

pub fill_determined : (image out : List ℕ) (r r' : prelude.Result ℕ Refusal) (after after' : List ℕ)
    → lent_of r after ≡ fill_of image out → lent_of r' after' ≡ fill_of image out → (r ≡ r') × (after ≡ after')
fill_determined image out r r' after after' p q = lent_determined (fill_of image out) r r' after after' p q

-- an answer, and the suite beside it
pub read_determined : (image : List ℕ) (s : Suite) (r r' : prelude.Result Unit Refusal) (after after' : Suite)
    → loaded_in r after ≡ load_of image s
    → loaded_in r' after' ≡ load_of image s
    → (r ≡ r') × (after ≡ after')
read_determined image s r r' after after' p q =
    let e : loaded_in r after ≡ loaded_in r' after' = p ∙ sym q in
    (loading_tells r r' (ap (λ (l : Result). l.outcome) e), ap (λ (l : Result). l.suite) e)
