-- Any two outcomes that the contracts of the public functions allow are equal.
use Rattle.std.specs.Prelude.{◌≡◌, refl, List, ℕ, zero, suc, ◌<◌, ◌≤◌, Result, Ok, Err, MatchResult}
use Rattle.std.proofs.Common.{sym, ap, ◌∙◌, arith}
use Rattle.suite.specs.Determined.{judged-tells}
use Rattle.suite.specs.declared.Refusal.{Refusal}
use Rattle.bench.specs.Bench.{Stepped, stepped, status_of, bench_of, number_of}
use Rattle.bench.specs.declared.operation.Operation.{Operation}
use Rattle.bench.specs.declared.operation.Operation.TheVariants.{Lookup, Insert, Update, Remove, Neighbours}

-- of the call for C: the number returned, image out and the answer
pub numbered_step_determined : (operation read write name value : ℕ) (image out answer : List ℕ) (c c' : ℕ) (o o' a a' : List ℕ)
    → stepped c o a ≡ bench_of operation read write name value image out answer
    → stepped c' o' a' ≡ bench_of operation read write name value image out answer
    → (c ≡ c') × (o ≡ o') × (a ≡ a')
numbered_step_determined operation read write name value image out answer c c' o o' a a' p q =
    let e : stepped c o a ≡ stepped c' o' a' = p ∙ sym q in
    (ap (λ (s : Stepped). s.code) e, ap (λ (s : Stepped). s.out) e, ap (λ (s : Stepped). s.answer) e)

-- and with the refusal by its name
pub directory_step_determined : (operation read write name value : ℕ) (image out answer : List ℕ) (r r' : Result Unit Refusal) (o o' a a' : List ℕ)
    → stepped (status_of r) o a ≡ bench_of operation read write name value image out answer
    → stepped (status_of r') o' a' ≡ bench_of operation read write name value image out answer
    → (r ≡ r') × (o ≡ o') × (a ≡ a')
directory_step_determined operation read write name value image out answer r r' o o' a a' p q =
    let e = numbered_step_determined operation read write name value image out answer (status_of r) (status_of r') o o' a a' p q in
    (judged-tells r r' e.0, e.1, e.2)

-- the operation that a number stands for
named : ℕ → Operation
named zero = Lookup
named (suc zero) = Insert
named (suc (suc zero)) = Update
named (suc (suc (suc zero))) = Remove
named (suc (suc (suc (suc n)))) = Neighbours

named_is : (a : Operation) → named (number_of a) ≡ a
unfolding named
named_is Lookup = refl
named_is Insert = refl
named_is Update = refl
named_is Remove = refl
named_is Neighbours = refl

at_most_4 : (a : Operation) → number_of a ≤ 4
at_most_4 Lookup = omega arith
at_most_4 Insert = omega arith
at_most_4 Update = omega arith
at_most_4 Remove = omega arith
at_most_4 Neighbours = omega arith

-- what the contract of `Operation::try_from` says
abbrev pub Says : ℕ → Result Operation Refusal → Type 0
Says number r = MatchResult r (λ operation. number ≡ number_of operation) (λ refusal. (4 < number) × (refusal ≡ Refusal.NotUnderstood))

pub try_from_determined : (number : ℕ) (r r' : Result Operation Refusal) → Says number r → Says number r' → r ≡ r'
try_from_determined number (Ok a) (Ok b) p q = ap Ok (sym (named_is a) ∙ ap named (sym p ∙ q) ∙ named_is b)
try_from_determined number (Ok a) (Err f) p q = let h = at_most_4 a in absurd (omega (arith, p, q.0))
try_from_determined number (Err e) (Ok b) p q = let h = at_most_4 b in absurd (omega (arith, p.0, q))
try_from_determined number (Err e) (Err f) p q = ap Err (p.1 ∙ sym q.1)
