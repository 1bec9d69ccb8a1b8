-- Any two outcomes that the contract of a public function allows are equal: a theorem for each, with the contract's own text.
use Rattle.std.specs.Prelude.{◌≡◌, Option, None, Some, List, true, false, ℕ}
use Rattle.std.proofs.Common.{refl, sym, ap, ◌∙◌}
use Rattle.suite.specs.declared.Suite.{Suite}
use Rattle.text.specs.declared.Reply.{Reply}
use Rattle.line.specs.Standing.{Standing, Answer, accepted, answer_of}
use Rattle.line.specs.Lent.{standing_in, answer_in, reply_in}

-- no two suites are one standing
pub one_standing : (t t' : Option Suite) → standing_in t ≡ standing_in t' → t ≡ t'
one_standing None None e = refl
one_standing None (Some s) e = absurd (let z : false ≡ true = ap (λ (s : Standing). s.made) e in cc)
one_standing (Some s) None e = absurd (let z : true ≡ false = ap (λ (s : Standing). s.made) e in cc)
one_standing (Some s) (Some s') e = λ j. Some (e j).suite

-- a contract allows one reply at most, and a call to leave one suite at most
pub reply_determined : (s : Suite) (line : List ℕ) (r r' : Reply) (e e' : Suite)
    → reply_in r e ≡ answer_of (accepted s) line
    → reply_in r' e' ≡ answer_of (accepted s) line
    → (r ≡ r') × (e ≡ e')
reply_determined s line r r' e e' p q =
    let t = p ∙ sym q in
    (ap (λ (a : Answer). a.reply) t, ap (λ (a : Answer). a.standing.suite) t)

pub answer_determined : (t : Option Suite) (line : List ℕ) (r r' : Reply) (u u' : Option Suite)
    → answer_in r u ≡ answer_of (standing_in t) line
    → answer_in r' u' ≡ answer_of (standing_in t) line
    → (r ≡ r') × (u ≡ u')
answer_determined t line r r' u u' p q =
    let s = p ∙ sym q in
    (ap (λ (a : Answer). a.reply) s, one_standing u u' (ap (λ (a : Answer). a.standing) s))
