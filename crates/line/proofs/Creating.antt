-- A line before a suite is accepted: a creation, or refusal 14.
use mathlib.Core.Path.{◌≡◌, refl, ◌∙◌}
use Prim.Native.Nat.{ℕ, ◌<◌, ◌≤◌}
use lib.ListN.{take}
use borrow.Author.Tests.{lt-ltb, le-ltb}
use Rattle.std.specs.Prelude as prelude
use Rattle.std.specs.Prelude.{Option, None, Some, Ok, Err}
use Rattle.suite.specs.Outcome.{number_of}
use Rattle.suite.specs.Create.{create_of, created_of}
use Rattle.suite.specs.declared.Refusal.{Refusal}
use Rattle.suite.specs.declared.Suite.{Suite}
use Rattle.text.specs.declared.Creation.{Creation}
use Rattle.text.specs.declared.Reply.TheVariants.{SuiteOk, Refused}
use Rattle.line.specs.Standing.{Answer, created, without_suite, creation_for}
use Rattle.line.specs.Lent.{standing_in, answer_in}

-- what the creation that a line asks for comes to, where nothing stands
abbrev pub first : Option Creation → Answer
first asked = without_suite (standing_in None) (creation_for asked)

-- the line asks for none
pub not_asked : answer_in (Refused 14) None ≡ first None
unfolding without_suite
not_asked = refl

-- or for one, with too many votes. It is answered by any answer that refuses so and leaves nothing standing
module _ (p : Creation) where
  refused_so : (n : ℕ) → answer_in (Refused n) None ≡ first (Some p) → (a : Answer) → a.reply ≡ Refused n → a.standing ≡ standing_in None
      → a ≡ first (Some p)
  refused_so n is a e f = (λ j. record { reply = e j; standing = f j }) ∙ is

  pub too_many : 8 < p.count → (a : Answer) → a.reply ≡ Refused 2 → a.standing ≡ standing_in None → a ≡ first (Some p)
  unfolding without_suite
  too_many h = refused_so 2 (rw (lt-ltb 8 p.count h))

  -- what creation comes to is what the line is answered
  module _ (few : p.count ≤ 8) (r : prelude.Result Suite Refusal)
      (made : created_of r ≡ create_of p.read p.write (take p.count p.votes)) where
    creation-is : first (Some p) ≡ created (standing_in None) (created_of r).suite (created_of r).outcome
    unfolding without_suite
    creation-is = rw (le-ltb 8 p.count few, ← made)

    pub not_made : {n : Refusal} → r ≡ Err n → (a : Answer) → a.reply ≡ Refused (number_of n) → a.standing ≡ standing_in None
        → a ≡ first (Some p)
    not_made {n} h = refused_so (number_of n) (rw (creation-is, h))

    pub now-made : {s : Suite} → r ≡ Ok s → answer_in SuiteOk (Some s) ≡ first (Some p)
    now-made {s} h = rw (creation-is, h)
