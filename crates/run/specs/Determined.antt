-- Any two outcomes that the contract of a public function allows are equal: a theorem for each, with the contract's own text.
use Rattle.std.specs.Prelude.{◌≡◌, List, [], ℕ, length, Result, Ok, Err}
use Rattle.std.proofs.Common.{ap, sym, ◌∙◌}
use Rattle.member.specs.Determined.{Determines}
use Rattle.suite.specs.Outcome.{number_of}
use Rattle.suite.specs.OutcomeLaws.{refused_is, not_both}
use Rattle.suite.specs.Determined.{number_tells}
use Rattle.suite.specs.declared.Refusal.{Refusal}
use Rattle.line.specs.Determined.{one_standing}
use Rattle.run.specs.Course.{Told, run_of, finish_of}
use Rattle.run.specs.Lent.{course_in, session_of, fresh_session, left_by, Report, report_in, report_of, placed}
use Rattle.run.specs.declared.Session.{Session}
use Rattle.run.specs.declared.Ran.{Ran}

pub start_determined : Determines (λ (r : Session). r ≡ fresh_session)
start_determined r r' p q = p ∙ sym q

-- what the contract of `run` and of `finish` says of an answer and of the session and the output at exit, where the call comes to `t`
abbrev pub Allows : Session → List ℕ → Told → Result Ran Refusal → Session → List ℕ → Type 0
Allows session out t r left exit = (report_in r left ≡ report_of t) × ((exit ≡ placed t out) × (left ≡ left_by r session left))

-- a contract allows one answer at most, and the session and the output to be left in one way at most
abbrev pub Leaves : (Result Ran Refusal → Session → List ℕ → Type 0) → Type 0
Leaves allows =
    (r r' : Result Ran Refusal) (s s' : Session) (o o' : List ℕ) → allows r s o → allows r' s' o'
    → (r ≡ r') × ((s ≡ s') × (o ≡ o'))

-- of the session that is left only its standing and its held bytes count
both : (session : Session) (r r' : Result Ran Refusal) (s s' : Session) → s ≡ left_by r session s → s' ≡ left_by r' session s' → report_in r s ≡ report_in r' s' → (r ≡ r') × (s ≡ s')
both session (Ok a) (Ok b) s s' p q e =
    let standing = one_standing s.standing s'.standing (ap (λ (x : Report). x.course.standing) e) in (
      λ j. Ok (record { taken = (e j).taken; written = (e j).written }),
      p ∙ (λ j. session_of (standing j) (e j).course.held) ∙ sym q,
    )
both session (Ok a) (Err f) s s' p q e = not_both [] (number_of f) (ap (λ (x : Report). x.outcome) e)
both session (Err f) (Ok b) s s' p q e = not_both [] (number_of f) (sym (ap (λ (x : Report). x.outcome) e))
both session (Err f) (Err g) s s' p q e =
    (ap Err (number_tells f g (refused_is (number_of f) (number_of g) (ap (λ (x : Report). x.outcome) e))), p ∙ sym q)

left : (session : Session) (out : List ℕ) (t : Told) → Leaves (Allows session out t)
left session out t r r' s s' o o' p q =
    let same = both session r r' s s' p.1.1 q.1.1 (p.0 ∙ sym q.0) in
    (same.0, (same.1, p.1.0 ∙ sym q.1.0))

module _ (session : Session) where
  pub run-determined : (text out : List ℕ) → Leaves (Allows session out (run_of (course_in session) text (length out)))
  run-determined text out = left session out (run_of (course_in session) text (length out))

  pub finish-determined : (out : List ℕ) → Leaves (Allows session out (finish_of (course_in session) (length out)))
  finish-determined out = left session out (finish_of (course_in session) (length out))
