-- What each kind of reply says of the plain directory before the line and after it.
use Rattle.std.specs.Prelude.{◌≡◌, Bool, true, false, cond, ◌&&◌, ℕ, ltb, leb, length, take}
use Rattle.std.proofs.Math.Path.{refl, ap}
use Rattle.std.proofs.Common.{sym, subst₂, ◌∙◌, arith}
use Rattle.std.proofs.Math.Logic.{inl, inr}
use mathlib.Core.List.{List, [], ◌∷◌}
use Rattle.std.specs.Prelude.{Option, None, Some}
use Rattle.text.specs.Line.{command_of, ballots_of}
use Rattle.text.specs.declared.Members.{Members}
use Rattle.text.specs.declared.Command.{Command}
use Rattle.text.specs.declared.Command.TheVariants as command
use Rattle.text.specs.declared.Creation.{Creation}
use Rattle.text.specs.declared.Reply.{Reply}
use Rattle.suite.specs.Sets.{total, all}
use Rattle.suite.specs.Suite.{quorum, small_vote}
use Rattle.suite.specs.Outcome.{Outcome, answered, refused}
use Rattle.suite.specs.OutcomeLaws.{not_both}
use Rattle.suite.specs.Suite.{ballots}
use Rattle.suite.specs.Calls.{Call, lookup, insert, update, remove, neighbours, Result, step_of, call_of, version_of, newest, answers}
use Rattle.suite.specs.Agree.{call_sound, step_keeps}
use Rattle.suite.specs.Requests.{requests_of}
use Rattle.suite.specs.Create.{fresh_suite, not_created, create_of}
use Rattle.suite.specs.declared.Suite.{Suite}
use Rattle.line.specs.Standing.{Standing, fresh, accepted, set_of, call_for, found, spoken, replied, on_suite, creation_for, created, without_suite, answer_of}
use Rattle.history.specs.Directory.{Directory}
use Rattle.history.specs.Directory as plain
use Rattle.history.specs.Run.{Reached, called, applied, follow}
use Rattle.history.specs.Run as run
use Rattle.history.specs.Told.{own_refusal, limit_refusal, first, refusal_of, flag, values_of, told_of}
use Rattle.history.proofs.ToldLaws.{answered-told}
use Rattle.history.proofs.Goes.{first-zero}
use Rattle.history.proofs.Theorems.{faithful, reached_sound}
use Rattle.spoken.specs.Lines.{Lined, nothing, suited, told_on, told, next_on, next}
use Rattle.spoken.specs.Says.{Says, SaysOf}

-- A call on a suite that is reached.
module _ {s : Suite} {d : Directory} (p : Reached s d) (c : Call) where
  is-step : call_of s c ≡ step_of s c
  is-step = call_sound s c (reached_sound p).0

  pub step-told : (step_of s c).outcome ≡ told_of s d c
  step-told = ap (λ (r : Result). r.outcome) (sym is-step) ∙ faithful p c

  pub step-reached : Reached (step_of s c).suite (follow d c (told_of s d c))
  step-reached =
      subst₂ (λ (r : Result) (o : Outcome). Reached r.suite (follow d c o)) is-step (faithful p c) (called p c)

-- An accepted creation answers no values.
abbrev tested : Bool → Bool → Bool → Suite → Result
tested a b c s = cond a (cond b (cond c (record { outcome = answered []; suite = s }) (not_created 4)) (not_created 3)) (not_created 2)

no_values : (a b c : Bool) (s : Suite) (vs : List ℕ) → (tested a b c s).outcome ≡ answered vs → vs ≡ []
no_values true true true s vs e = cc
no_values true true false s vs e = not_both vs 4 (sym e)
no_values true false c s vs e = not_both vs 3 (sym e)
no_values false b c s vs e = not_both vs 2 (sym e)

create_answers : (r w : ℕ) (votes vs : List ℕ) → (create_of r w votes).outcome ≡ answered vs → vs ≡ []
unfolding create_of
create_answers r w votes vs e =
    no_values (leb 1 (length votes) && leb (length votes) 8) (all small_vote votes) (quorum r w (total votes)) (fresh_suite r w votes) vs e

-- so what an accepted `suite` leaves is reached
Starts : Result → Type 0
Starts r = (vs : List ℕ) → r.outcome ≡ answered vs → Reached r.suite []

create_starts : (r w : ℕ) (votes : List ℕ) → Starts (create_of r w votes)
unfolding Starts
create_starts r w votes vs e = run.created r w votes (e ∙ ap answered (create_answers r w votes vs e))

asked_starts : (r w count : ℕ) (votes : List ℕ) (many : Bool) → Starts (cond many (not_created 2) (create_of r w (take count votes)))
unfolding Starts
asked_starts r w count votes true = λ vs e. not_both vs 2 (sym e)
asked_starts r w count votes false = create_starts r w (take count votes)

is_absent : (a l : ℕ) (t : Bool) → first a (first (cond t 10 0) l) ≡ 0 → t ≡ false
is_absent a l false e = refl
is_absent a l true e = absurd (omega (arith, (first-zero a (first 10 l) e).1))

is_present : (a l : ℕ) (t : Bool) → first a (first (cond t 0 11) l) ≡ 0 → t ≡ true
is_present a l true e = refl
is_present a l false e = absurd (omega (arith, (first-zero a (first 11 l) e).1))

-- On an accepted suite that is reached.
module _ {s : Suite} {d : Directory} (p : Reached s d) where
  pub told-on : (o : Option Call) → (on_suite s o).reply ≡ told_on s d o
  unfolding on_suite told_on
  told-on None = refl
  told-on (Some c) = ap (replied (spoken c)) (step-told p c)

  pub goes_on : (o : Option Call) → Lined (on_suite s o).standing (next_on s d o)
  unfolding on_suite next_on
  goes_on None = suited p
  goes_on (Some c) = suited (step-reached p c)

  looked : (rs : Members) (n v q : ℕ) (u : Standing) (e : Directory) (b : Bool) → plain.present d n ≡ b →
      Says (accepted s) d (Some (command.Look rs n)) u e (found (flag b ∷ v ∷ plain.value_of d n ∷ q ∷ []))
  looked rs n v q u e true h = (rs, n, refl, h, refl)
  looked rs n v q u e false h = (rs, n, refl, h)

  abbrev OnCall : Option Command → Call → Type 0
  OnCall k c = Says (accepted s) d k (accepted (step_of s c).suite) (follow d c (told_of s d c)) (replied (spoken c) (step_of s c).outcome)

  on_call : (k : Option Command) (c : Call)
      → (refusal_of s d c ≡ 0 → Says (accepted s) d k (accepted (step_of s c).suite) (applied d c) (spoken c (values_of s d c)))
      → OnCall k c
  on_call k c say = go (told_of s d c) refl
    where
      after : (o : Outcome) → told_of s d c ≡ o → Says (accepted s) d k (accepted (step_of s c).suite) (follow d c o) (replied (spoken c) o) → OnCall k c
      after o h t =
          subst₂ (λ (e : Directory) (r : Reply). Says (accepted s) d k (accepted (step_of s c).suite) e r) (sym (ap (follow d c) h))
          (sym (ap (replied (spoken c)) (step-told p c ∙ h))) t

      go : (o : Outcome) → told_of s d c ≡ o → OnCall k c
      go (refused n) h = after (refused n) h (ap accepted (step_keeps s c n (step-told p c ∙ h)), refl)
      go (answered vs) h = let t = answered-told s d c vs h in after (answered (values_of s d c)) (h ∙ ap answered t.1) (say t.0)

  pub on-suite : (k : Option Command) → Says (accepted s) d k (on_suite s (call_for s k)).standing (next_on s d (call_for s k)) (on_suite s (call_for s k)).reply
  unfolding on_suite next_on
  on-suite (Some (command.Look rs x)) =
      let c = lookup (set_of (ballots s) rs) x in
      on_call (Some (command.Look rs x)) c
      (λ z. looked rs x (version_of (newest (answers s c))) (requests_of c) (accepted (step_of s c).suite) d (plain.present d x) refl)
  on-suite (Some (command.Near rs x)) = on_call (Some (command.Near rs x)) (neighbours (set_of (ballots s) rs) x) (λ z. (rs, x, refl, refl, refl))
  on-suite (Some (command.Insert rs ws x v)) =
      let c = insert (set_of (ballots s) rs) (set_of (ballots s) ws) x v in
      on_call (Some (command.Insert rs ws x v)) c
      (λ z. (rs, ws, x, v, inl (refl, is_absent (own_refusal s c) (limit_refusal s d c) (plain.present d x) z, refl)))
  on-suite (Some (command.Update rs ws x v)) =
      let c = update (set_of (ballots s) rs) (set_of (ballots s) ws) x v in
      on_call (Some (command.Update rs ws x v)) c
      (λ z. (rs, ws, x, v, inr (refl, is_present (own_refusal s c) (limit_refusal s d c) (plain.present d x) z, refl)))
  on-suite (Some (command.Remove rs ws x)) =
      let c = remove (set_of (ballots s) rs) (set_of (ballots s) ws) x in
      on_call (Some (command.Remove rs ws x)) c (λ z. (rs, ws, x, refl, is_present (own_refusal s c) (limit_refusal s d c) (plain.present d x) z, refl))
  on-suite (Some (command.Suite r w)) = (refl, refl)
  on-suite None = (refl, refl)

-- Before a suite is accepted.
module _ (s : Suite) where
  made-or-not : (k : Option Command) (u : Suite) (o : Outcome) → Says (fresh s) [] k (created (fresh s) u o).standing [] (created (fresh s) u o).reply
  made-or-not k u (answered vs) = (refl, refl)
  made-or-not k u (refused n) = (refl, refl)

  pub without-suite : (k : Option Command) (o : Option Result) → Says (fresh s) [] k (without_suite (fresh s) o).standing [] (without_suite (fresh s) o).reply
  unfolding without_suite
  without-suite k None = (refl, refl)
  without-suite k (Some r) = made-or-not k r.suite r.outcome

-- What stands then stays until a suite is accepted.
module _ {s : Suite} (p : Lined (fresh s) []) where
  starts : (r : Result) → Starts r → Lined (created (fresh s) r.suite r.outcome).standing []
  unfolding Starts
  starts r h = go r.outcome (λ vs e. h vs e)
    where
      go : (o : Outcome) → ((vs : List ℕ) → o ≡ answered vs → Reached r.suite []) → Lined (created (fresh s) r.suite o).standing []
      go (answered vs) h = suited (h vs refl)
      go (refused n) h = p

  pub starts-on : (asked : Option Creation) → Lined (without_suite (fresh s) (creation_for asked)).standing []
  unfolding without_suite
  starts-on (Some q) =
      starts (cond (ltb 8 q.count) (not_created 2) (create_of q.read q.write (take q.count q.votes)))
      (asked_starts q.read q.write q.count q.votes (ltb 8 q.count))
  starts-on None = p

pub says : {t : Standing} {d : Directory} → Lined t d → (line : List ℕ) → SaysOf t d line (answer_of t line).reply
unfolding answer_of next
says (nothing s) line = without-suite _ (command_of line) (creation_for (ballots_of line))
says (suited p) line = on-suite p (command_of line)

pub as_told : {t : Standing} {d : Directory} → Lined t d → (line : List ℕ) → (answer_of t line).reply ≡ told t d line
unfolding answer_of told
as_told (nothing s) line = refl
as_told (suited {s} p) line = told-on p (call_for s (command_of line))

pub stays_lined : {t : Standing} {d : Directory} → Lined t d → (line : List ℕ) → Lined (answer_of t line).standing (next t d line)
unfolding answer_of next
stays_lined (nothing s) line = starts-on (nothing s) (ballots_of line)
stays_lined (suited {s} p) line = goes_on p (call_for s (command_of line))
