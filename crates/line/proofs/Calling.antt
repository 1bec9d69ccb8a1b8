-- A call on the suite as the answer to a line.
use mathlib.Core.Path.{◌≡◌, refl, sym, ap, ◌∙◌}
use Prim.Native.Nat.{ℕ}
use Rattle.std.specs.Prelude as prelude
use Rattle.std.specs.Prelude.{None, Some, Ok}
use Rattle.member.specs.declared.Reading.{Reading}
use Rattle.member.specs.declared.Reading.TheVariants.{Entry, Gap}
use Rattle.suite.specs.Suite.{ballots}
use Rattle.suite.specs.Outcome.{Outcome, reading_values, looked_of, near_of, change_of}
use Rattle.suite.specs.Calls.{Call, lookup, insert, update, remove, neighbours, write_set, Result, result_of, step_of}
use Rattle.suite.specs.Agree.{step_reads}
use Rattle.suite.specs.declared.Done.{Done}
use Rattle.suite.specs.declared.Near.{Near}
use Rattle.suite.specs.declared.Looked.{Looked}
use Rattle.suite.specs.declared.Refusal.{Refusal}
use Rattle.text.specs.declared.Members.{Members}
use Rattle.text.specs.declared.Command.TheVariants as command
use Rattle.text.specs.declared.Reply.{Reply}
use Rattle.text.specs.declared.Reply.TheVariants.{Refused}
use Rattle.suite.specs.declared.Suite.{Suite}
use Rattle.line.specs.Standing.{accepted, set_of, found, put, removed, near, spoken, replied, on_suite}
use Rattle.line.specs.Lent.{reply_in, carried_out}

-- the reply to `look` shows no requests
found_any : (r : Reading) (q : ℕ) → found (reading_values r 0) ≡ found (reading_values r q)
found_any (Entry v x) q = refl
found_any (Gap v) q = refl

pub shown_is : (a : Looked) (x : Reply) → x ≡ found (reading_values a.reading 0) → x ≡ replied found (looked_of (Ok a))
shown_is a x h = h ∙ found_any a.reading a.requests

module _ (d : Suite) where
  -- a call that changes no member
  read-on : (c : Call) (o : Outcome) (r : Reply) → write_set c ≡ 0 → o ≡ (step_of d c).outcome → r ≡ replied (spoken c) o
      → reply_in r d ≡ on_suite d (Some c)
  unfolding on_suite
  read-on c o r w e h =
      let s = sym (step_reads d c w) in
      let p = h ∙ ap (replied (spoken c)) e in
      λ j. record { reply = p j; standing = accepted (s j) }

  -- a call that may
  change-on : (c : Call) (a : prelude.Result Done Refusal) (r : Reply) (d' : Suite) → result_of a d' ≡ step_of d c
      → r ≡ replied (spoken c) (change_of a) → reply_in r d' ≡ on_suite d (Some c)
  unfolding on_suite
  change-on c a r d' e h =
      let p = h ∙ ap (λ (t : Result). replied (spoken c) t.outcome) e in
      λ j. record { reply = p j; standing = accepted (e j).suite }

  -- another `suite`, or a line of any other form
  pub none-on : (r : Reply) → r ≡ Refused 14 → reply_in r d ≡ on_suite d None
  unfolding on_suite
  none-on r h = rw h

  -- the sets that the line gives, as they were taken, what the call answers and what the line is answered
  module _ (rs : Members) (set : ℕ) (first : set ≡ set_of (ballots d) rs) (x : ℕ) (r : Reply) where
    pub look-on : (a : prelude.Result Looked Refusal) → looked_of a ≡ (step_of d (lookup set x)).outcome → r ≡ replied found (looked_of a)
        → reply_in r d ≡ carried_out d (Some (command.Look rs x))
    look-on a h p = rw (← first) (read-on (lookup set x) (looked_of a) r refl h p)

    pub near_on : (a : prelude.Result Near Refusal) → near_of a ≡ (step_of d (neighbours set x)).outcome → r ≡ replied near (near_of a)
        → reply_in r d ≡ carried_out d (Some (command.Near rs x))
    near_on a h p = rw (← first) (read-on (neighbours set x) (near_of a) r refl h p)

    module _ (ws : Members) (set' : ℕ) (second : set' ≡ set_of (ballots d) ws) (a : prelude.Result Done Refusal) (d' : Suite) where
      pub insert-on : (v : ℕ) → result_of a d' ≡ step_of d (insert set set' x v) → r ≡ replied put (change_of a)
          → reply_in r d' ≡ carried_out d (Some (command.Insert rs ws x v))
      insert-on v h p = rw (← first, ← second) (change-on (insert set set' x v) a r d' h p)

      pub update-on : (v : ℕ) → result_of a d' ≡ step_of d (update set set' x v) → r ≡ replied put (change_of a)
          → reply_in r d' ≡ carried_out d (Some (command.Update rs ws x v))
      update-on v h p = rw (← first, ← second) (change-on (update set set' x v) a r d' h p)

      pub remove-on : result_of a d' ≡ step_of d (remove set set' x) → r ≡ replied removed (change_of a)
          → reply_in r d' ≡ carried_out d (Some (command.Remove rs ws x))
      remove-on h p = rw (← first, ← second) (change-on (remove set set' x) a r d' h p)
