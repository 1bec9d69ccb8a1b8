-- The steps of a bench call, in the paper's order: what each of them comes to.
-- Assumes nothing.
use Rattle.std.proofs.Common.{◌≡◌, refl, sym, ap, ◌∙◌, ℕ, ◌≤◌, ◌<◌, Bool, true, false, cond, List, [], ◌∷◌, ◌++◌, length, drop, leb, lt-ltb, le-ltb, arith}
use Rattle.std.specs.Prelude as prelude
use Rattle.std.specs.Prelude.{Ok, Err}
use Rattle.std.specs.Result.{IsErrAnd}
use Rattle.std.proofs.lemmas.Result.{err_from_is_err_and}
use Rattle.member.specs.declared.Reading.{Reading}
use Rattle.member.specs.declared.Reading.TheVariants.{Entry, Gap}
use Rattle.suite.specs.Outcome.{Outcome, answered, refused, number_of, reading_values}
use Rattle.suite.specs.OutcomeLaws.{refused_is, not_both}
use Rattle.suite.specs.Calls.{Call, lookup, insert, update, remove, neighbours, Result, write_set, step_of}
use Rattle.suite.specs.Agree.{step_reads}
use Rattle.suite.specs.declared.Suite.{Suite}
use Rattle.suite.specs.declared.Refusal.{Refusal}
use Rattle.image.specs.Layout.{image_of}
use Rattle.image.specs.Reader.{loaded, read_image, load_of}
use Rattle.image.specs.Writer.{Lent, untouched, fill_of}
use Rattle.bench.specs.Bench.{Stepped, stepped, status_of, answering, call_for, numbers_of, bytes_of, filled, settled, carried, admitted, bench_of}
use Rattle.bench.specs.Bench as bench
use Rattle.bench.specs.declared.operation.Operation.{Operation}
use Rattle.bench.specs.declared.operation.Operation.TheVariants.{Lookup, Insert, Update, Remove, Neighbours}

-- a result that is this refusal
pub status-err : (r : prelude.Result Unit Refusal) (e : Refusal) → IsErrAnd r (λ y. y ≡ e) → status_of r ≡ number_of e
status-err r e h = let p = err_from_is_err_and r h in ap status_of p.1 ∙ ap number_of p.2

pub answering-err : (r : prelude.Result (List ℕ) Refusal) (e : Refusal) (out answer : List ℕ) → IsErrAnd r (λ y. y ≡ e)
    → answering r out answer ≡ stepped (number_of e) out answer
answering-err r e out answer h =
    let p = err_from_is_err_and r h in
    ap (λ (q : prelude.Result (List ℕ) Refusal). answering q out answer) p.1
    ∙ ap (λ (y : Refusal). stepped (number_of y) out answer) p.2

-- ---- image out and the answer

module _ (numbers image out answer : List ℕ) where
  pub fill-refused : (n : ℕ) (after : List ℕ) → record { outcome = refused n; bytes = after } ≡ fill_of image out
      → stepped n after answer ≡ filled numbers image out answer
  unfolding fill_of filled
  fill-refused n after = go (leb (length image) (length out))
    where
      go : (b : Bool) → record { outcome = refused n; bytes = after }
          ≡ cond b (record { outcome = answered (length image ∷ []); bytes = image ++ drop (length image) out }) (untouched 19 out)
          → stepped n after answer
          ≡ cond b (stepped 0 (image ++ drop (length image) out) (bytes_of numbers ++ drop 16 answer)) (stepped 19 out answer)
      go true e = not_both (length image ∷ []) n (sym (ap (λ (l : Lent). l.outcome) e))
      go false e =
          let code = refused_is n 19 (ap (λ (l : Lent). l.outcome) e) in
          λ j. stepped (code j) (e j).bytes answer

  pub fill-written : (vs after : List ℕ) → record { outcome = answered vs; bytes = after } ≡ fill_of image out
      → stepped 0 after (bytes_of numbers ++ drop 16 answer) ≡ filled numbers image out answer
  unfolding fill_of filled
  fill-written vs after = go (leb (length image) (length out))
    where
      go : (b : Bool) → record { outcome = answered vs; bytes = after }
          ≡ cond b (record { outcome = answered (length image ∷ []); bytes = image ++ drop (length image) out }) (untouched 19 out)
          → stepped 0 after (bytes_of numbers ++ drop 16 answer)
          ≡ cond b (stepped 0 (image ++ drop (length image) out) (bytes_of numbers ++ drop 16 answer)) (stepped 19 out answer)
      go true e = ap (λ (l : Lent). stepped 0 l.bytes (bytes_of numbers ++ drop 16 answer)) e
      go false e = not_both vs 19 (ap (λ (l : Lent). l.outcome) e)

-- a reading's values are four
pub numbers-reading : (r : Reading) (q : ℕ) → reading_values r q ≡ numbers_of (reading_values r q)
unfolding numbers_of
numbers-reading (Entry v x) q = refl
numbers-reading (Gap v) q = refl

-- ---- the refusals before the call, in their order

module _ (n rs ws x v : ℕ) (image out answer : List ℕ) where
  pub not-understood : 4 < n → stepped 14 out answer ≡ bench_of n rs ws x v image out answer
  unfolding bench_of admitted
  not-understood h = rw (lt-ltb 4 n h)

  module _ (u : n ≤ 4) where
    pub no_room : length answer < 16 → stepped 19 out answer ≡ bench_of n rs ws x v image out answer
    unfolding bench_of admitted
    no_room h = rw (le-ltb 4 n u, lt-ltb (length answer) 16 h)

    module _ (h : 16 ≤ length answer) where
      pub not-loaded : (k : ℕ) → (read_image image).outcome ≡ refused k → stepped k out answer ≡ bench_of n rs ws x v image out answer
      unfolding bench_of admitted
      not-loaded k e = rw (le-ltb 4 n u, le-ltb (length answer) 16 h, e)

      -- and else the call on the suite that was read
      pub loads : (s : Suite) (t : Stepped) → read_image image ≡ loaded s → t ≡ carried (answered []) s (call_for n rs ws x v) out answer
          → t ≡ bench_of n rs ws x v image out answer
      unfolding bench_of admitted
      loads s t e g = rw (le-ltb 4 n u, le-ltb (length answer) 16 h, e) g

-- ---- the suite that was read

module _ (image : List ℕ) (before : Suite) where
  load-answered : (vs : List ℕ) → (read_image image).outcome ≡ answered vs
      → load_of image before ≡ record { outcome = answered vs; suite = (read_image image).suite }
  unfolding load_of
  load-answered vs e = rw e

  load-refused : (n : ℕ) → (read_image image).outcome ≡ refused n → load_of image before ≡ record { outcome = refused n; suite = before }
  unfolding load_of
  load-refused n e = rw e

  -- what loading comes to is what reading the image comes to
  pub outcome-read : (l : Result) → l ≡ load_of image before → (read_image image).outcome ≡ l.outcome
  outcome-read l e = go (read_image image).outcome refl
    where
      go : (o : Outcome) → (read_image image).outcome ≡ o → (read_image image).outcome ≡ l.outcome
      go (answered vs) i = i ∙ sym (ap (λ (k : Result). k.outcome) (e ∙ load-answered vs i))
      go (refused n) i = i ∙ sym (ap (λ (k : Result). k.outcome) (e ∙ load-refused n i))

  pub suite-read : (s : Suite) → loaded s ≡ load_of image before → read_image image ≡ loaded s
  suite-read s e =
      let o = outcome-read (loaded s) e in
      let same = ap (λ (k : Result). k.suite) (e ∙ load-answered [] o) in
      λ j. record { outcome = o j; suite = sym same j }

-- ---- the call

-- the call that an operation stands for
abbrev pub called : Operation → ℕ → ℕ → ℕ → ℕ → Call
called Lookup rs ws x v = lookup rs x
called Insert rs ws x v = insert rs ws x v
called Update rs ws x v = update rs ws x v
called Remove rs ws x v = remove rs ws x
called Neighbours rs ws x v = neighbours rs x

called_is : (o : Operation) (rs ws x v : ℕ) → call_for (bench.number_of o) rs ws x v ≡ called o rs ws x v
unfolding call_for
called_is Lookup rs ws x v = refl
called_is Insert rs ws x v = refl
called_is Update rs ws x v = refl
called_is Remove rs ws x v = refl
called_is Neighbours rs ws x v = refl

pub upto_4 : (o : Operation) → bench.number_of o ≤ 4
upto_4 Lookup = omega arith
upto_4 Insert = omega arith
upto_4 Update = omega arith
upto_4 Remove = omega arith
upto_4 Neighbours = omega arith

module _ (s : Suite) (rs ws x v : ℕ) (out answer : List ℕ) (o p : Operation) (i : o ≡ p) where
  carried-by : carried (answered []) s (called p rs ws x v) out answer
      ≡ carried (answered []) s (call_for (bench.number_of o) rs ws x v) out answer
  carried-by =
      ap (λ (c : Call). carried (answered []) s c out answer)
      (sym (called_is o rs ws x v ∙ ap (λ (q : Operation). called q rs ws x v) i))

  -- its own refusal
  pub refusing : (r : prelude.Result (List ℕ) Refusal) (e : Refusal) → IsErrAnd r (λ y. y ≡ e)
      → refused (number_of e) ≡ (step_of s (called p rs ws x v)).outcome
      → answering r out answer ≡ carried (answered []) s (call_for (bench.number_of o) rs ws x v) out answer
  refusing r e h f =
      answering-err r e out answer h
      ∙ ap (λ (q : Outcome). settled q (image_of (step_of s (called p rs ws x v)).suite) out answer) f
      ∙ carried-by

  module _ (vs numbers : List ℕ) (t : Stepped) (is : numbers ≡ numbers_of vs) where
    -- one that changes the suite
    pub changing : (after : Suite) → record { outcome = answered vs; suite = after } ≡ step_of s (called p rs ws x v)
        → t ≡ filled numbers (image_of after) out answer
        → t ≡ carried (answered []) s (call_for (bench.number_of o) rs ws x v) out answer
    changing after f g =
        g
        ∙ ap (λ (l : List ℕ). filled l (image_of after) out answer) is
        ∙ ap (λ (q : Result). settled q.outcome (image_of q.suite) out answer) f
        ∙ carried-by

    -- One without a write set leaves the suite, so the image that was read is the one to write.
    pub asking : (image : List ℕ) → write_set (called p rs ws x v) ≡ 0 → answered vs ≡ (step_of s (called p rs ws x v)).outcome
        → image ≡ image_of s → t ≡ filled numbers image out answer
        → t ≡ carried (answered []) s (call_for (bench.number_of o) rs ws x v) out answer
    asking image w f e g =
        let same = e ∙ ap image_of (sym (step_reads s (called p rs ws x v) w)) in
        g
        ∙ ap (λ (l : List ℕ). filled l image out answer) is
        ∙ (λ j. settled (f j) (same j) out answer)
        ∙ carried-by
