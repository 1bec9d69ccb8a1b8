-- A chain follows the runs of demand 3: its images are those of the suites reached.
use Rattle.std.specs.Prelude.{◌≡◌, refl, Bool, true, false, cond, List, ◌++◌, ℕ, length, drop, leb, ltb}
use Rattle.std.proofs.Common.{sym, ap, subst, ◌∙◌, arith}
use Rattle.suite.specs.Outcome.{Outcome, answered, refused}
use Rattle.suite.specs.Calls.{Result, call_of}
use Rattle.suite.specs.Agree.{call_sound}
use Rattle.suite.specs.declared.Suite.{Suite}
use Rattle.image.specs.Layout.{image_of}
use Rattle.bench.specs.Bench.{Stepped, stepped, numbers_of, bytes_of, filled, settled, carried, admitted, bench_of}
use Rattle.history.specs.Directory.{Directory}
use Rattle.history.specs.Run.{Reached, applied, follow}
use Rattle.history.specs.Run as run
use Rattle.history.specs.Told.{values_of, told_of}
use Rattle.history.proofs.ToldLaws.{values, refused-told}
use Rattle.history.proofs.Theorems.{faithful, reached_sound}
use Rattle.history.proofs.Images.{image_loads}
use Rattle.chain.specs.Chain.{Asked, benched, called, Starts, Chained, started, went, told}
use Rattle.chain.specs.Follows.{Accepted, Follows}
use Rattle.chain.proofs.Starts.{one_image_first}

-- a call on the image of a suite that is reached
pub told_of_lem : {s : Suite} {d : Directory} → Reached s d → (a : Asked) → benched (image_of s) a ≡ told s d a
unfolding bench_of told
told_of_lem {s} {d} p a =
    let c = called a in
    let sound = call_sound s c (reached_sound p).0 in
    ap (λ (r : Result). admitted a.operation a.out a.answer (carried r.outcome r.suite c a.out a.answer)) (image_loads p)
    ∙ ap (λ (r : Result). admitted a.operation a.out a.answer (settled r.outcome (image_of r.suite) a.out a.answer)) (sym sound)
    ∙ ap (λ (o : Outcome). admitted a.operation a.out a.answer (settled o (image_of (call_of s c).suite) a.out a.answer)) (faithful p c)

-- the tests that it passes
passes : (operation : ℕ) (out answer : List ℕ) (rest : Stepped) → (admitted operation out answer rest).code ≡ 0
    → (admitted operation out answer rest ≡ rest) × (rest.code ≡ 0)
unfolding admitted
passes operation out answer rest = go (ltb 4 operation) (ltb (length answer) 16)
  where
    go : (t u : Bool) → (cond t (stepped 14 out answer) (cond u (stepped 19 out answer) rest)).code ≡ 0
        → (cond t (stepped 14 out answer) (cond u (stepped 19 out answer) rest) ≡ rest) × (rest.code ≡ 0)
    go true u e = absurd (omega arith)
    go false true e = absurd (omega arith)
    go false false e = (refl, e)

abbrev full : List ℕ → List ℕ → List ℕ → List ℕ → Stepped
full numbers image out answer = stepped 0 (image ++ drop (length image) out) (bytes_of numbers ++ drop 16 answer)

fills : (numbers image out answer : List ℕ) → (filled numbers image out answer).code ≡ 0
    → filled numbers image out answer ≡ full numbers image out answer
unfolding filled
fills numbers image out answer = go (leb (length image) (length out))
  where
    go : (t : Bool) → (cond t (full numbers image out answer) (stepped 19 out answer)).code ≡ 0
        → cond t (full numbers image out answer) (stepped 19 out answer) ≡ full numbers image out answer
    go true e = refl
    go false e = absurd (omega arith)

pub accepted : {s : Suite} {d : Directory} → Reached s d → (a : Asked) → (told s d a).code ≡ 0 → Accepted s d a
unfolding told
accepted {s} {d} p a e =
    let image = image_of (call_of s (called a)).suite in
    let t = passes a.operation a.out a.answer (settled (told_of s d (called a)) image a.out a.answer) e in
    go (told_of s d (called a)) refl t.0 t.1
  where
    go : (o : Outcome) → told_of s d (called a) ≡ o
        → told s d a ≡ settled (told_of s d (called a)) (image_of (call_of s (called a)).suite) a.out a.answer
        → (settled (told_of s d (called a)) (image_of (call_of s (called a)).suite) a.out a.answer).code ≡ 0
        → Accepted s d a
    go (refused n) f g h =
        let image = image_of (call_of s (called a)).suite in
        absurd ((refused-told s d (called a) n f).1 (sym (ap (λ (o : Outcome). (settled o image a.out a.answer).code) f) ∙ h))
    go (answered vs) f g h =
        let c = called a in
        let image = image_of (call_of s c).suite in
        let w : vs ≡ values_of s d c = values s d c vs f in
        let at : settled (told_of s d c) image a.out a.answer ≡ filled (numbers_of vs) image a.out a.answer =
        ap (λ (o : Outcome). settled o image a.out a.answer) f
        in
        let k : told s d a ≡ full (numbers_of (values_of s d c)) image a.out a.answer =
        g
        ∙ at
        ∙ fills (numbers_of vs) image a.out a.answer (sym (ap (λ (t : Stepped). t.code) at) ∙ h)
        ∙ ap (λ (l : List ℕ). full (numbers_of l) image a.out a.answer) w
        in
        record {
          outcome = faithful p c ∙ f ∙ ap answered w;
          out = ap (λ (t : Stepped). t.out) k;
          answer = ap (λ (t : Stepped). t.answer) k;
        }

-- a run goes on with an accepted call
next_reached : {s : Suite} {d : Directory} → Reached s d → (a : Asked) → Accepted s d a → Reached (call_of s (called a)).suite (applied d (called a))
next_reached {s} {d} p a k = subst (λ (o : Outcome). Reached (call_of s (called a)).suite (follow d (called a) o)) k.outcome (run.called p (called a))

pub next_starts : {s : Suite} {d : Directory} → Reached s d → (a : Asked) → (told s d a).code ≡ 0
    → Starts (told s d a).out (image_of (call_of s (called a)).suite)
next_starts {s} {d} p a e =
    let k = accepted p a e in
    record {
      later = drop (length (image_of (call_of s (called a)).suite)) a.out;
      bytes-are = k.out;
      accepted = ap (λ (r : Result). r.outcome) (image_loads (next_reached p a k));
    }

goes : {s : Suite} {d : Directory} → Reached s d → (a : Asked) → (told s d a).code ≡ 0 → (next : List ℕ) → Starts (told s d a).out next
    → Follows next (applied d (called a))
goes {s} {d} p a e next r =
    let t = next_starts p a e in
    record {
      suite = (call_of s (called a)).suite;
      reached = next_reached p a (accepted p a e);
      image-is =
          one_image_first next (image_of (call_of s (called a)).suite) r.later t.later r.accepted t.accepted
          (sym r.bytes-are ∙ t.bytes-are);
    }

pub follows : {image : List ℕ} {d : Directory} → Chained image d → Follows image d
follows (started {s} p) = record { suite = s; reached = p; image-is = refl }
follows (went {image} {d} l a e next r) = go (follows l)
  where
    go : Follows image d → Follows next (applied d (called a))
    go f =
        let same : benched image a ≡ told f.suite d a = ap (λ (i : List ℕ). benched i a) f.image-is ∙ told_of_lem f.reached a in
        goes f.reached a (sym (ap (λ (t : Stepped). t.code) same) ∙ e) next (subst (λ (t : Stepped). Starts t.out next) same r)
