-- Demand 3: a fresh suite, or one loaded from an image of a suite so reached, and a sequence of calls with sets picked freely.
-- The theorems; Directory, Run, Told and Asked have the definitions, and the calls are those of the suite's contracts.
use Rattle.std.specs.Prelude.{◌≡◌, ◌↔◌, List, [], ◌∷◌, ℕ, ◌*◌, true}
use Rattle.std.proofs.Common.{sym, ◌∙◌}
use Rattle.std.specs.Int.Count.{ones}
use Rattle.suite.specs.Suite.{sound_suite}
use Rattle.suite.specs.Outcome.{answered, refused}
use Rattle.suite.specs.SetLaws.{Each}
use Rattle.suite.specs.Calls.{Call, lookup, remove, neighbours, version_of, newest, answers, call_of}
use Rattle.suite.specs.Create.{create_of}
use Rattle.suite.specs.declared.Suite.{Suite}
use Rattle.history.specs.Directory.{Directory}
use Rattle.history.specs.Directory as plain
use Rattle.history.specs.DirectoryLaws.{no_value}
use Rattle.history.specs.Run.{follow, Reached, created, called, Step, call, load, run, Since}
use Rattle.history.specs.Told.{refusal_of, read_refusal, flag, values_of, told_of}
use Rattle.history.proofs.ToldLaws.{values, refused-told, told-refused, answered-told, told-answered, absent_values, reading-refusal}
use Rattle.history.specs.Asked.{Asks}
use Rattle.history.specs.Reach.{Absent}
use Rattle.history.proofs.Reach.{as_told, is_sound, is_sized, removed_since, asks}
use Rattle.history.specs.Sized.{Sized}

-- Each call on a suite so reached comes to what the plain directory that got the accepted changes, in order, makes of it:
-- presence, value, neighbours and requests where it is accepted, and the number of the refusal where one applies.
pub faithful : {s : Suite} {d : Directory} → Reached s d → (c : Call) → (call_of s c).outcome ≡ told_of s d c
faithful p c = as_told p c

-- So does every call of every run, from a suite so reached,
pub run_faithful : {s : Suite} {d : Directory} → Reached s d → (l : List Step) →
    Each (λ t. t.outcome ≡ told_of t.suite t.directory t.asked) (run s d l)
unfolding run
run_faithful p [] = tt
run_faithful {s = s} {d = d} p (call c ∷ l) =
    (faithful p c, run_faithful {s = (call_of s c).suite} {d = follow d c (call_of s c).outcome} (called p c) l)
run_faithful p (load s d q ∷ l) = run_faithful {s = s} {d = d} q l

-- above all from a suite created with any accepted R, W and votes, with the empty directory.
pub from_creation : (r w : ℕ) (votes : List ℕ) → (create_of r w votes).outcome ≡ answered [] → (l : List Step) →
    Each (λ t. t.outcome ≡ told_of t.suite t.directory t.asked) (run (create_of r w votes).suite [] l)
from_creation r w votes e l = run_faithful (created r w votes e) l

-- A suite so reached is sound, so that no call of a run is refused with 1, and its arrays have their lengths: what the image's round
-- trip asks of a suite that is saved.
pub reached_sound : {s : Suite} {d : Directory} → Reached s d → (sound_suite s ≡ true) × Sized s
reached_sound p = (is_sound p, is_sized p)

-- The same, in parts. 'Each accepted lookup' shows presence and value; v is a version, of which the plain directory has none.
pub lookup_shows : {s : Suite} {d : Directory} → Reached s d → (rs x : ℕ) (vs : List ℕ) → (call_of s (lookup rs x)).outcome ≡ answered vs →
    (v : ℕ) × (vs ≡ flag (plain.present d x) ∷ v ∷ plain.value_of d x ∷ ones rs ∷ [])
lookup_shows {s} {d} p rs x vs e = (version_of (newest (answers s (lookup rs x))), values s d (lookup rs x) vs (sym (faithful p (lookup rs x)) ∙ e))

-- 'Each accepted .. neighbour query' shows predecessor and successor.
pub neighbours_show : {s : Suite} {d : Directory} → Reached s d → (rs x : ℕ) (vs : List ℕ) → (call_of s (neighbours rs x)).outcome ≡ answered vs →
    vs ≡ plain.predecessor d x ∷ plain.successor d x ∷ 2 * ones rs ∷ []
neighbours_show {s} {d} p rs x vs e = values s d (neighbours rs x) vs (sym (faithful p (neighbours rs x)) ∙ e)

-- Lookup and neighbours have the refusals 5, 7 and 8 alone.
pub read_refusals : (s : Suite) (d : Directory) (rs x : ℕ) →
    (refusal_of s d (lookup rs x) ≡ read_refusal s rs x) × (refusal_of s d (neighbours rs x) ≡ read_refusal s rs x)
read_refusals s d rs x = (reading-refusal s rs x, reading-refusal s rs x)

-- A call is accepted exactly when none of its refusals applies, and else refused with the first that does.
pub accepted_exactly : {s : Suite} {d : Directory} → Reached s d → (c : Call) →
    ((vs : List ℕ) × ((call_of s c).outcome ≡ answered vs)) ↔ (refusal_of s d c ≡ 0)
accepted_exactly {s} {d} p c = (λ (vs, e). (answered-told s d c vs (sym (faithful p c) ∙ e)).0, λ e. (values_of s d c, faithful p c ∙ told-answered s d c e))

pub refused_exactly : {s : Suite} {d : Directory} → Reached s d → (c : Call) (n : ℕ) →
    ((call_of s c).outcome ≡ refused n) ↔ ((refusal_of s d c ≡ n) × (n ≡ 0 → ⊥))
refused_exactly {s} {d} p c n = (λ e. refused-told s d c n (sym (faithful p c) ∙ e), λ e. faithful p c ∙ told-refused s d c n e)

-- 'A dropped name stays absent until inserted again': after an accepted removal of x, through any calls and loads of that suite
-- among which no insert of x was accepted, every accepted lookup of x through any set says absent.
pub absent_stays : {s t : Suite} {d : Directory} → Reached s d → (rs ws x : ℕ) (vs : List ℕ) → (call_of s (remove rs ws x)).outcome ≡ answered vs →
    Since x (call_of s (remove rs ws x)).suite t → (set : ℕ) (us : List ℕ) → (call_of t (lookup set x)).outcome ≡ answered us →
    (v : ℕ) × (us ≡ 0 ∷ v ∷ 0 ∷ ones set ∷ [])
absent_stays {t = t} p rs ws x vs e l set us f = go (removed_since p rs ws x vs e l)
  where
    go : Absent x t → (v : ℕ) × (us ≡ 0 ∷ v ∷ 0 ∷ ones set ∷ [])
    go (b, q, a) =
        let r = lookup_shows q set x us f in
        (r.0, r.1 ∙ absent_values (plain.present b x) (plain.value_of b x) r.0 (ones set) a (no_value b x a))

-- 'An accepted removal asks each tile of its read set exactly twice and each of its write set once', whatever leftovers lie there.
pub removal_asks : {s : Suite} {d : Directory} → Reached s d → (rs ws x : ℕ) (vs : List ℕ) → (call_of s (remove rs ws x)).outcome ≡ answered vs →
    Asks d rs ws x vs (answers s (remove rs ws x))
removal_asks p rs ws x vs e = asks p rs ws x vs e
