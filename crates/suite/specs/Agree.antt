-- A call on a sound suite is its step, on another refusal 1; what leaves the suite as it was.
use Rattle.std.specs.Prelude.{◌≡◌, refl, List, [], ◌∷◌, Bool, true, false, cond, ℕ}
use Rattle.std.proofs.Common.{ap, take-append-drop}
use Rattle.suite.specs.Sets.{changed}
use Rattle.suite.specs.Suite.{tiles, ballots, with_tiles, sound_suite}
use Rattle.suite.specs.Outcome.{Outcome, answered, refused}
use Rattle.suite.specs.Calls.{Call, lookup, neighbours, Marked, Result, answers, settle, written, write_set, resulting, step_of, call_of}
use Rattle.suite.specs.declared.Suite.{Suite}

-- a refusal with the suite as it was
abbrev pub refusal : Suite → ℕ → Result
refusal s n = record { outcome = refused n; suite = s }

pub call_sound : (s : Suite) (c : Call) → sound_suite s ≡ true → call_of s c ≡ step_of s c
unfolding call_of
call_sound s c h = rw h

pub call_unsound : (s : Suite) (c : Call) → sound_suite s ≡ false → call_of s c ≡ refusal s 1
unfolding call_of
call_unsound s c h = rw h

-- A refusal returns its number alone; the suite stays as it was.
resulting_refused : (s : Suite) (c : Call) (l : List Marked) (o : Outcome) (n : ℕ) → o ≡ refused n → resulting s c l o ≡ refusal s n
resulting_refused s c l o n e = rw e

outcome_is : (s : Suite) (c : Call) (l : List Marked) (o : Outcome) → (resulting s c l o).outcome ≡ o
outcome_is s c l (answered vs) = refl
outcome_is s c l (refused n) = refl

-- what a step's answers settle
abbrev pub settled : Suite → Call → Outcome
settled s c = settle (ballots s) s.read s.write c (answers s c)

pub step_outcome : (s : Suite) (c : Call) → (step_of s c).outcome ≡ settled s c
unfolding step_of
step_outcome s c = outcome_is s c (answers s c) (settled s c)

pub step_refused : (s : Suite) (c : Call) (n : ℕ) → settled s c ≡ refused n → step_of s c ≡ refusal s n
unfolding step_of
step_refused s c n h = resulting_refused s c (answers s c) (settled s c) n h

pub step_answered : (s : Suite) (c : Call) (vs : List ℕ) → settled s c ≡ answered vs
    → step_of s c ≡ record { outcome = answered vs; suite = with_tiles s (changed (written c (answers s c)) (tiles s) (write_set c)) }
unfolding step_of
step_answered s c vs h = rw h

pub step_keeps : (s : Suite) (c : Call) (n : ℕ) → (step_of s c).outcome ≡ refused n → (step_of s c).suite ≡ s
step_keeps s c n h = ap (λ (r : Result). r.suite) (step_refused s c n (cc (step_outcome s c)))

pub call_keeps : (s : Suite) (c : Call) (n : ℕ) → (call_of s c).outcome ≡ refused n → (call_of s c).suite ≡ s
call_keeps s c n = go (sound_suite s) refl
  where
    go : (b : Bool) → sound_suite s ≡ b → (call_of s c).outcome ≡ refused n → (call_of s c).suite ≡ s
    go true h e = rw (call_sound s c h) (step_keeps s c n (rw (call_sound s c h) at e))
    go false h e = rw (call_unsound s c h)

-- A call without a write set changes no member.
changed-none : {A : Type 0} (f : A → A) (l : List A) → changed f l 0 ≡ l
unfolding changed
changed-none f [] = refl
changed-none f (a ∷ l) = ap (λ t. a ∷ t) (changed-none f l)

own-tiles : (s : Suite) → with_tiles s (tiles s) ≡ s
own-tiles s =
    let h = take-append-drop s.count s.members in
    λ j. record { members = h j; votes = s.votes; read = s.read; write = s.write; count = s.count }

nothing_written : (s : Suite) (c : Call) (l : List Marked) (o : Outcome) → write_set c ≡ 0 → (resulting s c l o).suite ≡ s
nothing_written s c l (answered vs) h = rw (h, changed-none (written c l) (tiles s)) (own-tiles s)
nothing_written s c l (refused n) h = refl

pub step_reads : (s : Suite) (c : Call) → write_set c ≡ 0 → (step_of s c).suite ≡ s
unfolding step_of
step_reads s c h = nothing_written s c (answers s c) (settled s c) h

pub call_reads : (s : Suite) (c : Call) → write_set c ≡ 0 → (call_of s c).suite ≡ s
unfolding call_of
call_reads s c h = go (sound_suite s)
  where
    go : (b : Bool) → (cond b (step_of s c) (refusal s 1)).suite ≡ s
    go true = step_reads s c h
    go false = refl

pub lookup_keeps : (s : Suite) (rs x : ℕ) → (step_of s (lookup rs x)).suite ≡ s
lookup_keeps s rs x = step_reads s (lookup rs x) refl

pub neighbours_keeps : (s : Suite) (rs x : ℕ) → (step_of s (neighbours rs x)).suite ≡ s
neighbours_keeps s rs x = step_reads s (neighbours rs x) refl

-- A call changes members alone.
pub record SameFrame (s t : Suite) : Type 0 where
  pub votes : t.votes ≡ s.votes
  pub read : t.read ≡ s.read
  pub write : t.write ≡ s.write
  pub count : t.count ≡ s.count

pub step_frame : (s : Suite) (c : Call) → SameFrame s (step_of s c).suite
unfolding step_of
step_frame s c = go (settled s c)
  where
    go : (o : Outcome) → SameFrame s (resulting s c (answers s c) o).suite
    go (answered vs) = record { votes = refl; read = refl; write = refl; count = refl }
    go (refused n) = record { votes = refl; read = refl; write = refl; count = refl }
