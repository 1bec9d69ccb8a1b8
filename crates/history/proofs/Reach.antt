-- The invariant holds of every suite that can be reached, and what follows for sequences.
use Rattle.std.specs.Prelude.{◌≡◌, ◌⊎◌, List, [], ◌∷◌, true, false, ◌||◌, ℕ}
use Rattle.std.proofs.Common.{sym, ap, subst, ◌∙◌, inl, inr}
use Rattle.suite.specs.Outcome.{Outcome, answered, refused}
use Rattle.suite.specs.Calls.{Call, lookup, insert, update, remove, neighbours, Result, answers, call_of}
use Rattle.suite.specs.Requests.{answers-length}
use Rattle.suite.specs.Suite.{sound_suite}
use Rattle.suite.specs.SuiteLaws.{suite_parts}
use Rattle.suite.specs.Create.{fresh_suite}
use Rattle.suite.specs.CreateLaws.{created-is, created-sound}
use Rattle.history.specs.Sized.{Sized, call_sized, fresh_sized}
use Rattle.suite.specs.Accepted.{new_version}
use Rattle.suite.specs.Agree.{settled, call_sound, step_outcome}
use Rattle.suite.specs.Rows.{survey_of}
use Rattle.suite.specs.declared.Suite.{Suite}
use Rattle.history.specs.Directory.{Directory}
use Rattle.history.specs.Directory as plain
use Rattle.history.specs.DirectoryLaws.{same_or, update_presence, remove_here, remove_other}
use Rattle.history.specs.Run.{follow, Reached, created, called, loaded, inserted, Since, now, then, saved}
use Rattle.history.specs.Told.{told_of}
use Rattle.history.proofs.ToldLaws.{values}
use Rattle.history.specs.Asked.{Asks}
use Rattle.history.specs.AskedLaws.{remove-askings}
use Rattle.history.specs.Held.{Held}
use Rattle.history.specs.Start.{created-held}
use Rattle.history.proofs.Settled.{told, surveyed-remove}
use Rattle.history.proofs.Removal.{true-predecessor, true-successor}
use Rattle.history.proofs.Goes.{accepted, call-held}
use Rattle.history.specs.Reach.{Absent}

held : {s : Suite} {d : Directory} → Reached s d → Held s d
held (created r w votes e) = created-held r w votes e
held (called p c) = call-held (held p) c
held {d = d} (loaded p t e) = subst (λ s. Held s d) (sym e) (held p)

settles : {s : Suite} {d : Directory} → Reached s d → (c : Call) → (call_of s c).outcome ≡ settled s c
settles {s} p c = ap (λ (r : Result). r.outcome) (call_sound s c (held p).sound) ∙ step_outcome s c

pub as_told : {s : Suite} {d : Directory} → Reached s d → (c : Call) → (call_of s c).outcome ≡ told_of s d c
as_told p c = settles p c ∙ told (held p) c

-- soundness and lengths: an image of such a suite reads back as that suite
pub is_sound : {s : Suite} {d : Directory} → Reached s d → sound_suite s ≡ true
is_sound p = (held p).sound

pub is_sized : {s : Suite} {d : Directory} → Reached s d → Sized s
unfolding fresh_suite
is_sized (created r w votes e) =
    let is = created-is r w votes e in
    subst Sized (sym is) (fresh_sized r w votes (suite_parts (fresh_suite r w votes) (ap sound_suite (sym is) ∙ created-sound r w votes e)).few)
is_sized (called {s} p c) = call_sized s c (is_sound p) (is_sized p)
is_sized (loaded p t e) = subst Sized (sym e) (is_sized p)

-- A name that is absent stays so until it is inserted.
still_absent : (x : ℕ) (d : Directory) (c : Call) (o : Outcome) → inserted x c o ≡ false → plain.present d x ≡ false →
    plain.present (follow d c o) x ≡ false
unfolding plain.present
still_absent x d (lookup rs y) (answered vs) n a = a
still_absent x d (neighbours rs y) (answered vs) n a = a
still_absent x d (insert rs ws y v) (answered vs) n a = ap (λ t. t || plain.present d x) n ∙ a
still_absent x d (update rs ws y v) (answered vs) n a = update_presence d y v x ∙ a
still_absent x d (remove rs ws y) (answered vs) n a = go (same_or x y)
  where
    go : (x ≡ y) ⊎ (x ≡ y → ⊥) → plain.present (plain.remove d y) x ≡ false
    go (inl e) = ap (plain.present (plain.remove d y)) e ∙ remove_here d y
    go (inr e) = (remove_other d y x e).presence ∙ a
still_absent x d c (refused n) m a = a

absent_since : {x : ℕ} {s t : Suite} → Absent x s → Since x s t → Absent x t
absent_since a now = a
absent_since {x = x} a (then {t} l c n) = go (absent_since a l)
  where
    go : Absent x t → Absent x (call_of t c).suite
    go (d, p, b) = (follow d c (call_of t c).outcome, called p c, still_absent x d c (call_of t c).outcome n b)
absent_since {x = x} a (saved {t} l u e) = go (absent_since a l)
  where
    go : Absent x t → Absent x u
    go (d, p, b) = (d, loaded p u e, b)

pub removed_since : {s t : Suite} {d : Directory} → Reached s d → (rs ws x : ℕ) (vs : List ℕ) → (call_of s (remove rs ws x)).outcome ≡ answered vs →
    Since x (call_of s (remove rs ws x)).suite t → Absent x t
removed_since {s} {t} {d} p rs ws x vs e l = absent_since (follow d c (call_of s c).outcome, called p c, gone) l
  where
    c : Call
    c = remove rs ws x

    gone : plain.present (follow d c (call_of s c).outcome) x ≡ false
    gone = ap (λ o. plain.present (follow d c o) x) e ∙ remove_here d x

-- Whom an accepted removal asks.
pub asks : {s : Suite} {d : Directory} → Reached s d → (rs ws x : ℕ) (vs : List ℕ) → (call_of s (remove rs ws x)).outcome ≡ answered vs →
    Asks d rs ws x vs (answers s (remove rs ws x))
unfolding survey_of
asks {s} {d} p rs ws x vs e =
    let c = remove rs ws x in
    let h = held p in
    let f = (accepted h c vs (sym (settles p c) ∙ e)).fine in
    let n = answers-length s h.each c f.reads f.writes in
    let t = survey_of (answers s c) in
    let v = surveyed-remove h rs ws x f.name f.read-votes in
    record {
      each_member = λ i. remove-askings s h.each i rs ws x f.reads f.writes;
      in_all = n;
      requests = (new_version c (answers s c), values s d c vs (sym (as_told p c) ∙ e) ∙ ap (λ k. new_version c (answers s c) ∷ k ∷ []) (sym n));
      below = sym (true-predecessor h rs x f.name t v);
      above = sym (true-successor h rs x f.name t v);
    }
