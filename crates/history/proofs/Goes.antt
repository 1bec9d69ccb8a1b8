-- The invariant goes on through every call.
use Rattle.std.specs.Prelude.{◌≡◌, refl, List, Bool, true, false, cond, ℕ, ltb, eqb}
use Rattle.std.proofs.Common.{sym, ◌∙◌, arith, eqb-true}
use Rattle.std.proofs.Math.Path.{ap, subst}
use Rattle.std.proofs.lemmas.Bool.{eqb-false}
use Rattle.member.specs.Limits.{largest_version}
use Rattle.member.specs.Change.{fits_coalesce}
use Rattle.suite.specs.Sets.{chosen, changed, all}
use Rattle.suite.specs.Suite.{tiles, ballots, with_tiles, sound_suite}
use Rattle.suite.specs.Outcome.{Outcome, answered, refused}
use Rattle.suite.specs.OutcomeLaws.{not_both}
use Rattle.suite.specs.Calls.{Call, lookup, insert, update, remove, neighbours, Result, answers, written, write_set, passed, call_of}
use Rattle.suite.specs.Accepted.{name_of, value_of, needed_of, new_version, judged_fine}
use Rattle.suite.specs.Requests.{read_set}
use Rattle.suite.specs.Agree.{settled, call_sound, step_refused, step_answered, step_reads}
use Rattle.suite.specs.Kept.{call_kept}
use Rattle.suite.specs.Rows.{survey_of}
use Rattle.suite.specs.declared.Suite.{Suite}
use Rattle.history.specs.Directory.{Directory}
use Rattle.history.specs.Directory as plain
use Rattle.history.specs.DirectoryLaws.{insert_here, insert_other, update_here, update_other}
use Rattle.history.specs.Run.{applied, follow}
use Rattle.history.specs.Told.{own_refusal, presence_refusal, fits_one, limits, limit_refusal, first, told_of, values_of}
use Rattle.history.specs.Held.{Held}
use Rattle.history.specs.Puts.{put-held}
use Rattle.history.proofs.Removal.{removal-held, true-predecessor, true-successor}
use Rattle.history.proofs.Settled.{told, put-readings, surveyed-remove}
use Rattle.history.specs.Goes.{Accepted}

-- what is answered passes every refusal
passed-zero : (n : ℕ) (o : Outcome) (vs : List ℕ) → passed n o ≡ answered vs → n ≡ 0
passed-zero n o vs = go (eqb n 0) refl
  where
    go : (t : Bool) → eqb n 0 ≡ t → cond t o (refused n) ≡ answered vs → n ≡ 0
    go true e h = eqb-true n 0 e
    go false e h = not_both vs n (sym h)

-- the first refusal is none where both are none
pub first-zero : (a b : ℕ) → first a b ≡ 0 → (a ≡ 0) × (b ≡ 0)
first-zero a b = go (eqb a 0) refl
  where
    go : (t : Bool) → eqb a 0 ≡ t → cond t b a ≡ 0 → (a ≡ 0) × (b ≡ 0)
    go true e h = (eqb-true a 0 e, h)
    go false e h = absurd (eqb-false a 0 e h)

limits-zero : (version : ℕ) (fit : Bool) → limits version fit ≡ 0 → fit ≡ true
limits-zero version true h = refl
limits-zero version false h = go (ltb largest_version version) h
  where
    go : (t : Bool) → ◌≡◌ {A = ℕ} (cond t 12 13) 0 → false ≡ true
    go true e = absurd (omega arith)
    go false e = absurd (omega arith)

module _ {s : Suite} {d : Directory} (h : Held s d) where
  pub accepted : (c : Call) (vs : List ℕ) → settled s c ≡ answered vs → Accepted s d c
  unfolding told_of
  accepted c vs e =
      let z = passed-zero (first (own_refusal s c) (first (presence_refusal d c) (limit_refusal s d c))) (answered (values_of s d c)) vs (sym (told h c) ∙ e) in
      let a = first-zero (own_refusal s c) (first (presence_refusal d c) (limit_refusal s d c)) z in
      let b = first-zero (presence_refusal d c) (limit_refusal s d c) a.1 in
      record {
        fine = judged_fine (ballots s) s.read (needed_of s.write c) (name_of c) (value_of c) (read_set c) (write_set c) a.0;
        presence = b.0;
        fits = limits-zero (new_version c (answers s c)) (all (fits_one d c) (chosen (tiles s) (write_set c))) b.1;
      }

  -- the suite after an accepted call
  abbrev next : Call → Suite
  next c = with_tiles s (changed (written c (answers s c)) (tiles s) (write_set c))

  there : (x : ℕ) → presence_refusal d (update 0 0 x 0) ≡ 0 → plain.present d x ≡ true
  there x e = go (plain.present d x) e
    where
      go : (t : Bool) → ◌≡◌ {A = ℕ} (cond t 0 11) 0 → t ≡ true
      go true e = refl
      go false e = absurd (omega arith)

  changed-held : (c : Call) (vs : List ℕ) → settled s c ≡ answered vs → Accepted s d c → sound_suite (next c) ≡ true → Held (next c) (applied d c)
  unfolding answers survey_of
  changed-held (lookup rs x) vs e a k =
      subst (λ t. Held t d) (sym (step_reads s (lookup rs x) refl) ∙ ap (λ (r : Result). r.suite) (step_answered s (lookup rs x) vs e)) h
  changed-held (neighbours rs x) vs e a k =
      subst (λ t. Held t d) (sym (step_reads s (neighbours rs x) refl) ∙ ap (λ (r : Result). r.suite) (step_answered s (neighbours rs x) vs e)) h
  changed-held (insert rs ws x v) vs e a k =
      let f = a.fine in
      put-held h rs ws x v f.name f.read-votes f.write-votes (answers s (insert rs ws x v)) (put-readings s rs ws x) a.fits
      (insert_here d x v) (insert_other d x v) k
  changed-held (update rs ws x v) vs e a k =
      let f = a.fine in
      put-held h rs ws x v f.name f.read-votes f.write-votes (answers s (update rs ws x v)) (put-readings s rs ws x) a.fits
      (update_here d x v (there x a.presence)) (update_other d x v) k
  changed-held (remove rs ws x) vs e a k =
      let f = a.fine in
      let t = survey_of (answers s (remove rs ws x)) in
      let v = surveyed-remove h rs ws x f.name f.read-votes in
      let p = true-predecessor h rs x f.name t v in
      let n = true-successor h rs x f.name t v in
      let same : all (fits_one d (remove rs ws x)) (chosen (tiles s) ws) ≡ all (λ m. fits_coalesce m t.below.end t.above.end) (chosen (tiles s) ws) =
      λ j. all (λ m. fits_coalesce m (p j) (n j)) (chosen (tiles s) ws) in
      removal-held h rs ws x f.name f.read-votes f.write-votes t v (sym same ∙ a.fits) k

  pub call-held : (c : Call) → Held (call_of s c).suite (follow d c (call_of s c).outcome)
  call-held c = go (settled s c) refl
    where
      Goes : Result → Type 0
      Goes r = Held r.suite (follow d c r.outcome)

      go : (o : Outcome) → settled s c ≡ o → Goes (call_of s c)
      go (refused n) e = subst Goes (sym (call_sound s c h.sound ∙ step_refused s c n e)) h
      go (answered vs) e =
          let is = call_sound s c h.sound ∙ step_answered s c vs e in
          let k = ap (λ (r : Result). sound_suite r.suite) (sym is) ∙ call_kept s c h.sound in
          subst Goes (sym is) (changed-held c vs e (accepted c vs e) k)
