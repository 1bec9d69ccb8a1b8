-- The arrays of a suite that can be reached have their lengths, so that its image reads back as that very suite.
use Rattle.std.specs.Prelude.{◌≡◌, refl, List, [], ◌∷◌, ◌++◌, Bool, true, false, ◌&&◌, ℕ, ◌+◌, ◌-◌, ◌≤◌, length, drop, replicate}
use Rattle.std.proofs.Common.{sym, ap, subst, ◌∙◌, arith, length-append, take-append-drop, eqb-true, eq-eqb}
use Rattle.std.proofs.Math.Bool.{and-eq-true_iff}
use Rattle.std.proofs.lemmas.List.{length-replicate}
use Rattle.member.specs.Limits.{slots}
use Rattle.member.specs.SizeLaws.{write-rows, coalesce-rows}
use Rattle.member.specs.declared.Member.{Member}
use Rattle.suite.specs.Sets.{changed, all}
use Rattle.suite.specs.Suite.{tiles, with_tiles, sound_suite}
use Rattle.suite.specs.Outcome.{Outcome, answered, refused}
use Rattle.suite.specs.Calls.{Call, lookup, insert, update, remove, neighbours, Result, answers, written, write_set, call_of}
use Rattle.suite.specs.Create.{fresh_suite}
use Rattle.suite.specs.Agree.{settled, call_sound, step_refused, step_answered}
use Rattle.suite.specs.Kept.{all_changed, length-changed}
use Rattle.suite.specs.declared.Suite.{Suite}
pub use Rattle.image.specs.Sized.{Sized, has_places}

-- a test of all members, in two parts
all_append : {A : Type 0} (f : A → Bool) (a b : List A) → all f (a ++ b) ≡ (all f a && all f b)
unfolding all
all_append f [] b = refl
all_append f (x ∷ a) b = go (f x) (all_append f a b)
  where
    go : (t : Bool) → all f (a ++ b) ≡ (all f a && all f b) → (t && all f (a ++ b)) ≡ ((t && all f a) && all f b)
    go true e = e
    go false e = refl

written_places : (c : Call) (s : Suite) (m : Member) → has_places m ≡ true → has_places (written c (answers s c) m) ≡ true
written_places c s m h = go c
  where
    places : length m.rows ≡ slots
    places = eqb-true (length m.rows) slots h

    has : (n : Member) → length n.rows ≡ slots → has_places n ≡ true
    has n e = eq-eqb (length n.rows) slots e

    go : (c : Call) → has_places (written c (answers s c) m) ≡ true
    go (lookup rs x) = h
    go (neighbours rs x) = h
    go (insert rs ws x v) = let l = answers s (insert rs ws x v) in has (written (insert rs ws x v) l m) (write-rows m places x _ v)
    go (update rs ws x v) = let l = answers s (update rs ws x v) in has (written (update rs ws x v) l m) (write-rows m places x _ v)
    go (remove rs ws x) = let l = answers s (remove rs ws x) in has (written (remove rs ws x) l m) (coalesce-rows m places _ _ _)

after_sized : (s : Suite) (c : Call) → Sized s → Sized (with_tiles s (changed (written c (answers s c)) (tiles s) (write_set c)))
after_sized s c z =
    record {
      members = length-append t u ∙ (rw (length-changed f (tiles s) (write_set c)) (sym (length-append (tiles s) u) ∙ (ap length whole ∙ z.members)));
      votes = z.votes;
      rows = all_append has_places t u ∙ (and-eq-true_iff (all has_places t) (all has_places u)).1 (all_changed has_places f (written_places c s) (tiles s) (write_set c) parts.0, parts.1);
    }
  where
    f : Member → Member
    f = written c (answers s c)

    t : List Member
    t = changed f (tiles s) (write_set c)

    u : List Member
    u = drop s.count s.members

    whole : tiles s ++ u ≡ s.members
    whole = take-append-drop s.count s.members

    parts : (all has_places (tiles s) ≡ true) × (all has_places u ≡ true)
    parts = (and-eq-true_iff (all has_places (tiles s)) (all has_places u)).0 (sym (all_append has_places (tiles s) u) ∙ (ap (all has_places) whole ∙ z.rows))

pub call_sized : (s : Suite) (c : Call) → sound_suite s ≡ true → Sized s → Sized (call_of s c).suite
call_sized s c h z = go (settled s c) refl
  where
    go : (o : Outcome) → settled s c ≡ o → Sized (call_of s c).suite
    go (refused n) e = subst (λ (r : Result). Sized r.suite) (sym (call_sound s c h ∙ step_refused s c n e)) z
    go (answered vs) e = subst (λ (r : Result). Sized r.suite) (sym (call_sound s c h ∙ step_answered s c vs e)) (after_sized s c z)

pub fresh_sized : (r w : ℕ) (votes : List ℕ) → length votes ≤ 8 → Sized (fresh_suite r w votes)
unfolding fresh_suite all
fresh_sized r w votes few =
    record {
      members = refl;
      votes = length-append votes (replicate (8 - length votes) 0) ∙ (ap (λ n. length votes + n) (length-replicate (8 - length votes) 0) ∙ omega arith);
      rows = refl;
    }
