-- A call on a sound suite leaves a sound suite.
use Rattle.member.specs.declared.Bound.{Bound}
use Rattle.std.specs.Prelude.{Option, Some, None}
use Rattle.std.specs.Prelude.{◌≡◌, refl, List, [], ◌∷◌, ◌++◌, Bool, true, false, cond, ℕ, zero, suc, ◌+◌, ◌/◌, ◌%◌, ◌≤◌, length, take, drop, eqb}
use Rattle.std.proofs.Common.{ap, arith}
use Rattle.std.proofs.Math.Bool.{and-eq-true_iff}
use Rattle.member.specs.Limits.{largest_name, largest_version, high}
use Rattle.member.specs.Sound.{sound_member}
use Rattle.member.specs.SoundLaws.{BoundRange, write_sound, coalesce_sound}
use Rattle.member.specs.OfferLaws.{OfferWithin}
use Rattle.member.specs.declared.Member.{Member}
use Rattle.suite.specs.Best.{best}
use Rattle.suite.specs.Sets.{changed, all}
use Rattle.suite.specs.Suite.{tiles, ballots, with_tiles, sound_suite}
use Rattle.suite.specs.Outcome.{Outcome, answered, refused}
use Rattle.suite.specs.Calls.{Call, lookup, insert, update, remove, neighbours, picked, its_offer_below, its_offer_above, nearer, rank_below, rank_above, bound_or, predecessor, successor, rounds, answers, written, write_set, step_of, call_of}
use Rattle.suite.specs.Agree.{settled, call_sound, step_refused, step_answered}
use Rattle.suite.specs.Accepted.{FineCall, settled-fine, new_version, version_fits}
use Rattle.suite.specs.AnswerLaws.{remove-predecessor, remove-successor}
use Rattle.suite.specs.Neighbours.{facing_below, facing_above, found-offer}
use Rattle.suite.specs.SuiteLaws.{suite_parts, suite_of_lem}
use Rattle.suite.specs.declared.Suite.{Suite}

-- The members of the write set are changed, each to a sound one.
pub all_changed : {A : Type 0} (good : A → Bool) (f : A → A) → ((a : A) → good a ≡ true → good (f a) ≡ true)
    → (l : List A) (set : ℕ) → all good l ≡ true → all good (changed f l set) ≡ true
unfolding all changed
all_changed good f h [] set k = refl
all_changed good f h (a ∷ l) set k =
    let p = (and-eq-true_iff (good a) (all good l)).0 k in
    (and-eq-true_iff (good (cond (eqb (set % 2) 1) (f a) a)) (all good (changed f l (set / 2)))).1
    (go (eqb (set % 2) 1) p.0, all_changed good f h l (set / 2) p.1)
  where
    go : (b : Bool) → good a ≡ true → good (cond b (f a) a) ≡ true
    go true e = h a e
    go false e = e

pub length-changed : {A : Type 0} (f : A → A) (l : List A) (set : ℕ) → length (changed f l set) ≡ length l
unfolding changed
length-changed f [] set = refl
length-changed f (a ∷ l) set = ap suc (length-changed f l (set / 2))

-- as many in place of the first n are the first n, and the others stay
take_front : {A : Type 0} (n : ℕ) (l t : List A) → length t ≡ length (take n l) → take n (t ++ drop n l) ≡ t
take_front zero l [] h = refl
take_front zero l (b ∷ t) h = absurd (omega arith)
take_front (suc n) [] [] h = refl
take_front (suc n) [] (b ∷ t) h = absurd (omega arith)
take_front (suc n) (a ∷ l) [] h = absurd (omega arith)
take_front (suc n) (a ∷ l) (b ∷ t) h = ap (λ r. b ∷ r) (take_front n l t (omega arith))

drop_front : {A : Type 0} (n : ℕ) (l t : List A) → length t ≡ length (take n l) → drop n (t ++ drop n l) ≡ drop n l
drop_front zero l [] h = refl
drop_front zero l (b ∷ t) h = absurd (omega arith)
drop_front (suc n) [] [] h = refl
drop_front (suc n) [] (b ∷ t) h = absurd (omega arith)
drop_front (suc n) (a ∷ l) [] h = absurd (omega arith)
drop_front (suc n) (a ∷ l) (b ∷ t) h = drop_front n l t (omega arith)

pub tiles_with : (s : Suite) (t : List Member) → length t ≡ length (tiles s) → tiles (with_tiles s t) ≡ t
tiles_with s t h = take_front s.count s.members t h

with_sound : (s : Suite) (t : List Member) → length t ≡ length (tiles s) → all sound_member t ≡ true → sound_suite s ≡ true → sound_suite (with_tiles s t) ≡ true
with_sound s t h k e =
    let p = suite_parts s e in
    suite_of_lem (with_tiles s t)
    record {
      some = p.some;
      few = p.few;
      small-votes = p.small-votes;
      no-votes = p.no-votes;
      quorum-holds = p.quorum-holds;
      sound-members = rw (tiles_with s t h) k;
      fresh-places = rw (drop_front s.count s.members t h) p.fresh-places;
    }

bound_range : (a c : ℕ) (o : Option Bound) → OfferWithin a c o → BoundRange (bound_or o)
bound_range a c (Some b) w = w.range
bound_range a c None w = record { named = λ p q. absurd (omega arith); version-max = omega arith; value-max = omega arith }

bound_end : (a : ℕ) (o : Option Bound) → OfferWithin a (high + 1) o → (bound_or o).end ≤ high
bound_end a (Some b) w = omega (arith, w.to)
bound_end a None w = omega arith

-- what an accepted call writes to a sound member leaves it sound
written_sound : (s : Suite) (c : Call) (vs : List ℕ) → sound_suite s ≡ true → settled s c ≡ answered vs
    → (m : Member) → sound_member m ≡ true → sound_member (written c (answers s c) m) ≡ true
written_sound s c vs h g m k =
    let p = settled-fine (ballots s) s.read s.write c (answers s c) vs g in
    go c p.0 (version_fits c (answers s c) vs p.1)
  where
    removed : (rs ws x : ℕ) → x ≤ largest_name → new_version (remove rs ws x) (answers s (remove rs ws x)) ≤ largest_version
        → sound_member (written (remove rs ws x) (answers s (remove rs ws x)) m) ≡ true
    removed rs ws x a v =
        let l = answers s (remove rs ws x) in
        let o = best (nearer rank_below) None (picked its_offer_below (rounds s rs x)) in
        let p = best (nearer rank_above) None (picked its_offer_above (rounds s rs x)) in
        let below = found-offer (facing_below x a) s rs h in
        let above = found-offer (facing_above x a) s rs h in
        let end : (successor l).end ≤ high = rw (remove-successor s rs ws x) (bound_end (x + 2) p above) in
        let lower : BoundRange (predecessor l) = rw (remove-predecessor s rs ws x) (bound_range 0 (x + 1) o below) in
        let upper : BoundRange (successor l) = rw (remove-successor s rs ws x) (bound_range (x + 2) (high + 1) p above) in
        coalesce_sound m (predecessor l) (successor l) (new_version (remove rs ws x) l) k end lower upper v

    go : (c : Call) → FineCall (ballots s) s.read s.write c → new_version c (answers s c) ≤ largest_version
        → sound_member (written c (answers s c) m) ≡ true
    go (lookup rs x) f v = k
    go (neighbours rs x) f v = k
    go (insert rs ws x y) f v = write_sound m x (new_version (insert rs ws x y) (answers s (insert rs ws x y))) y k f.name (omega arith) v f.value
    go (update rs ws x y) f v = write_sound m x (new_version (update rs ws x y) (answers s (update rs ws x y))) y k f.name (omega arith) v f.value
    go (remove rs ws x) f v = removed rs ws x f.name v

pub step_kept : (s : Suite) (c : Call) → sound_suite s ≡ true → sound_suite (step_of s c).suite ≡ true
step_kept s c e = go (settled s c) refl
  where
    go : (o : Outcome) → settled s c ≡ o → sound_suite (step_of s c).suite ≡ true
    go (refused n) h = rw (step_refused s c n h) e
    go (answered vs) h =
        let f = written c (answers s c) in
        let t = changed f (tiles s) (write_set c) in
        rw (step_answered s c vs h)
        (with_sound s t (length-changed f (tiles s) (write_set c))
        (all_changed sound_member f (written_sound s c vs e h) (tiles s) (write_set c) (suite_parts s e).sound-members) e)

pub call_kept : (s : Suite) (c : Call) → sound_suite s ≡ true → sound_suite (call_of s c).suite ≡ true
call_kept s c e = rw (call_sound s c e) (step_kept s c e)
