-- A suite is created exactly when the fresh suite of these numbers is sound.
use Rattle.std.specs.Prelude.{◌≡◌, refl, ◌↔◌, List, [], Bool, true, false, cond, ◌&&◌, ℕ, zero, suc, ◌-◌, length, take, drop, replicate}
use Rattle.std.proofs.Common.{sym, ap, ◌∙◌}
use Rattle.std.proofs.Math.Seq.{take-append_seam, drop-append_seam}
use Rattle.std.proofs.Math.Dec.{leb}
use Rattle.member.specs.Tile.{fresh_tile}
use Rattle.member.specs.Sound.{sound_member}
use Rattle.member.specs.SoundLaws.{fresh_sound}
use Rattle.suite.specs.Sets.{total, all}
use Rattle.suite.specs.Suite.{small_vote, no_vote, quorum, is_fresh, sound_suite}
use Rattle.suite.specs.Outcome.{answered, refused}
use Rattle.suite.specs.OutcomeLaws.{not_both}
use Rattle.suite.specs.Calls.{Result}
use Rattle.suite.specs.Create.{fresh_suite, not_created, create_of}
use Rattle.suite.specs.declared.Suite.{Suite}

-- what is the same all along passes a test all along
all_take : {A : Type 0} (f : A → Bool) (a : A) → f a ≡ true → (n k : ℕ) → all f (take n (replicate k a)) ≡ true
unfolding all
all_take f a h zero k = refl
all_take f a h (suc n) zero = refl
all_take f a h (suc n) (suc k) = rw h (all_take f a h n k)

all_drop : {A : Type 0} (f : A → Bool) (a : A) → f a ≡ true → (n k : ℕ) → all f (drop n (replicate k a)) ≡ true
unfolding all
all_drop f a h zero zero = refl
all_drop f a h zero (suc k) = rw h (all_drop f a h zero k)
all_drop f a h (suc n) zero = refl
all_drop f a h (suc n) (suc k) = all_drop f a h n k

fresh_is : is_fresh fresh_tile ≡ true
fresh_is = rw fresh_sound

-- none of the refusals 2 to 4
abbrev pub creatable : ℕ → ℕ → List ℕ → Bool
creatable r w votes = (leb 1 (length votes) && leb (length votes) 8) && (all small_vote votes && quorum r w (total votes))

regroup : (a b c d : Bool) → (a && (b && ((c && true) && (d && true)))) ≡ ((a && b) && (c && d))
regroup false b c d = refl
regroup true false c d = refl
regroup true true false d = refl
regroup true true true false = refl
regroup true true true true = refl

pub fresh_suite_sound : (r w : ℕ) (votes : List ℕ) → sound_suite (fresh_suite r w votes) ≡ creatable r w votes
unfolding sound_suite fresh_suite
fresh_suite_sound r w votes =
    let n = length votes in
    rw (
      take-append_seam votes (replicate (8 - n) 0),
      drop-append_seam votes (replicate (8 - n) 0),
      all_drop no_vote 0 refl 0 (8 - n),
      all_take sound_member fresh_tile fresh_sound n 8,
      all_drop is_fresh fresh_tile fresh_is n 8,
    ) (regroup (leb 1 n) (leb n 8) (all small_vote votes) (quorum r w (total votes)))

abbrev tested : Bool → Bool → Bool → Suite → Result
tested a b c s =
    cond a (cond b (cond c (record { outcome = answered []; suite = s }) (not_created 4)) (not_created 3)) (not_created 2)

tested_passes : (a b c : Bool) (s : Suite) → (a && (b && c)) ≡ true → tested a b c s ≡ record { outcome = answered []; suite = s }
tested_passes false b c s h = not_both [] 0 (ap (λ t. cond t (refused 0) (answered [])) h)
tested_passes true false c s h = not_both [] 0 (ap (λ t. cond t (refused 0) (answered [])) h)
tested_passes true true false s h = not_both [] 0 (ap (λ t. cond t (refused 0) (answered [])) h)
tested_passes true true true s h = refl

tested-passed : (a b c : Bool) (s : Suite) → (tested a b c s).outcome ≡ answered [] → (a && (b && c)) ≡ true
tested-passed false b c s h = not_both [] 2 (sym h)
tested-passed true false c s h = not_both [] 3 (sym h)
tested-passed true true false s h = not_both [] 4 (sym h)
tested-passed true true true s h = refl

module _ (r w : ℕ) (votes : List ℕ) where
  created-when : sound_suite (fresh_suite r w votes) ≡ true → create_of r w votes ≡ record { outcome = answered []; suite = fresh_suite r w votes }
  unfolding create_of
  created-when h =
      tested_passes (leb 1 (length votes) && leb (length votes) 8) (all small_vote votes) (quorum r w (total votes)) (fresh_suite r w votes)
      (sym (fresh_suite_sound r w votes) ∙ h)

  created-only : (create_of r w votes).outcome ≡ answered [] → sound_suite (fresh_suite r w votes) ≡ true
  unfolding create_of
  created-only h =
      fresh_suite_sound r w votes
      ∙ tested-passed (leb 1 (length votes) && leb (length votes) 8) (all small_vote votes) (quorum r w (total votes)) (fresh_suite r w votes) h

  -- accepted exactly when the fresh suite is sound
  pub created-iff : ((create_of r w votes).outcome ≡ answered []) ↔ (sound_suite (fresh_suite r w votes) ≡ true)
  created-iff = (created-only, λ h. ap (λ (c : Result). c.outcome) (created-when h))

  pub created-is : (create_of r w votes).outcome ≡ answered [] → (create_of r w votes).suite ≡ fresh_suite r w votes
  created-is h = ap (λ (c : Result). c.suite) (created-when (created-only h))

  pub created-sound : (create_of r w votes).outcome ≡ answered [] → sound_suite (create_of r w votes).suite ≡ true
  created-sound h = rw (created-is h) (created-only h)
