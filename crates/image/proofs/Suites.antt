-- The suites that can be written and read back are the sound ones.
-- Assumes nothing.
use Prim.Native.Nat.{ℕ, suc, ◌+◌, ◌-◌, ◌*◌, ◌^◌, ◌≤◌, ◌<◌}
use native.Mathlib.Omega.{arith}
use mathlib.Core.Bool.{Bool, true, ◌&&◌, and-eq-true_iff}
use mathlib.Core.Path.{◌≡◌, refl, sym, ap, subst, ◌∙◌}
use mathlib.Core.List.{List, [], ◌∷◌, ◌++◌}
use lib.ListN.{length, take, drop, replicate, length-append, length-replicate, length-drop, take-append-drop}
use lib.Seq.{length-take-le, take_at, drop_at, take-append_seam, drop-append_seam}
use lib.Dec.{eqb}
use borrow.Author.Tests.{leb-true, le-leb, eqb-true, eq-eqb}
use Rattle.member.specs.Limits.{largest_name, slots}
use Rattle.member.specs.Tile.{none, entries, fresh_tile}
use Rattle.member.specs.Sound.{sound_member}
use Rattle.member.specs.SoundLaws.{fresh_sound}
use Rattle.member.specs.declared.Row.{Row}
use Rattle.member.specs.declared.Member.{Member}
use Rattle.suite.specs.Sets.{total, all}
use Rattle.suite.specs.Suite.{tiles, ballots, small_vote, no_vote, quorum, is_fresh, sound_suite}
use Rattle.suite.specs.SuiteLaws.{suite_parts, suite_of_lem, quorum_parts}
use Rattle.suite.specs.declared.Suite.{Suite}
use Rattle.image.specs.Reader.{tile_with}
use Rattle.image.specs.Sized.{has_places, Sized}
use Rattle.image.proofs.All.{all_append, all_replicate, all_take, all_drop, all_same, all_both, each_all, all-each, all_cons}
use Rattle.image.proofs.Shapes.{MemberFits, suite_with, SuiteFits}
use Rattle.image.proofs.Members.{member-fits, member-sound}

-- ---- R and W are at most V, and V is at most 15 for each vote

total_le : (l : List ℕ) → all small_vote l ≡ true → total l ≤ 15 * length l
unfolding total
total_le [] h = omega arith
total_le (v ∷ l) h =
    let p = all_cons small_vote v l h in omega (arith, leb-true v 15 p.0, total_le l p.1)

-- ---- unused places and votes

module _ {A : Type 0} (f : A → Bool) (d : A) (only : (a : A) → f a ≡ true → a ≡ d) where
  -- an array of eight is what it holds of use and then d
  eight : (n : ℕ) (l : List A) → n ≤ 8 → length l ≡ 8 → all f (drop n l) ≡ true
      → l ≡ take n l ++ replicate (8 - length (take n l)) d
  eight n l h k t =
      let m : length (take n l) ≡ n = length-take-le n l (omega arith) in
      let e : length (drop n l) ≡ 8 - length (take n l) = rw (length-drop n l, k, m) refl in
      sym (take-append-drop n l)
      ∙ ap (λ (b : List A). take n l ++ b) (all_same f d only (drop n l) t ∙ ap (λ (i : ℕ). replicate i d) e)

-- eight places, of which those past the first n hold d
length_eight : {A : Type 0} (n : ℕ) (l : List A) (d : A) → length l ≡ n → n ≤ 8 → length (l ++ replicate (8 - length l) d) ≡ 8
length_eight n l d e h = length-append l (replicate (8 - length l) d) ∙ rw (length-replicate (8 - length l) d) (omega arith)

-- a test of a member that has its 32 places
abbrev placed : (Member → Bool) → Member → Bool
placed f m = f m && has_places m

all_placed : (f : Member → Bool) (l : List Member) → all f l ≡ true → all has_places l ≡ true → all (placed f) l ≡ true
all_placed f l h k = all_both f has_places (placed f) (λ m a b. (and-eq-true_iff (f m) (has_places m)).1 (a, b)) l h k

abbrev Whole : Suite → Type 0
Whole s = (sound_suite s ≡ true) × Sized s

-- ---- from a sound suite

module _ (w : ℕ) (names : 2 ^ w ≡ suc largest_name) where
  placed-fits : (m : Member) → placed sound_member m ≡ true → MemberFits w m
  placed-fits m h =
      let p = (and-eq-true_iff (sound_member m) (has_places m)).0 h in
      member-fits w names m p.0 (eqb-true (length m.rows) slots p.1)

  fresh_is : (m : Member) → placed is_fresh m ≡ true → m ≡ fresh_tile
  fresh_is m h =
      let p = (and-eq-true_iff (is_fresh m) (has_places m)).0 h in
      let q = (and-eq-true_iff (sound_member m) (eqb (length (entries m)) 0 && eqb m.low 0)).0 p.0 in
      let r = (and-eq-true_iff (eqb (length (entries m)) 0) (eqb m.low 0)).0 q.1 in
      let t = member-fits w names m q.0 (eqb-true (length m.rows) slots p.1) in
      t.shape ∙ bare m.low (entries m) (eqb-true m.low 0 r.1) (eqb-true (length (entries m)) 0 r.0)
    where
      bare : (g : ℕ) (l : List Row) → g ≡ 0 → length l ≡ 0 → tile_with g l ≡ fresh_tile
      bare g [] e n = λ j. record { low = e j; count = 0; rows = replicate slots none }
      bare g (x ∷ l) e n = absurd (omega arith)

  pub suite-fits : (s : Suite) → sound_suite s ≡ true → Sized s → SuiteFits w s
  suite-fits s h z =
      let p = suite_parts s h in
      let n : s.count - 1 + 1 ≡ s.count = omega (arith, p.some) in
      let nv : length (ballots s) ≡ s.count = length-take-le s.count s.votes (omega (arith, p.few, z.votes)) in
      let nm : length (tiles s) ≡ s.count = length-take-le s.count s.members (omega (arith, p.few, z.members)) in
      let t : total (ballots s) ≤ 15 * length (ballots s) = total_le (ballots s) p.small-votes in
      let q = quorum_parts s.read s.write (total (ballots s)) p.quorum-holds in
      let used = all_placed sound_member (tiles s) p.sound-members (all_take has_places s.count s.members z.rows) in
      let free =
      all_placed is_fresh (drop s.count s.members) p.fresh-places (all_drop has_places s.count s.members z.rows)
      in
      let ev = eight no_vote 0 (λ v e. eqb-true v 0 e) s.count s.votes p.few z.votes p.no-votes in
      let em = eight (placed is_fresh) fresh_tile fresh_is s.count s.members p.few z.members free in
      record {
        count_fits = omega (arith, p.few, p.some);
        read_fits = omega (arith, q.read-most, p.few);
        write_fits = omega (arith, q.write-most, p.few);
        votes-fit = record {
          many = nv ∙ sym n;
          each = all-each small_vote (λ v. v < 2 ^ 4) (λ v. 0) (λ v e. omega (arith, leb-true v 15 e)) 0 (ballots s) p.small-votes;
        };
        enough = p.quorum-holds;
        members-fit = record {
          many = nm ∙ sym nv;
          each = all-each (placed sound_member) (MemberFits w) (λ m. 0) placed-fits 0 (tiles s) used;
        };
        shape = λ j. record { members = em j; votes = ev j; read = s.read; write = s.write; count = sym nv j };
      }

  -- ---- to a sound suite

  fits-sound : (m : Member) → MemberFits w m → sound_member m ≡ true
  fits-sound m h = (member-sound w names m h).0

  fits-placed : (m : Member) → MemberFits w m → has_places m ≡ true
  fits-placed m h = eq-eqb (length m.rows) slots (member-sound w names m h).1

  with_sound : (r u : ℕ) (votes : List ℕ) (ms : List Member) → 1 ≤ length votes → length votes ≤ 8 → length ms ≡ length votes
      → all small_vote votes ≡ true → quorum r u (total votes) ≡ true → all sound_member ms ≡ true → all has_places ms ≡ true
      → Whole (suite_with r u votes ms)
  with_sound r u votes ms h k em small enough sound rows =
      let zv : List ℕ = replicate (8 - length votes) 0 in
      let zm = replicate (8 - length ms) fresh_tile in (
        suite_of_lem (suite_with r u votes ms)
            record {
              some = h;
              few = k;
              small-votes = rw (take-append_seam votes zv) small;
              no-votes = rw (drop-append_seam votes zv) (all_replicate no_vote (8 - length votes) 0 (eq-eqb 0 0 refl));
              quorum-holds = rw (take-append_seam votes zv) enough;
              sound-members = rw (take_at ms zm (length votes) em) sound;
              fresh-places = rw (drop_at ms zm (length votes) em) (all_replicate is_fresh (8 - length ms) fresh_tile ((and-eq-true_iff (sound_member fresh_tile) true).1 (fresh_sound, refl)));
            },
        record {
          members = length_eight (length votes) ms fresh_tile em k;
          votes = length_eight (length votes) votes 0 refl k;
          rows = all_append has_places ms zm rows (all_replicate has_places (8 - length ms) fresh_tile refl);
        },
      )

  pub suite-sound : (s : Suite) → SuiteFits w s → (sound_suite s ≡ true) × Sized s
  suite-sound s h =
      subst Whole (sym h.shape)
      (with_sound s.read s.write (ballots s) (tiles s) (omega (arith, h.votes-fit.many)) (omega (arith, h.count_fits, h.votes-fit.many))
      h.members-fit.many
      (each_all small_vote (λ v. v < 2 ^ 4) (λ v. 0) (λ v e. le-leb v 15 (omega arith)) 0 (ballots s) h.votes-fit.each)
      h.enough
      (each_all sound_member (MemberFits w) (λ m. 0) fits-sound 0 (tiles s) h.members-fit.each)
      (each_all has_places (MemberFits w) (λ m. 0) fits-placed 0 (tiles s) h.members-fit.each))
