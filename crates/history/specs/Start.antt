-- The invariant holds of a fresh suite, with the empty directory.
use Rattle.std.specs.Prelude.{◌≡◌, refl, List, [], true, ℕ, zero, suc, ◌+◌, ◌-◌, ◌≤◌, ◌<◌, take, replicate}
use Rattle.std.proofs.Common.{sym, subst, ◌∙◌, arith}
use Rattle.std.proofs.Math.Path.{ap}
use Rattle.std.proofs.Math.ListN.{length, length-take}
use Rattle.std.proofs.Math.Seq.{take-append_seam}
use Rattle.member.specs.Limits.{high}
use Rattle.member.specs.Tile.{fresh_tile}
use Rattle.member.specs.Places.{place, hi_place, at_place, Shown}
use Rattle.member.specs.ReadingLaws.{Order, less, same, more, order, at_low, at_high, at_rows, read_nil}
use Rattle.suite.specs.Sets.{total}
use Rattle.suite.specs.Suite.{tiles, ballots, sound_suite}
use Rattle.suite.specs.SuiteLaws.{suite_parts, quorum_parts}
use Rattle.suite.specs.Outcome.{answered}
use Rattle.suite.specs.Create.{fresh_suite, create_of}
use Rattle.suite.specs.CreateLaws.{created-is, created-sound}
use Rattle.ideal.specs.Invariant.{Inv}
use Rattle.ideal.specs.Start.{fresh, fresh_gap, fresh_rules, start}
use Rattle.ideal.specs.Forget.{present, is_entry}
use Rattle.ideal.specs.Forget as forget
use Rattle.history.specs.Directory as plain
use Rattle.history.specs.Members.{member_at, shown, voting_of, weight-all}
use Rattle.history.specs.Held.{Held}

-- a fresh member shows the theory's fresh tile
fresh_shows : (z : ℕ) → z ≤ hi_place → at_place fresh_tile z ≡ fresh hi_place z
fresh_shows z l = go (order 0 z) (order z hi_place)
  where
    go : Order 0 z → Order z hi_place → at_place fresh_tile z ≡ fresh hi_place z
    go (same e) o = subst (λ y. at_place fresh_tile y ≡ fresh hi_place y) e (at_low fresh_tile ∙ sym (fresh_rules high (omega arith)).low)
    go (more e) o = absurd (omega arith)
    go (less e) (less k) = at_rows fresh_tile z e k ∙ (read_nil 0 z ∙ sym (fresh_gap hi_place z e k))
    go (less e) (same k) = subst (λ y. at_place fresh_tile y ≡ fresh hi_place y) (sym k) (at_high fresh_tile hi_place (omega arith) ∙ sym (fresh_rules high (omega arith)).high)
    go (less e) (more k) = absurd (omega arith)

all-fresh : (n k i : ℕ) → member_at (take n (replicate k fresh_tile)) i ≡ fresh_tile
all-fresh zero k i = refl
all-fresh (suc n) zero i = refl
all-fresh (suc n) (suc k) zero = refl
all-fresh (suc n) (suc k) (suc i) = all-fresh n k i

module _ (r w : ℕ) (votes : List ℕ) (sound : sound_suite (fresh_suite r w votes) ≡ true) where
  ballots-are : ballots (fresh_suite r w votes) ≡ votes
  unfolding fresh_suite
  ballots-are = take-append_seam votes (replicate (8 - length votes) 0)

  few : length votes ≤ 8
  unfolding fresh_suite
  few = (suite_parts (fresh_suite r w votes) sound).few

  each : length (tiles (fresh_suite r w votes)) ≡ length votes
  unfolding fresh_suite
  each = length-take (length votes) (replicate 8 fresh_tile) ∙ omega (arith, few)

  members-fresh : (i : ℕ) → shown (tiles (fresh_suite r w votes)) i ≡ at_place fresh_tile
  unfolding fresh_suite
  members-fresh i = ap at_place (all-fresh (length votes) 8 i)

  fresh-inv : (o : total (ballots (fresh_suite r w votes)) < (fresh_suite r w votes).read + (fresh_suite r w votes).write) →
      (fresh_suite r w votes).write ≤ total (ballots (fresh_suite r w votes)) →
      Inv (voting_of (ballots (fresh_suite r w votes)) (fresh_suite r w votes).read (fresh_suite r w votes).write o) hi_place
      (shown (tiles (fresh_suite r w votes))) (fresh hi_place)
  fresh-inv o m =
      start high (omega arith) (omega (arith, weight-all (ballots (fresh_suite r w votes)))) (λ i z l k. ap (λ (f : Shown). f z) (members-fresh i) ∙ fresh_shows z k)

  pub fresh-held : Held (fresh_suite r w votes) []
  unfolding plain.present plain.value_of
  fresh-held =
      let s = fresh_suite r w votes in
      let q = quorum_parts s.read s.write (total (ballots s)) (suite_parts s sound).quorum-holds in
      record {
        sound = sound;
        each = each ∙ ap length (sym ballots-are);
        overlap = q.meets;
        ideal = fresh hi_place;
        inv = fresh-inv q.meets q.write-most;
        presence = λ n l. ap is_entry (fresh_gap hi_place (place (suc n)) (omega arith) (omega arith));
        value = λ n l. ap forget.value_of (fresh_gap hi_place (place (suc n)) (omega arith) (omega arith));
      }

pub created-held : (r w : ℕ) (votes : List ℕ) → (create_of r w votes).outcome ≡ answered [] → Held (create_of r w votes).suite []
created-held r w votes e =
    let is = created-is r w votes e in
    subst (λ s. Held s []) (sym is) (fresh-held r w votes (ap sound_suite (sym is) ∙ created-sound r w votes e))
