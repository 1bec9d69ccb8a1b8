-- The parts of a suite's soundness.
use Rattle.std.specs.Prelude.{◌≡◌, refl, Bool, true, false, ◌&&◌, ℕ, ◌+◌, ◌≤◌, ◌<◌, drop, leb, ltb}
use Rattle.std.proofs.Math.Bool.{and-eq-true_iff}
use Rattle.std.proofs.Common.{leb-true, ltb-true, le-leb}
use Rattle.member.specs.Sound.{sound_member}
use Rattle.suite.specs.Sets.{total, all}
use Rattle.suite.specs.Suite.{tiles, ballots, small_vote, no_vote, quorum, is_fresh, frame_of, sound_frame, sound_suite}
use Rattle.suite.specs.declared.Suite.{Suite}

pub record SuiteParts (s : Suite) : Type 0 where
  pub some : 1 ≤ s.count
  pub few : s.count ≤ 8
  pub small-votes : all small_vote (ballots s) ≡ true
  pub no-votes : all no_vote (drop s.count s.votes) ≡ true
  pub quorum-holds : quorum s.read s.write (total (ballots s)) ≡ true
  pub sound-members : all sound_member (tiles s) ≡ true
  pub fresh-places : all is_fresh (drop s.count s.members) ≡ true

pub suite_parts : (s : Suite) → sound_suite s ≡ true → SuiteParts s
unfolding sound_suite
suite_parts s h =
    let a = leb 1 s.count in
    let b = leb s.count 8 in
    let c = all small_vote (ballots s) in
    let d = all no_vote (drop s.count s.votes) in
    let e = quorum s.read s.write (total (ballots s)) in
    let f = all sound_member (tiles s) in
    let g = all is_fresh (drop s.count s.members) in
    let h₁ = (and-eq-true_iff a (b && ((c && d) && (e && (f && g))))).0 h in
    let h₂ = (and-eq-true_iff b ((c && d) && (e && (f && g)))).0 h₁.1 in
    let h₃ = (and-eq-true_iff (c && d) (e && (f && g))).0 h₂.1 in
    let h₄ = (and-eq-true_iff e (f && g)).0 h₃.1 in
    let v = (and-eq-true_iff c d).0 h₃.0 in
    let m = (and-eq-true_iff f g).0 h₄.1 in
    record {
      some = leb-true 1 s.count h₁.0;
      few = leb-true s.count 8 h₂.0;
      small-votes = v.0;
      no-votes = v.1;
      quorum-holds = h₄.0;
      sound-members = m.0;
      fresh-places = m.1;
    }

pub suite_of_lem : (s : Suite) → SuiteParts s → sound_suite s ≡ true
unfolding sound_suite
suite_of_lem s p =
    rw (
      le-leb 1 s.count p.some,
      le-leb s.count 8 p.few,
      p.small-votes,
      p.no-votes,
      p.quorum-holds,
      p.sound-members,
      p.fresh-places,
    )

-- 1 ≤ R ≤ V, 1 ≤ W ≤ V, R + W > V
pub record Quorum (r w v : ℕ) : Type 0 where
  pub read_some : 1 ≤ r
  pub read-most : r ≤ v
  pub write-some : 1 ≤ w
  pub write-most : w ≤ v
  pub meets : v < r + w

pub quorum_parts : (r w v : ℕ) → quorum r w v ≡ true → Quorum r w v
quorum_parts r w v h =
    let a = leb 1 r in
    let b = leb r v in
    let c = leb 1 w in
    let d = leb w v in
    let e = ltb v (r + w) in
    let h₁ = (and-eq-true_iff a (b && (c && (d && e)))).0 h in
    let h₂ = (and-eq-true_iff b (c && (d && e))).0 h₁.1 in
    let h₃ = (and-eq-true_iff c (d && e)).0 h₂.1 in
    let h₄ = (and-eq-true_iff d e).0 h₃.1 in
    record {
      read_some = leb-true 1 r h₁.0;
      read-most = leb-true r v h₂.0;
      write-some = leb-true 1 w h₃.0;
      write-most = leb-true w v h₄.0;
      meets = ltb-true v (r + w) h₄.1;
    }

-- the frame and the members, apart
pub suite_apart : (s : Suite) → sound_suite s ≡ sound_frame (frame_of s) && (all sound_member (tiles s) && all is_fresh (drop s.count s.members))
unfolding sound_suite sound_frame
suite_apart s =
    regrouped (leb 1 s.count) (leb s.count 8) (all small_vote (ballots s) && all no_vote (drop s.count s.votes))
    (quorum s.read s.write (total (ballots s))) (all sound_member (tiles s) && all is_fresh (drop s.count s.members))
  where
    regrouped : (a b c d e : Bool) → (a && (b && (c && (d && e)))) ≡ ((a && (b && (c && d))) && e)
    regrouped false b c d e = refl
    regrouped true false c d e = refl
    regrouped true true false d e = refl
    regrouped true true true d e = refl
