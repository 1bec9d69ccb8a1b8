-- The invariant between a suite and the plain directory: beside the members stands the ideal tile, which says of each name what
-- the plain directory says. It appears in no statement; whatever begins with it goes on with it.
use Rattle.std.specs.Prelude.{◌≡◌, refl, List, map, true, ℕ, suc, ◌+◌, ◌≤◌, ◌<◌, length}
use Rattle.std.proofs.Common.{ap, subst, ◌∙◌, arith}
use Rattle.member.specs.Limits.{largest_name}
use Rattle.member.specs.Tile.{fresh_tile, reading_of}
use Rattle.member.specs.Places.{place, hi_place, version, Shown}
use Rattle.member.specs.ReadingLaws.{reading_is}
use Rattle.member.specs.declared.Member.{Member}
use Rattle.member.specs.declared.Reading.{Reading}
use Rattle.member.specs.declared.Reading.TheVariants.{Entry, Gap}
use Rattle.suite.specs.Best.{best}
use Rattle.suite.specs.Sets.{chosen, total, votes_of}
use Rattle.suite.specs.Suite.{tiles, ballots, sound_suite}
use Rattle.suite.specs.Calls.{Marked, picked, its_reading, version_of, newest}
use Rattle.suite.specs.declared.Suite.{Suite}
use Rattle.ideal.specs.Votes.{In, Voting, Reads, Writes}
use Rattle.ideal.specs.Best.{Best, best-same}
use Rattle.ideal.specs.Invariant.{Inv}
use Rattle.ideal.proofs.Seen.{seen}
use Rattle.ideal.proofs.Lookup as theory
use Rattle.ideal.specs.Forget.{present, value_at}
use Rattle.history.specs.Directory.{Directory}
use Rattle.history.specs.Directory as plain
use Rattle.history.specs.Asked.{named}
use Rattle.history.specs.Members.{member_at, shown, voting_of, weight_set}
use Rattle.history.specs.Picks.{pick, by_key, key_ranks, key_best}

pub record Held (s : Suite) (d : Directory) : Type 0 where
  pub sound : sound_suite s ≡ true
  pub each : length (tiles s) ≡ length (ballots s)
  pub overlap : total (ballots s) < s.read + s.write
  pub ideal : Shown
  pub inv : Inv (voting_of (ballots s) s.read s.write overlap) hi_place (shown (tiles s)) ideal
  pub presence : (n : ℕ) → n ≤ largest_name → present ideal n ≡ plain.present d n
  pub value : (n : ℕ) → n ≤ largest_name → value_at ideal n ≡ plain.value_of d n

-- the voting of a suite so held
abbrev pub voting_in : {s : Suite} {d : Directory} → Held s d → Voting
voting_in {s} h = voting_of (ballots s) s.read s.write h.overlap

pub version_is : (r : Reading) → version_of r ≡ version r
version_is (Entry v x) = refl
version_is (Gap v) = refl

-- W votes make a write set
pub writes : {s : Suite} {d : Directory} (h : Held s d) (set : ℕ) → s.write ≤ votes_of (ballots s) set → Writes (voting_in h) (named set)
writes {s} h set k = omega (arith, weight_set (ballots s) set)

-- R votes make a read set
module _ {s : Suite} {d : Directory} (h : Held s d) (set : ℕ) (enough : s.read ≤ votes_of (ballots s) set) where
  pub reads : Reads (voting_in h) (named set)
  reads = omega (arith, weight_set (ballots s) set)

  -- a read set names someone
  pub someone : (i : ℕ) × (i < length (tiles s)) × (named set i ≡ true)
  someone = let t = seen h.inv (named set) reads 0 (omega arith) in (t.0, omega (arith, t.1, h.each), t.2)

  -- the best of the set's answers by a key
  pub won : {A : Type 0} (key : A → ℕ) (f : Member → A) (a : A) →
      (i : ℕ) × Best (λ j. key (f (member_at (tiles s) j))) (In (named set)) (length (ballots s)) i
      × (best (by_key key) a (map f (chosen (tiles s) set)) ≡ f (member_at (tiles s) i))
  won key f a =
      let j = someone in
      let p = pick (key_ranks key) f fresh_tile a (tiles s) set j.0 j.1 j.2 in
      (p.0, subst (λ n. Best (λ j. key (f (member_at (tiles s) j))) (In (named set)) n p.0) h.each (key_best key f fresh_tile (tiles s) set p.0 p.1), p.2)

  -- Lookup: the newest reading in a read set's answers is the ideal tile's.
  module _ (x : ℕ) (name : x ≤ largest_name) (l : List Marked) (are : picked its_reading l ≡ map (λ m. reading_of m x) (chosen (tiles s) set)) where
    pub newest-won : (i : ℕ) × Best (λ j. version (shown (tiles s) j (place (suc x)))) (In (named set)) (length (ballots s)) i
        × (newest l ≡ shown (tiles s) i (place (suc x)))
    newest-won =
        let w = won version_of (λ m. reading_of m x) (Gap 0) in
        let i = w.0 in (
          i,
          best-same (λ j m. (λ t. t, λ t. t)) (λ j m n. version_is (reading_of (member_at (tiles s) j) x) ∙ ap version (reading_is (member_at (tiles s) j) x name)) w.1,
          ap (best (by_key version_of) (Gap 0)) are ∙ (w.2 ∙ reading_is (member_at (tiles s) i) x name),
        )

    pub newest-is : newest l ≡ h.ideal (place (suc x))
    newest-is = let w = newest-won in w.2 ∙ theory.lookup h.inv (named set) reads (place (suc x)) (omega arith) w.1
