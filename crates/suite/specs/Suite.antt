-- A suite's members and votes, and when it is sound.
use Rattle.std.specs.Prelude.{List, ◌++◌, Bool, ◌&&◌, ℕ, ◌+◌, length, take, drop, leb, ltb, eqb}
use Rattle.member.specs.Tile.{entries}
use Rattle.member.specs.Sound.{sound_member}
use Rattle.member.specs.declared.Member.{Member}
use Rattle.suite.specs.Sets.{total, all}
use Rattle.suite.specs.declared.Suite.{Suite}
use Rattle.suite.specs.declared.Frame.{Frame}

-- a count past the last place counts as all places
abbrev pub tiles : Suite → List Member
tiles s = take s.count s.members

abbrev pub ballots : Suite → List ℕ
ballots s = take s.count s.votes

-- a suite without its members
abbrev pub frame_of : Suite → Frame
frame_of s = record { votes = s.votes; read = s.read; write = s.write; count = s.count }

abbrev pub ballots_in : Frame → List ℕ
ballots_in f = take f.count f.votes

-- the suite with these members in place of its own
abbrev pub with_tiles : Suite → List Member → Suite
with_tiles s l =
    record { members = l ++ drop s.count s.members; votes = s.votes; read = s.read; write = s.write; count = s.count }

abbrev pub largest_vote : ℕ
largest_vote = 15

abbrev pub small_vote : ℕ → Bool
small_vote v = leb v largest_vote

abbrev pub no_vote : ℕ → Bool
no_vote v = eqb v 0

-- 1 ≤ R ≤ V, 1 ≤ W ≤ V, R + W > V
abbrev pub quorum : ℕ → ℕ → ℕ → Bool
quorum r w v = leb 1 r && (leb r v && (leb 1 w && (leb w v && ltb v (r + w))))

-- an unused place holds zero, which is a fresh member
abbrev pub is_fresh : Member → Bool
is_fresh m = sound_member m && (eqb (length (entries m)) 0 && eqb m.low 0)

-- what soundness asks of a suite without its members
unfoldable pub sound_frame : Frame → Bool
sound_frame f =
    leb 1 f.count
    && (leb f.count 8
    && ((all small_vote (ballots_in f) && all no_vote (drop f.count f.votes))
    && quorum f.read f.write (total (ballots_in f))))

-- A suite is sound when 1 to 8 members exist, votes are at most 15, 1 ≤ R ≤ V, 1 ≤ W ≤ V, R + W > V, every member obeys the
-- rules and ranges, and unused places and votes hold zero.
unfoldable pub sound_suite : Suite → Bool
sound_suite s =
    leb 1 s.count
    && (leb s.count 8
    && ((all small_vote (ballots s) && all no_vote (drop s.count s.votes))
    && (quorum s.read s.write (total (ballots s))
    && (all sound_member (tiles s) && all is_fresh (drop s.count s.members)))))
