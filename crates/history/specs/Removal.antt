-- What the rounds of a read set came to, where the invariant holds.
use Rattle.std.specs.Prelude.{◌≡◌, ℕ, suc, length}
use Rattle.member.specs.Places.{place, space_above, hi_place, version, LowerEnd, UpperEnd}
use Rattle.suite.specs.Suite.{tiles, ballots}
use Rattle.suite.specs.declared.Suite.{Suite}
use Rattle.suite.specs.declared.rounds.Survey.{Survey}
use Rattle.ideal.specs.Votes.{In}
use Rattle.ideal.specs.Best.{Best}
use Rattle.history.specs.Directory.{Directory}
use Rattle.history.specs.Asked.{named}
use Rattle.history.specs.Members.{shown}
use Rattle.history.specs.Held.{Held}
use Rattle.history.specs.Near.{FoundEnd}

-- What the rounds of a read set came to: the reading at x and both sides, all the ideal tile's.
pub record Surveyed {s : Suite} {d : Directory} (h : Held s d) (set x : ℕ) (t : Survey) : Type 0 where
  pub winner : ℕ
  pub best : Best (λ j. version (shown (tiles s) j (place (suc x)))) (In (named set)) (length (ballots s)) winner
  pub reading : t.reading ≡ shown (tiles s) winner (place (suc x))
  pub low : FoundEnd h.ideal (space_above x) (λ f. LowerEnd f (place (suc x))) t.lower t.below
  pub up : FoundEnd h.ideal (space_above (suc x)) (λ f. UpperEnd hi_place f (place (suc x))) t.upper t.above
