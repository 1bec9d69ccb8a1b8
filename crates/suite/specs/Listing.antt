-- The thirteen lines of the paper's listing, as calls: one table, and one theorem over it from the definitions.
use Rattle.std.specs.Prelude.{◌≡◌, refl, List, [], ◌∷◌, ℕ}
use Rattle.member.specs.Tile.{reading_in, holding}
use Rattle.member.specs.Search.{seat_in, next_in, below_end, past_end}
use Rattle.member.specs.Rounds.{last_offer, first_offer, offer_below_of, offer_above_of}
use Rattle.member.specs.Sound.{sound_member, ascends, in_range, all_none, is_none}
use Rattle.member.specs.Change.{write_of, written, coalesce_of, coalesced, written_end, cleared, gap_set, fits_write, fits_coalesce}
use Rattle.suite.specs.Best.{best, best_from}
use Rattle.suite.specs.Sets.{chosen, changed, total, all}
use Rattle.suite.specs.Suite.{sound_suite}
use Rattle.suite.specs.Outcome.{Outcome, answered, refused}
use Rattle.suite.specs.Calls.{Call, lookup, insert, remove, neighbours, Result, call_of, step_of, settle, answers, rounds, asked, picked, judged, judged_votes, granted}
use Rattle.suite.specs.Create.{blank, create_of, fresh_suite}
use Rattle.suite.specs.declared.Suite.{Suite}

-- a line of the listing: it makes a suite, or calls the one that is there
pub data Line : Type 0 where
  makes : ℕ → ℕ → List ℕ → Line
  calls : Call → Line

-- a row of the table: a line, and what it comes to
pub record Told : Type 0 where
  pub line : Line
  pub outcome : Outcome

infix 70 ◌→→◌
abbrev ◌→→◌ : Line → Outcome → Told
l →→ o = record { line = l; outcome = o }

-- Insert and remove answer version and requests; lookup present, version, value and requests; neighbours the predecessor's and
-- the successor's name plus 1, and requests. The listing shows some of these numbers.
abbrev pub listing : List Told
listing =
    makes 2 2 (1 ∷ 1 ∷ 1 ∷ []) →→ answered []
    ∷ calls (insert 3 3 20 7) →→ answered (1 ∷ 4 ∷ [])
    ∷ calls (lookup 6 20) →→ answered (1 ∷ 1 ∷ 7 ∷ 2 ∷ [])
    ∷ calls (insert 6 6 10 3) →→ answered (1 ∷ 4 ∷ [])
    ∷ calls (insert 5 5 30 9) →→ answered (1 ∷ 4 ∷ [])
    ∷ calls (remove 5 6 20) →→ answered (2 ∷ 6 ∷ [])
    ∷ calls (lookup 3 20) →→ answered (0 ∷ 2 ∷ 0 ∷ 2 ∷ [])
    ∷ calls (neighbours 3 15) →→ answered (11 ∷ 31 ∷ 4 ∷ [])
    ∷ calls (lookup 3 10) →→ answered (1 ∷ 1 ∷ 3 ∷ 2 ∷ [])
    ∷ calls (insert 3 3 20 8) →→ answered (3 ∷ 4 ∷ [])
    ∷ calls (lookup 5 20) →→ answered (1 ∷ 3 ∷ 8 ∷ 2 ∷ [])
    ∷ calls (remove 5 1 20) →→ refused 9
    ∷ calls (insert 3 3 20 8) →→ refused 10
    ∷ []

abbrev pub result_at : Suite → Line → Result
result_at s (makes r w votes) = create_of r w votes
result_at s (calls c) = call_of s c

-- the lines one after another, each on the suite that the line before left
unfoldable pub told : Suite → List Told → List Told
told s [] = []
told s (t ∷ l) =
    record { line = t.line; outcome = (result_at s t.line).outcome } ∷ told (result_at s t.line).suite l

pub listing_holds : told blank listing ≡ listing
unfolding told create_of fresh_suite call_of step_of settle answers rounds asked picked judged judged_votes granted sound_suite chosen changed total all best best_from reading_in holding seat_in next_in below_end past_end last_offer first_offer offer_below_of offer_above_of sound_member ascends in_range all_none is_none write_of written coalesce_of coalesced written_end cleared gap_set fits_write fits_coalesce
listing_holds = refl
