-- The calls: the members' answers come first, and the result is settled from them.
use Rattle.std.specs.Prelude.{Option, Some, None}
use Rattle.std.specs.Prelude as prelude
use Rattle.std.specs.Prelude.{Ok, Err, List, [], ◌∷◌, ◌++◌, Bool, cond, ◌&&◌, ◌||◌, ℕ, suc, ◌+◌, ◌-◌, max, length, ltb, eqb}
use Rattle.member.specs.Limits.{largest_name, largest_value, largest_version, high}
use Rattle.member.specs.Tile.{reading_of}
use Rattle.member.specs.Rounds.{around_of, offer_below_of, offer_above_of, bare}
use Rattle.member.specs.Change.{write_of, coalesce_of, fits_write, fits_coalesce}
use Rattle.member.specs.declared.Member.{Member}
use Rattle.member.specs.declared.Reading.{Reading}
use Rattle.member.specs.declared.Reading.TheVariants.{Entry, Gap}
use Rattle.member.specs.declared.Around.{Around}
use Rattle.member.specs.declared.Side.{Side}
use Rattle.member.specs.declared.Bound.{Bound}
use Rattle.suite.specs.Best.{best}
use Rattle.suite.specs.Sets.{chosen, changed, exists, votes_of, all}
use Rattle.suite.specs.Suite.{tiles, ballots, with_tiles, sound_suite}
use Rattle.suite.specs.Outcome.{Outcome, answered, refused, reading_values, change_of}
use Rattle.suite.specs.declared.Suite.{Suite}
use Rattle.suite.specs.declared.Done.{Done}
use Rattle.suite.specs.declared.Refusal.{Refusal}
use Rattle.suite.specs.Question.{Question}
use Rattle.suite.specs.Question as question
use Rattle.suite.specs.Effect.{Effect}
use Rattle.suite.specs.Effect as effect

-- a call with its own numbers: read set, write set where there is one, name, value
pub data Call : Type 0 where
  lookup : ℕ → ℕ → Call
  insert : ℕ → ℕ → ℕ → ℕ → Call
  update : ℕ → ℕ → ℕ → ℕ → Call
  remove : ℕ → ℕ → ℕ → Call
  neighbours : ℕ → ℕ → Call

-- a member's answer: its reading; its answers of round one and of round two, below and above; whether a written call fits it
pub data Answer : Type 0 where
  reads : Reading → Answer
  sees : Around → Answer
  offers : Option Bound → Option Bound → Answer
  fits : Bool → Answer

-- the member's answer to a question
abbrev pub answer_to : Question → Member → Answer
answer_to (question.Reading x) m = reads (reading_of m x)
answer_to (question.Around x) m = sees (around_of m x)
answer_to (question.Offers x b a) m = offers (offer_below_of m x b.end b.version) (offer_above_of m x a.end a.version)
answer_to (question.FitsWrite x) m = fits (fits_write m x)
answer_to (question.FitsCoalesce p s) m = fits (fits_coalesce m p s)

-- each answer marked with its member
pub record Marked : Type 0 where
  pub member : ℕ
  pub answer : Answer

-- every member's answer to one question, in order
unfoldable pub asked : Question → ℕ → List Member → List Marked
asked q i [] = []
asked q i (m ∷ l) = record { member = i; answer = answer_to q m } ∷ asked q (suc i) l

-- the answers of the members that the set names
abbrev pub asked_of : Suite → ℕ → Question → List Marked
asked_of s set q = chosen (asked q 0 (tiles s)) set

-- the answers of one kind in a list
unfoldable pub picked : {A : Type 0} → (Answer → List A) → List Marked → List A
picked f [] = []
picked f (a ∷ l) = f a.answer ++ picked f l

abbrev pub its_reading : Answer → List Reading
its_reading (reads r) = r ∷ []
its_reading (sees a) = a.reading ∷ []
its_reading (offers o p) = []
its_reading (fits b) = []

abbrev pub its_below : Answer → List Side
its_below (reads r) = []
its_below (sees a) = a.below ∷ []
its_below (offers o p) = []
its_below (fits b) = []

abbrev pub its_above : Answer → List Side
its_above (reads r) = []
its_above (sees a) = a.above ∷ []
its_above (offers o p) = []
its_above (fits b) = []

abbrev pub its_offer_below : Answer → List (Option Bound)
its_offer_below (reads r) = []
its_offer_below (sees a) = []
its_offer_below (offers o p) = o ∷ []
its_offer_below (fits b) = []

abbrev pub its_offer_above : Answer → List (Option Bound)
its_offer_above (reads r) = []
its_offer_above (sees a) = []
its_offer_above (offers o p) = p ∷ []
its_offer_above (fits b) = []

abbrev pub its_fit : Answer → List Bool
its_fit (reads r) = []
its_fit (sees a) = []
its_fit (offers o p) = []
its_fit (fits b) = b ∷ []

abbrev pub all_fit : List Marked → Bool
all_fit l = all (λ b. b) (picked its_fit l)

-- Lookup: the reading with the highest version; on a tie the lowest-numbered member's.
abbrev pub version_of : Reading → ℕ
version_of (Entry v x) = v
version_of (Gap v) = v

abbrev pub newer : Reading → Reading → Bool
newer b a = ltb (version_of a) (version_of b)

abbrev pub newest : List Marked → Reading
newest l = best newer (Gap 0) (picked its_reading l)

-- Neighbours, round one. Below: v is the highest gap version and k that member's lower end (lowest-numbered on a tie). Above the same.
abbrev pub higher : Side → Side → Bool
higher b a = ltb a.version b.version

abbrev pub no_side : Side
no_side = record { version = 0; end = 0 }

abbrev pub gap_below_in : List Marked → Side
gap_below_in l = best higher no_side (picked its_below l)

abbrev pub gap_above_in : List Marked → Side
gap_above_in l = best higher no_side (picked its_above l)

-- Round two. The predecessor is the greatest of these names, with the highest version among those offering it and, on a tie,
-- the lowest-numbered member's value. Above is the mirror image: the least of the names, so the greatest of its distances from HIGH.
abbrev pub rank_below : Option Bound → ℕ
rank_below (Some b) = b.end + 1
rank_below None = 0

abbrev pub rank_above : Option Bound → ℕ
rank_above (Some b) = high + 1 - b.end
rank_above None = 0

abbrev pub offered_version : Option Bound → ℕ
offered_version (Some b) = b.version
offered_version None = 0

abbrev pub nearer : (Option Bound → ℕ) → Option Bound → Option Bound → Bool
nearer rank b a = ltb (rank a) (rank b) || (eqb (rank a) (rank b) && ltb (offered_version a) (offered_version b))

-- in a sound suite there is always an offer
abbrev pub bound_or : Option Bound → Bound
bound_or (Some b) = b
bound_or None = bare 0

abbrev pub predecessor : List Marked → Bound
predecessor l = bound_or (best (nearer rank_below) None (picked its_offer_below l))

abbrev pub successor : List Marked → Bound
successor l = bound_or (best (nearer rank_above) None (picked its_offer_above l))

-- the answers of the two rounds: the questions of round two come from the answers of round one
abbrev pub reading_answers : Suite → ℕ → ℕ → List Marked
reading_answers s set x = asked_of s set (question.Reading x)

abbrev pub round_one : Suite → ℕ → ℕ → List Marked
round_one s set x = asked_of s set (question.Around x)

abbrev pub round_two : Suite → ℕ → ℕ → List Marked → List Marked
round_two s set x one =
    asked_of s set (question.Offers x (gap_below_in one) (gap_above_in one))

unfoldable pub rounds : Suite → ℕ → ℕ → List Marked
rounds s set x = round_one s set x ++ round_two s set x (round_one s set x)

-- the list of member answers that alone, with the call's own numbers, the votes, R and W, settles the result
unfoldable pub answers : Suite → Call → List Marked
answers s (lookup rs x) = reading_answers s rs x
answers s (insert rs ws x v) = reading_answers s rs x ++ asked_of s ws (question.FitsWrite x)
answers s (update rs ws x v) = reading_answers s rs x ++ asked_of s ws (question.FitsWrite x)
answers s (neighbours rs x) = rounds s rs x
answers s (remove rs ws x) =
    rounds s rs x
    ++ asked_of s ws (question.FitsCoalesce (predecessor (rounds s rs x)).end (successor (rounds s rs x)).end)

-- Refusals 5 to 9, in this order, from the call's own numbers: r and w are the votes that the read and the write set need.
-- A call without a write set has the empty one, and needs no votes in it.
unfoldable pub judged_votes : List ℕ → ℕ → ℕ → ℕ → ℕ → ℕ
judged_votes votes r w rs ws = cond (ltb (votes_of votes rs) r) 8 (cond (ltb (votes_of votes ws) w) 9 0)

unfoldable pub judged : List ℕ → ℕ → ℕ → ℕ → ℕ → ℕ → ℕ → ℕ
judged votes r w x v rs ws =
    cond (ltb largest_name x) 5
    (cond (ltb largest_value v) 6
    (cond (exists votes rs && exists votes ws) (judged_votes votes r w rs ws) 7))

-- the outcome where none of them applies
abbrev pub passed : ℕ → Outcome → Outcome
passed n o = cond (eqb n 0) o (refused n)

-- refusals 12 and 13, or the new version and requests
unfoldable pub granted : ℕ → List Marked → Outcome
granted version l =
    cond (ltb largest_version version) (refused 12) (cond (all_fit l) (answered (version ∷ length l ∷ [])) (refused 13))

-- Insert of an absent name, update of a present one: version = lookup's version + 1.
abbrev pub settle_insert : Reading → List Marked → Outcome
settle_insert (Entry v x) l = refused 10
settle_insert (Gap v) l = granted (v + 1) l

abbrev pub settle_update : Reading → List Marked → Outcome
settle_update (Entry v x) l = granted (v + 1) l
settle_update (Gap v) l = refused 11

-- Remove of a present name: version 1 + max(x's version, v below, v above).
abbrev pub removal : ℕ → List Marked → ℕ
removal v l = max v (max (gap_below_in l).version (gap_above_in l).version) + 1

abbrev pub settle_remove : Reading → List Marked → Outcome
settle_remove (Entry v x) l = granted (removal v l) l
settle_remove (Gap v) l = refused 11

-- the result, from the call's numbers, the votes, R, W and the list of answers, and nothing else
unfoldable pub settle : List ℕ → ℕ → ℕ → Call → List Marked → Outcome
settle votes r w (lookup rs x) l = passed (judged votes r 0 x 0 rs 0) (answered (reading_values (newest l) (length l)))
settle votes r w (insert rs ws x v) l = passed (judged votes r w x v rs ws) (settle_insert (newest l) l)
settle votes r w (update rs ws x v) l = passed (judged votes r w x v rs ws) (settle_update (newest l) l)
settle votes r w (remove rs ws x) l = passed (judged votes r w x 0 rs ws) (settle_remove (newest l) l)
settle votes r w (neighbours rs x) l =
    passed (judged votes r 0 x 0 rs 0) (answered ((predecessor l).end ∷ (successor l).end ∷ length l ∷ []))

-- what an accepted call writes to each member of the write set
abbrev pub effect_of : Effect → Member → Member
effect_of (effect.Write x version v) m = write_of m x version v
effect_of (effect.Coalesce p s g) m = coalesce_of m p s g

abbrev pub written : Call → List Marked → Member → Member
written (lookup rs x) l m = m
written (neighbours rs x) l m = m
written (insert rs ws x v) l m = effect_of (effect.Write x (version_of (newest l) + 1) v) m
written (update rs ws x v) l m = effect_of (effect.Write x (version_of (newest l) + 1) v) m
written (remove rs ws x) l m = effect_of (effect.Coalesce (predecessor l) (successor l) (removal (version_of (newest l)) l)) m

abbrev pub write_set : Call → ℕ
write_set (lookup rs x) = 0
write_set (neighbours rs x) = 0
write_set (insert rs ws x v) = ws
write_set (update rs ws x v) = ws
write_set (remove rs ws x) = ws

-- an outcome with the suite beside it
pub record Result : Type 0 where
  pub outcome : Outcome
  pub suite : Suite

-- what a change answers, with the suite that it leaves
abbrev pub result_of : prelude.Result Done Refusal → Suite → Result
result_of a s = record { outcome = change_of a; suite = s }

-- A refusal returns its number alone; the suite stays as it was.
abbrev pub resulting : Suite → Call → List Marked → Outcome → Result
resulting s c l (answered vs) =
    record { outcome = answered vs; suite = with_tiles s (changed (written c l) (tiles s) (write_set c)) }
resulting s c l (refused n) = record { outcome = refused n; suite = s }

-- a call on a suite that is known to be sound
unfoldable pub step_of : Suite → Call → Result
step_of s c = resulting s c (answers s c) (settle (ballots s) s.read s.write c (answers s c))

-- Refusal 1: the suite handed in isn't sound.
unfoldable pub call_of : Suite → Call → Result
call_of s c = cond (sound_suite s) (step_of s c) (record { outcome = refused 1; suite = s })
