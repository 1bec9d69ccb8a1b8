-- The table of a round, as the code has it: a row of eight numbers for each member.
use Rattle.member.specs.declared.Bound.{Bound}
use Rattle.std.specs.Prelude.{Option, Some, None}
use Rattle.std.specs.Prelude.{List, [], ◌∷◌, ◌++◌, Bool, true, false, cond, ◌&&◌, ◌||◌, not, ℕ, ◌+◌, ◌-◌, ◌/◌, ◌%◌, length, get_or, replicate, leb, ltb, eqb}
use Rattle.member.specs.Limits.{high}
use Rattle.member.specs.declared.Member.{Member}
use Rattle.member.specs.declared.Reading.{Reading}
use Rattle.member.specs.declared.Reading.TheVariants.{Entry, Gap}
use Rattle.member.specs.declared.Around.{Around}
use Rattle.suite.specs.Calls.{Answer, reads, sees, offers, fits, Marked, rank_above, bound_or, newest, gap_below_in, gap_above_in, predecessor, successor}
use Rattle.suite.specs.declared.rounds.Survey.{Survey}

abbrev pub no_row : List ℕ
no_row = replicate 8 0

abbrev pub reading_row : Reading → List ℕ
reading_row (Entry v x) = 1 ∷ v ∷ x ∷ 0 ∷ 0 ∷ 0 ∷ 0 ∷ 0 ∷ []
reading_row (Gap v) = 0 ∷ v ∷ 0 ∷ 0 ∷ 0 ∷ 0 ∷ 0 ∷ 0 ∷ []

abbrev pub row_reading : List ℕ → Reading
row_reading row = cond (eqb (get_or row 0 0) 1) (Entry (get_or row 1 0) (get_or row 2 0)) (Gap (get_or row 1 0))

unfoldable pub around_row : Around → List ℕ
around_row a =
    get_or (reading_row a.reading) 0 0
    ∷ get_or (reading_row a.reading) 1 0
    ∷ get_or (reading_row a.reading) 2 0
    ∷ a.below.version
    ∷ a.below.end
    ∷ a.above.version
    ∷ a.above.end
    ∷ 0
    ∷ []

-- rank_below of an end up to HIGH, as each that a member offers is; past HIGH it is 0, since one more may not fit 32 bits
abbrev pub rank_within : Option Bound → ℕ
rank_within (Some b) = cond (leb b.end high) (b.end + 1) 0
rank_within None = 0

unfoldable pub offers_row : Option Bound → Option Bound → List ℕ
offers_row o p =
    rank_within o
    ∷ (bound_or o).end
    ∷ (bound_or o).version
    ∷ (bound_or o).value
    ∷ rank_above p
    ∷ (bound_or p).end
    ∷ (bound_or p).version
    ∷ (bound_or p).value
    ∷ []

abbrev pub fit_row : Bool → List ℕ
fit_row true = 1 ∷ 0 ∷ 0 ∷ 0 ∷ 0 ∷ 0 ∷ 0 ∷ 0 ∷ []
fit_row false = no_row

unfoldable pub row_of : Answer → List ℕ
row_of (reads r) = reading_row r
row_of (sees a) = around_row a
row_of (offers o p) = offers_row o p
row_of (fits b) = fit_row b

-- b is better than a: greater in column c, or equal there and greater in column t
abbrev pub beats_at : ℕ → ℕ → List ℕ → List ℕ → Bool
beats_at c t b a =
    ltb (get_or a c 0) (get_or b c 0) || (eqb (get_or a c 0) (get_or b c 0) && ltb (get_or a t 0) (get_or b t 0))

abbrev pub is_set : List ℕ → Bool
is_set row = not (eqb (get_or row 0 0) 0)

-- the rows of the members that the set names, zeros for the others
unfoldable pub tabled : (Member → List ℕ) → List Member → ℕ → List (List ℕ)
tabled f [] set = []
tabled f (m ∷ l) set = cond (eqb (set % 2) 1) (f m) no_row ∷ tabled f l (set / 2)

abbrev pub table_of : (Member → List ℕ) → List Member → ℕ → List (List ℕ)
table_of f l set = tabled f l set ++ replicate (8 - length l) no_row

-- what the answers of the two rounds come to
unfoldable pub survey_of : List Marked → Survey
survey_of l =
    record {
      reading = newest l;
      lower = (gap_below_in l).version;
      upper = (gap_above_in l).version;
      below = predecessor l;
      above = successor l;
    }
