-- From the table to the list of answers: what the code folds out of the rows is what the definitions settle from the answers.
use Rattle.std.specs.Prelude.{Option, Some, None}
use mathlib.Core.Path.{◌≡◌, refl, sym, ap, ◌∙◌}
use mathlib.Core.List.{List, [], ◌∷◌, map}
use mathlib.Core.Bool.{Bool, true, false, ◌&&◌, ◌||◌}
use Prim.Native.Nat.{ℕ}
use borrow.Author.Tests.{le-leb}
use lib.Dec.{ltb, eqb}
use lib.ListN.{get_or}
use Rattle.member.specs.Limits.{high}
use Rattle.member.specs.declared.Reading.{Reading}
use Rattle.member.specs.declared.Reading.TheVariants.{Entry, Gap}
use Rattle.member.specs.declared.Around.{Around}
use Rattle.member.specs.declared.Side.{Side}
use Rattle.member.specs.declared.Bound.{Bound}
use Rattle.suite.specs.Best.{best}
use Rattle.suite.specs.Sets.{all}
use Rattle.suite.specs.Calls.{newer, higher, nearer, rank_below, rank_above, no_side, bound_or, offered_version}
use Rattle.suite.specs.Rows.{no_row, reading_row, around_row, offers_row, rank_within, row_reading, beats_at, is_set, fit_row}
use Rattle.suite.specs.BestLaws.{best-map, best-same}
use Rattle.suite.proofs.Bounds.{end_within}

-- Comparing rows is comparing answers.

or_self : (t e : Bool) → (t || (e && t)) ≡ t
or_self true e = refl
or_self false true = refl
or_self false false = refl

same-newer : (b a : Reading) → beats_at 1 1 (reading_row b) (reading_row a) ≡ newer b a
same-newer (Entry v x) (Entry w y) = or_self (ltb w v) (eqb w v)
same-newer (Entry v x) (Gap w) = or_self (ltb w v) (eqb w v)
same-newer (Gap v) (Entry w y) = or_self (ltb w v) (eqb w v)
same-newer (Gap v) (Gap w) = or_self (ltb w v) (eqb w v)

row_back : (r : Reading) → row_reading (reading_row r) ≡ r
row_back (Entry v x) = refl
row_back (Gap v) = refl

-- the newest reading
pub newest_row : (l : List Reading) → row_reading (best (beats_at 1 1) no_row (map reading_row l)) ≡ best newer (Gap 0) l
newest_row l =
    ap row_reading (best-map (beats_at 1 1) reading_row (Gap 0) l)
    ∙ row_back (best (λ b a. beats_at 1 1 (reading_row b) (reading_row a)) (Gap 0) l)
    ∙ best-same (λ b a. beats_at 1 1 (reading_row b) (reading_row a)) newer same-newer (Gap 0) l

-- Round one.

abbrev no_around : Around
no_around = record { reading = Gap 0; below = no_side; above = no_side }

abbrev pub side_of : List ℕ → ℕ → ℕ → Side
side_of row i j = record { version = get_or row i 0; end = get_or row j 0 }

pub below_row : (l : List Around) → side_of (best (beats_at 3 3) no_row (map around_row l)) 3 4 ≡ best higher no_side (map (λ a. a.below) l)
unfolding around_row
below_row l =
    ap (λ row. side_of row 3 4) (best-map (beats_at 3 3) around_row no_around l)
    ∙ ap (λ (a : Around). a.below)
    (best-same (λ b a. beats_at 3 3 (around_row b) (around_row a)) (λ b a. higher b.below a.below)
    (λ b a. or_self (higher b.below a.below) (eqb a.below.version b.below.version)) no_around l)
    ∙ sym (best-map higher (λ (a : Around). a.below) no_around l)

pub above_row : (l : List Around) → side_of (best (beats_at 5 5) no_row (map around_row l)) 5 6 ≡ best higher no_side (map (λ a. a.above) l)
unfolding around_row
above_row l =
    ap (λ row. side_of row 5 6) (best-map (beats_at 5 5) around_row no_around l)
    ∙ ap (λ (a : Around). a.above)
    (best-same (λ b a. beats_at 5 5 (around_row b) (around_row a)) (λ b a. higher b.above a.above)
    (λ b a. or_self (higher b.above a.above) (eqb a.above.version b.above.version)) no_around l)
    ∙ sym (best-map higher (λ (a : Around). a.above) no_around l)

around_reading : (a : Around) → row_reading (around_row a) ≡ a.reading
unfolding around_row
around_reading a = row_back a.reading

around_newer : (b a : Around) → beats_at 1 1 (around_row b) (around_row a) ≡ newer b.reading a.reading
unfolding around_row
around_newer b a = same-newer b.reading a.reading

pub around_newest : (l : List Around) → row_reading (best (beats_at 1 1) no_row (map around_row l)) ≡ best newer (Gap 0) (map (λ a. a.reading) l)
unfolding around_row
around_newest l =
    ap row_reading (best-map (beats_at 1 1) around_row no_around l)
    ∙ around_reading (best (λ b a. beats_at 1 1 (around_row b) (around_row a)) no_around l)
    ∙ ap (λ (a : Around). a.reading)
    (best-same (λ b a. beats_at 1 1 (around_row b) (around_row a)) (λ b a. newer b.reading a.reading) around_newer no_around l)
    ∙ sym (best-map newer (λ (a : Around). a.reading) no_around l)

-- Round two: the offers below and above of one member.

pub record Both : Type 0 where
  pub below : Option Bound
  pub above : Option Bound
  pub within : end_within below

abbrev pub both_row : Both → List ℕ
both_row w = offers_row w.below w.above

abbrev no_offers : Both
no_offers = record { below = None; above = None; within = tt }

offered-version : (o : Option Bound) → (bound_or o).version ≡ offered_version o
offered-version (Some b) = refl
offered-version None = refl

rank_within_lem : (w : Both) → rank_within w.below ≡ rank_below w.below
rank_within_lem w = go w.below w.within
  where
    go : (o : Option Bound) → end_within o → rank_within o ≡ rank_below o
    go (Some b) h = simp (le-leb b.end high h)
    go None h = refl

abbrev pub bound_at : List ℕ → ℕ → ℕ → ℕ → Bound
bound_at row i j k = record { end = get_or row i 0; version = get_or row j 0; value = get_or row k 0 }

pub predecessor_row : (l : List Both)
    → bound_at (best (beats_at 0 2) no_row (map both_row l)) 1 2 3 ≡ bound_or (best (nearer rank_below) None (map (λ w. w.below) l))
unfolding offers_row
predecessor_row l =
    ap (λ row. bound_at row 1 2 3) (best-map (beats_at 0 2) both_row no_offers l)
    ∙ ap (λ (w : Both). bound_or w.below)
    (best-same (λ b a. beats_at 0 2 (both_row b) (both_row a)) (λ b a. nearer rank_below b.below a.below)
    (λ b a. rw (rank_within_lem b, rank_within_lem a, offered-version b.below, offered-version a.below)) no_offers l)
    ∙ ap bound_or (sym (best-map (nearer rank_below) (λ (w : Both). w.below) no_offers l))

pub successor_row : (l : List Both)
    → bound_at (best (beats_at 4 6) no_row (map both_row l)) 5 6 7 ≡ bound_or (best (nearer rank_above) None (map (λ w. w.above) l))
unfolding offers_row
successor_row l =
    ap (λ row. bound_at row 5 6 7) (best-map (beats_at 4 6) both_row no_offers l)
    ∙ ap (λ (w : Both). bound_or w.above)
    (best-same (λ b a. beats_at 4 6 (both_row b) (both_row a)) (λ b a. nearer rank_above b.above a.above)
    (λ b a. rw (offered-version b.above, offered-version a.above)) no_offers l)
    ∙ ap bound_or (sym (best-map (nearer rank_above) (λ (w : Both). w.above) no_offers l))

-- Fits.

pub fits_row : (l : List Bool) → all is_set (map fit_row l) ≡ all (λ b. b) l
unfolding all
fits_row [] = refl
fits_row (true ∷ l) = fits_row l
fits_row (false ∷ l) = refl
