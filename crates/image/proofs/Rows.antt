-- Reading the entries of a member into a fresh member, one place after another.
-- Assumes nothing.
use Prim.Native.Nat.{ℕ, ◌+◌, ◌-◌, ◌*◌, ◌≤◌, ◌<◌, min}
use native.Mathlib.Nat.{min-eq_left}
use native.Mathlib.Omega.{arith}
use mathlib.Core.Path.{◌≡◌, sym, ap, ◌∙◌}
use mathlib.Core.List.{List, [], ◌∷◌, ◌++◌}
use lib.ListN.{length, replicate, set}
use Rattle.member.specs.Limits.{slots}
use Rattle.member.specs.Tile.{none, fresh_tile}
use Rattle.member.specs.declared.Row.{Row}
use Rattle.member.specs.declared.Member.{Member}
use Rattle.member.specs.Steps.{with_row, with_low, with_count}
use Rattle.image.specs.Reader.{took, fault, then, read_row, read_rows, above, tile_with}
use Rattle.image.proofs.Reading.{SoFar, far-start, far-more, far-fault, far-end, place_more}

-- the tile of these rows, of which none is counted yet
abbrev uncounted : ℕ → List Row → Member
uncounted low rows = with_count (tile_with low rows) 0

pub record RowsSoFar (image : List ℕ) (count low at : ℕ) (member : Member) (next lowest i : ℕ) : Type 0 where
  pub done : List Row
  pub holds : member ≡ uncounted low done
  pub so_far : SoFar (read_row image 20) above count 0 at done lowest next i
  pub place : next ≡ at + 84 * i

module _ (image : List ℕ) (count low at : ℕ) (few : count ≤ slots) where
  pub rows_start : (t m : Member) → t ≡ fresh_tile → m ≡ with_low t low → RowsSoFar image count low at m at 0 0
  rows_start t m f e = record {
    done = [];
    holds = e ∙ ap (λ (b : Member). with_low b low) f;
    so_far = far-start (read_row image 20) above count 0 at;
    place = omega arith;
  }

  module _ (m : Member) (next lowest i : ℕ) (s : RowsSoFar image count low at m next lowest i) where
    pub rows_more : (m' : Member) (r : Row) → i < count → took r (next + 84) ≡ read_row image 20 lowest next → m' ≡ with_row m i r
        → RowsSoFar image count low at m' (next + 84) (r.name + 1) (i + 1)
    rows_more m' r h e a =
        let l = s.done in
        let n : length l ≡ i = s.so_far.many in
        let p : set (l ++ replicate (slots - length l) none) i r ≡ (tile_with low (l ++ (r ∷ []))).rows =
        ap (λ (j : ℕ). set (l ++ replicate (slots - length l) none) j r) (sym n) ∙ place_more slots l none r (omega arith) in
        record {
          done = l ++ (r ∷ []);
          holds = a ∙ ap (λ (b : Member). with_row b i r) s.holds ∙ (λ j. record { low = low; count = 0; rows = p j });
          so_far = far-more (read_row image 20) above count 0 at l lowest next i (next + 84) r s.so_far h e;
          place = omega (arith, s.place);
        }

    pub rows-fault : (f : ℕ) → i < count → fault f ≡ read_row image 20 lowest next → fault f ≡ read_rows image 20 count low at
    unfolding read_rows then
    rows-fault f h e =
        rw (far-fault (read_row image 20) above count 0 at s.done lowest next i f s.so_far h e)

    pub rows_end : (m' : Member) → count ≤ i → m' ≡ with_count m (min count slots) → took m' next ≡ read_rows image 20 count low at
    unfolding read_rows then
    rows_end m' h e =
        let n : min count slots ≡ length s.done = min-eq_left few ∙ omega (arith, s.so_far.many, s.so_far.few) in
        rw (far-end (read_row image 20) above count 0 at s.done lowest next i s.so_far h)
        (ap (λ (b : Member). took b next) (e ∙ (λ j. with_count (s.holds j) (n j))))
