-- What a write shows, and whether it fits.
use Rattle.std.specs.Prelude.{◌≡◌, List, ◌∷◌, ◌++◌, true, false, cond, ℕ, suc, ◌≤◌, length, take, drop, leb}
use Rattle.std.proofs.Math.Path.{refl, ap}
use Rattle.std.proofs.Common.{sym, ◌∙◌, arith, length-append}
use Rattle.member.specs.Limits.{largest_name, slots}
use Rattle.member.specs.Tile.{entries, holding}
use Rattle.member.specs.Search.{seat_in, next_in, gap_below}
use Rattle.member.specs.Change.{row_with, written, write_of, fits_write}
use Rattle.member.specs.SearchLaws.{name_cut, all-below}
use Rattle.member.specs.Normal.{gap_after, written_is}
use Rattle.member.specs.Holding.{holding-entries}
use Rattle.member.specs.Places.{place, at_place_in, at_place, Wrote}
use Rattle.member.specs.ReadingLaws.{Order, less, same, more, order, read_same, read-less, read_more, read_over, read_past, read_below, holding_at, holding-same}
use Rattle.member.specs.declared.Row.{Row}
use Rattle.member.specs.declared.Member.{Member}
use Rattle.member.specs.declared.Reading.TheVariants.{Entry}

-- Whether a write fits does not depend on the version and the value.
pub length-written : (g : ℕ) (l : List Row) (n v x w y : ℕ) → length (written g l n v x) ≡ length (written g l n w y)
length-written g l n v x w y = ap length (written_is g l n v x) ∙ put ∙ sym (ap length (written_is g l n w y))
  where
    put : length (take (seat_in l n) l ++ (row_with n v x (gap_below g l (next_in l n)) ∷ drop (next_in l n) l)) ≡ length (take (seat_in l n) l ++ (row_with n w y (gap_below g l (next_in l n)) ∷ drop (next_in l n) l))
    put = simp length-append

pub fits_write_lem : (m : Member) (n v x : ℕ) → fits_write m n ≡ leb (length (written m.low (entries m) n v x)) slots
unfolding fits_write
fits_write_lem m n v x = rw (length-written m.low (entries m) n v x 0 0)

pub write_is : (m : Member) (n v x : ℕ) → write_of m n v x ≡ cond (fits_write m n) (holding m m.low (written m.low (entries m) n v x)) m
unfolding write_of
write_is m n v x = rw (fits_write_lem m n v x)

pub write_fits : (m : Member) (n v x : ℕ) → fits_write m n ≡ true → write_of m n v x ≡ holding m m.low (written m.low (entries m) n v x)
write_fits m n v x h = write_is m n v x ∙ rw h

pub write_entries : (m : Member) (n v x : ℕ) → fits_write m n ≡ true → entries (write_of m n v x) ≡ written m.low (entries m) n v x
write_entries m n v x h = rw (write_fits m n v x h) (holding-entries m m.low (written m.low (entries m) n v x))

pub write_full : (m : Member) (n v x : ℕ) → fits_write m n ≡ false → write_of m n v x ≡ m
write_full m n v x h = write_is m n v x ∙ rw h

-- What the rows read after a write.
module _ (g : ℕ) (l : List Row) (n v x : ℕ) where
  a : List Row
  a = take (seat_in l n) l

  b : List Row
  b = drop (next_in l n) l

  r : Row
  r = row_with n v x (gap_below g l (next_in l n))

  reach : (z : ℕ) → place (suc n) ≤ z → at_place_in g (written g l n v x) z ≡ at_place_in (gap_after g a) (r ∷ b) z
  unfolding a b r
  reach z h = ap (λ w. at_place_in g w z) (written_is g l n v x) ∙ read_over g a (r ∷ b) n z (all-below (name_cut n) (name_cut n) (λ q e. e) l) (omega arith)

  pub written-here : at_place_in g (written g l n v x) (place (suc n)) ≡ Entry v x
  unfolding a b r
  written-here = reach (place (suc n)) (omega arith) ∙ read_same (gap_after g a) r b (place (suc n)) refl

  pub written-else : (z : ℕ) → (z ≡ place (suc n) → ⊥) → at_place_in g (written g l n v x) z ≡ at_place_in g l z
  unfolding a b r
  written-else z h = go (order z (place (suc n)))
    where
      go : Order z (place (suc n)) → at_place_in g (written g l n v x) z ≡ at_place_in g l z
      go (same e) = absurd (h e)
      go (less e) = ap (λ w. at_place_in g w z) (written_is g l n v x) ∙ read_below g l (r ∷ b) n z e (λ k. read_more k r b z e)
      go (more e) = reach z (omega arith) ∙ read-less (gap_after g a) r b z e ∙ read_past g l n z e

pub write_shows : (m : Member) (n v x : ℕ) → n ≤ largest_name → fits_write m n ≡ true → Wrote (place (suc n)) (Entry v x) (at_place m) (at_place (write_of m n v x))
write_shows m n v x i h =
    let l = written m.low (entries m) n v x in
    rw (write_fits m n v x h)
    record {
      here = holding_at m m.low l (place (suc n)) (omega arith) (omega arith) ∙ written-here m.low (entries m) n v x;
      elsewhere = λ z k. holding-same m m.low l z (λ _ _. written-else m.low (entries m) n v x z k);
    }
