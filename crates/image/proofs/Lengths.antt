-- How long an image is: from the counts alone, at most 2,725 bytes, and a full suite's is that long.
-- Assumes nothing.
use Prim.Native.Nat.{ℕ, zero, suc, ◌+◌, ◌*◌, ◌≤◌}
use native.Mathlib.Nat.{mul-suc, min-le_left}
use native.Mathlib.Omega.{arith}
use mathlib.Core.Bool.{true}
use mathlib.Core.Path.{◌≡◌, refl, ap, ap₂, ◌∙◌}
use mathlib.Core.List.{List, [], ◌∷◌, ◌++◌, map, flat_map}
use lib.ListN.{length, replicate, length-append, length-take}
use Rattle.fields.specs.Bits.{field_bits, bytes_for}
use Rattle.fields.proofs.Width.{length-field_bits}
use Rattle.fields.proofs.Packing.{length-packed}
use Rattle.member.specs.Limits.{slots}
use Rattle.member.specs.Tile.{entries}
use Rattle.member.specs.Sound.{in_range, ascends, is_none, all_none, sound_member}
use Rattle.member.specs.Change.{row_with}
use Rattle.member.specs.SoundLaws.{sound_parts}
use Rattle.member.specs.declared.Row.{Row}
use Rattle.member.specs.declared.Member.{Member}
use Rattle.suite.specs.Sets.{total, all}
use Rattle.suite.specs.Suite.{tiles, ballots, sound_suite}
use Rattle.suite.specs.SuiteLaws.{suite_parts}
use Rattle.suite.specs.declared.Suite.{Suite}
use Rattle.image.specs.Layout.{Piece, name_width, row_pieces, vote_pieces, member_pieces, suite_pieces, bits_in, widths, member_bits, suite_bits, longest, image_of}
use Rattle.image.specs.Reader.{tile_with}
use Rattle.image.proofs.All.{all_cons}
use Rattle.image.proofs.Shapes.{suite_with}

pub length-bits_in : (l : List Piece) → length (bits_in l) ≡ widths l
unfolding bits_in widths
length-bits_in [] = refl
length-bits_in (p ∷ l) =
    length-append (field_bits p.0 p.1) (bits_in l) ∙ ap₂ (λ (a b : ℕ). a + b) (length-field_bits p.0 p.1) (length-bits_in l)

pub widths-append : (a b : List Piece) → widths (a ++ b) ≡ widths a + widths b
unfolding widths
widths-append [] b = omega arith
widths-append (p ∷ a) b = rw (widths-append a b) (omega arith)

-- the same width for each
widths-each : {A : Type 0} (f : A → List Piece) (n : ℕ) → ((a : A) → widths (f a) ≡ n) → (l : List A)
    → widths (flat_map f l) ≡ n * length l
unfolding flat_map widths
widths-each f n h [] = omega arith
widths-each f n h (a ∷ l) =
    rw (widths-append (f a) (flat_map f l), h a, widths-each f n h l, mul-suc n (length l)) (omega arith)

pub row_widths : (w : ℕ) (r : Row) → widths (row_pieces w r) ≡ w + 64
unfolding row_pieces widths
row_widths w r = omega arith

pub rows_widths : (w : ℕ) (l : List Row) → widths (flat_map (row_pieces w) l) ≡ (w + 64) * length l
rows_widths w l = widths-each (row_pieces w) (w + 64) (row_widths w) l

pub votes_widths : (l : List ℕ) → widths (flat_map vote_pieces l) ≡ 4 * length l
unfolding vote_pieces widths
votes_widths l = widths-each vote_pieces 4 (λ v. refl) l

pub member_widths : (w : ℕ) (m : Member) → widths (member_pieces w m) ≡ member_bits w m
unfolding member_pieces widths member_bits
member_widths w m = rw (rows_widths w (entries m)) (omega arith)

pub members_widths : (w : ℕ) (l : List Member) → widths (flat_map (member_pieces w) l) ≡ total (map (member_bits w) l)
unfolding flat_map widths total
members_widths w [] = refl
members_widths w (m ∷ l) =
    rw (widths-append (member_pieces w m) (flat_map (member_pieces w) l), member_widths w m, members_widths w l)

pub suite_widths : (w : ℕ) (s : Suite) → widths (suite_pieces w s) ≡ suite_bits w s
unfolding suite_pieces widths suite_bits
suite_widths w s =
    rw (
      widths-append (flat_map vote_pieces (ballots s)) (flat_map (member_pieces w) (tiles s)),
      votes_widths (ballots s),
      members_widths w (tiles s),
    ) (omega arith)

-- the length of an image, from the counts
pub length_image : (s : Suite) → length (image_of s) ≡ bytes_for (suite_bits name_width s)
unfolding image_of
length_image s =
    length-packed (bits_in (suite_pieces name_width s))
    ∙ ap bytes_for (length-bits_in (suite_pieces name_width s) ∙ suite_widths name_width s)

-- ---- at most 2,725 bytes

members_le : (l : List Member) → all sound_member l ≡ true → total (map (member_bits name_width) l) ≤ 2718 * length l
unfolding total member_bits
members_le [] h = omega arith
members_le (m ∷ l) h =
    let p = all_cons sound_member m l h in
    let k : length (entries m) ≤ m.count = rw (length-take m.count m.rows) (min-le_left m.count (length m.rows)) in
    omega (arith, (sound_parts m p.0).count-max, members_le l p.1)

pub image_longest : (s : Suite) → sound_suite s ≡ true → length (image_of s) ≤ longest
unfolding bytes_for suite_bits
image_longest s h =
    let p = suite_parts s h in
    let v : length (ballots s) ≤ s.count = rw (length-take s.count s.votes) (min-le_left s.count (length s.votes)) in
    let t : length (tiles s) ≤ s.count = rw (length-take s.count s.members) (min-le_left s.count (length s.members)) in
    rw (length_image s) (omega (arith, p.few, members_le (tiles s) p.sound-members))

-- ---- and one is that long

-- n entries, named from x on
named_from : ℕ → ℕ → List Row
named_from x zero = []
named_from x (suc n) = row_with x 1 0 0 ∷ named_from (x + 1) n

-- eight members of 32 entries
pub full_suite : Suite
full_suite = suite_with 8 1 (replicate 8 1) (replicate 8 (tile_with 0 (named_from 0 slots)))

pub full_sound : sound_suite full_suite ≡ true
unfolding full_suite named_from sound_suite all total sound_member ascends in_range all_none is_none
full_sound = refl

pub full-longest : length (image_of full_suite) ≡ longest
unfolding full_suite named_from suite_bits member_bits total bytes_for
full-longest = length_image full_suite
