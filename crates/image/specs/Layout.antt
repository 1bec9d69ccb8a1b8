-- The rules paper, "Suite image": the fields of a suite's image, each with its width and its number, in the paper's order.
use mathlib.Core.List.{List, [], ◌∷◌, ◌++◌, map, flat_map}
use Rattle.std.specs.Prelude.{ℕ, ◌+◌, ◌-◌, ◌*◌, length}
use Rattle.fields.specs.Bits.{field_bits, packed}
use Rattle.member.specs.Tile.{entries}
use Rattle.member.specs.declared.Row.{Row}
use Rattle.member.specs.declared.Member.{Member}
use Rattle.suite.specs.Sets.{total}
use Rattle.suite.specs.Suite.{tiles, ballots}
use Rattle.suite.specs.declared.Suite.{Suite}

-- how many bits a field has, and the number that it holds
abbrev pub Piece : Type 0
Piece = ℕ × ℕ

-- edition 1, in which a name has 20 bits
abbrev pub edition : ℕ
edition = 1

abbrev pub name_width : ℕ
name_width = 20

-- per entry: name 20, version 24, value 16, version of the gap above 24. w is the width of a name.
unfoldable pub row_pieces : ℕ → Row → List Piece
row_pieces w r = (w, r.name) ∷ (24, r.version) ∷ (16, r.value) ∷ (24, r.gap) ∷ []

-- per member: entry count 6, lowest gap version 24, and the entries, ascending
unfoldable pub member_pieces : ℕ → Member → List Piece
member_pieces w m = (6, length (entries m)) ∷ (24, m.low) ∷ flat_map (row_pieces w) (entries m)

-- each vote 4
unfoldable pub vote_pieces : ℕ → List Piece
vote_pieces v = (4, v) ∷ []

-- Edition 4 (value 1), members less one 3, R 7, W 7, each vote 4. Then the members.
unfoldable pub suite_pieces : ℕ → Suite → List Piece
suite_pieces w s =
    (4, edition)
    ∷ (3, s.count - 1)
    ∷ (7, s.read)
    ∷ (7, s.write)
    ∷ (flat_map vote_pieces (ballots s) ++ flat_map (member_pieces w) (tiles s))

-- Bit-packed, most significant bit first.
unfoldable pub bits_in : List Piece → List ℕ
bits_in [] = []
bits_in (p ∷ l) = field_bits p.0 p.1 ++ bits_in l

-- how many bits the fields have
unfoldable pub widths : List Piece → ℕ
widths [] = 0
widths (p ∷ l) = p.0 + widths l

-- the same from the counts alone: 64 bits and the name per entry, 30 and the entries per member, 21 and 4 per vote before them
unfoldable pub member_bits : ℕ → Member → ℕ
member_bits w m = 30 + (w + 64) * length (entries m)

unfoldable pub suite_bits : ℕ → Suite → ℕ
suite_bits w s = 21 + (4 * length (ballots s) + total (map (member_bits w) (tiles s)))

-- The longest image is 2,725 bytes.
abbrev pub longest : ℕ
longest = 2725

-- Zero bits fill the last byte.
unfoldable pub image_of : Suite → List ℕ
image_of s = packed (bits_in (suite_pieces name_width s))
