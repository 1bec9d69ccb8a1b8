-- An entry, a member and a suite: the reader of each takes exactly what is written of one.
-- w is the width of a name; 20 bits now.
-- Assumes nothing.
use Prim.Native.Nat.{ℕ, ◌+◌, ◌-◌, ◌^◌, ◌≤◌, ◌<◌}
use native.Mathlib.Omega.{arith}
use mathlib.Core.Bool.{true}
use mathlib.Core.Path.{◌≡◌, refl, sym, ap, ◌∙◌}
use mathlib.Core.List.{List, ◌++◌, flat_map}
use lib.ListN.{length, replicate}
use lib.Seq.{take-append_seam, take_at}
use lib.Dec.{leb, eqb}
use borrow.Author.Tests.{leb-true, le-leb, eqb-true, eq-eqb}
use Rattle.member.specs.Limits.{slots}
use Rattle.member.specs.Tile.{none, entries, fresh_tile}
use Rattle.member.specs.Change.{row_with}
use Rattle.member.specs.declared.Row.{Row}
use Rattle.member.specs.declared.Member.{Member}
use Rattle.suite.specs.Sets.{total}
use Rattle.suite.specs.Suite.{quorum, tiles, ballots}
use Rattle.suite.specs.Create.{padded, fresh_suite}
use Rattle.suite.specs.declared.Suite.{Suite}
use Rattle.image.specs.Layout.{edition, row_pieces, vote_pieces, member_pieces, suite_pieces}
use Rattle.image.specs.Reader.{field, each, read_row, above, tile_with, read_rows, read_member, read_members, read_voted, read_suite}
use Rattle.image.proofs.Matching.{Matches, matches_as, field-matches}
use Rattle.image.proofs.Sequence.{then-matches, made-matches, judged_matches, Severally, several-matches}

-- an entry that can be written, with a name that is x or greater
pub record RowFits (w x : ℕ) (r : Row) : Type 0 where
  pub name-fits : r.name < 2 ^ w
  pub name-above : x ≤ r.name
  pub version_fits : r.version < 2 ^ 24
  pub version-min : 1 ≤ r.version
  pub value-fits : r.value < 2 ^ 16
  pub gap-fits : r.gap < 2 ^ 24

-- and a member: its unused places hold zero
pub record MemberFits (w : ℕ) (m : Member) : Type 0 where
  pub few : length (entries m) ≤ slots
  pub low_fits : m.low < 2 ^ 24
  pub rows_fit : Severally (RowFits w) above (length (entries m)) 0 (entries m)
  pub shape : m ≡ tile_with m.low (entries m)

-- the suite that the reader makes
abbrev pub suite_with : ℕ → ℕ → List ℕ → List Member → Suite
suite_with r u votes members =
    record {
      members = members ++ replicate (8 - length members) fresh_tile;
      votes = padded votes;
      read = r;
      write = u;
      count = length votes;
    }

-- and a suite: its unused places and votes hold zero
pub record SuiteFits (w : ℕ) (s : Suite) : Type 0 where
  pub count_fits : s.count - 1 < 2 ^ 3
  pub read_fits : s.read < 2 ^ 7
  pub write_fits : s.write < 2 ^ 7
  pub votes-fit : Severally (λ x v. v < 2 ^ 4) (λ v. 0) (s.count - 1 + 1) 0 (ballots s)
  pub enough : quorum s.read s.write (total (ballots s)) ≡ true
  pub members-fit : Severally (λ x. MemberFits w) (λ m. 0) (length (ballots s)) 0 (tiles s)
  pub shape : s ≡ suite_with s.read s.write (ballots s) (tiles s)

module _ (image : List ℕ) (w : ℕ) (narrow : w ≤ 24) where
  pub row-matches : (x : ℕ) → Matches image (read_row image w x) (row_pieces w) (RowFits w x)
  unfolding read_row row_pieces
  row-matches x =
      matches_as
      (then-matches (λ (r : Row). r.name) (field-matches image w narrow) (λ a r i h. ap (λ (s : Row). s.name) h.1.1.1.1.1)
      (λ name. judged_matches (leb x name) 17
      (then-matches (λ (r : Row). r.version) (field-matches image 24 (omega arith)) (λ a r i h. ap (λ (s : Row). s.version) h.1.1.1)
      (λ version. judged_matches (leb 1 version) 17
      (then-matches (λ (r : Row). r.value) (field-matches image 16 (omega arith)) (λ a r i h. ap (λ (s : Row). s.value) h.1)
      (λ value. made-matches (λ (r : Row). r.gap) (field-matches image 24 (omega arith)) {f = λ gap. row_with name version value gap} (λ a h. refl)))))))
      (λ r h. (h.name-fits, (le-leb x r.name h.name-above, (h.version_fits, (le-leb 1 r.version h.version-min, (h.value-fits, (h.gap-fits, refl)))))))
      (λ r h. record {
        name-fits = h.0;
        name-above = leb-true x r.name h.1.0;
        version_fits = h.1.1.0;
        version-min = leb-true 1 r.version h.1.1.1.0;
        value-fits = h.1.1.1.1.0;
        gap-fits = h.1.1.1.1.1.0;
      })

  pub member-matches : Matches image (read_member image w) (member_pieces w) (MemberFits w)
  unfolding read_member read_rows member_pieces
  member-matches =
      matches_as
      (then-matches (λ (m : Member). length (entries m)) (field-matches image 6 (omega arith)) (λ a m i h. h.1.1.0.many)
      (λ count. judged_matches (leb count slots) 17
      (then-matches (λ (m : Member). m.low) (field-matches image 24 (omega arith)) (λ a m i h. ap (λ (t : Member). t.low) h.1)
      (λ low. made-matches (λ (m : Member). entries m) (several-matches above row-matches count 0)
      {f = λ rows. tile_with low rows}
      (λ rows h. take-append_seam rows (replicate (slots - length rows) none))))))
      (λ m h. (omega (arith, h.few), (le-leb (length (entries m)) slots h.few, (h.low_fits, (h.rows_fit, h.shape)))))
      (λ m h. record {
        few = leb-true (length (entries m)) slots h.1.0;
        low_fits = h.1.1.0;
        rows_fit = h.1.1.1.0;
        shape = h.1.1.1.1;
      })

  pub votes-match : (k : ℕ) → Matches image (each (field image 4) k) (flat_map vote_pieces) (Severally (λ x v. v < 2 ^ 4) (λ v. 0) k 0)
  unfolding each vote_pieces
  votes-match k = several-matches (λ v. 0) (λ x. field-matches image 4 (omega arith)) k 0

  members-match : (k : ℕ) → Matches image (each (read_member image w) k) (flat_map (member_pieces w)) (Severally (λ x. MemberFits w) (λ m. 0) k 0)
  unfolding each
  members-match k = several-matches (λ m. 0) (λ x. member-matches) k 0

  pub suite-matches : Matches image (read_suite image w) (suite_pieces w) (SuiteFits w)
  unfolding read_suite read_voted read_members fresh_suite suite_pieces
  suite-matches =
      matches_as
      (then-matches (λ (s : Suite). edition) (field-matches image 4 (omega arith)) (λ a s i h. sym (eqb-true a edition h.0))
      (λ number. judged_matches (eqb number edition) 16
      (then-matches (λ (s : Suite). s.count - 1) (field-matches image 3 (omega arith))
      (λ a s i h. less a s h.1.1.0.many h.1.1.1.1.1)
      (λ less. then-matches (λ (s : Suite). s.read) (field-matches image 7 (omega arith))
      (λ a s i h. ap (λ (t : Suite). t.read) h.1.1.1.1)
      (λ r. then-matches (λ (s : Suite). s.write) (field-matches image 7 (omega arith))
      (λ a s i h. ap (λ (t : Suite). t.write) h.1.1.1)
      (λ u. then-matches (λ (s : Suite). ballots s) (votes-match (less + 1))
      (λ votes s i h. ap ballots h.1.1 ∙ take-append_seam votes (replicate (8 - length votes) 0))
      (λ votes. judged_matches (quorum r u (total votes)) 17
      (made-matches (λ (s : Suite). tiles s) (members-match (length votes))
      {f = λ members. suite_with r u votes members}
      (λ members h. take_at members (replicate (8 - length members) fresh_tile) (length votes) h.many)))))))))
      (λ s h. (
        omega arith,
        (eq-eqb edition edition refl, (h.count_fits, (h.read_fits, (h.write_fits, (h.votes-fit, (h.enough, (h.members-fit, h.shape))))))),
      ))
      (λ s h. record {
        count_fits = h.1.1.0;
        read_fits = h.1.1.1.0;
        write_fits = h.1.1.1.1.0;
        votes-fit = h.1.1.1.1.1.0;
        enough = h.1.1.1.1.1.1.0;
        members-fit = h.1.1.1.1.1.1.1.0;
        shape = h.1.1.1.1.1.1.1.1;
      })
    where
      less : (n : ℕ) (s : Suite) → length (ballots s) ≡ n + 1
          → s ≡ suite_with s.read s.write (ballots s) (tiles s)
          → s.count - 1 ≡ n
      less n s h e = let c : s.count ≡ length (ballots s) = ap (λ (t : Suite). t.count) e in omega arith
