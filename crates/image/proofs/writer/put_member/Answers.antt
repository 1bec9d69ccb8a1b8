-- `put_member` puts the count, the lowest gap version and the entries.
use native.Mathlib.Omega.{arith}
use mathlib.Core.Path.{refl, ap, ◌∙◌}
use mathlib.Core.List.{[], ◌∷◌, flat_map}
use Prim.Native.Nat.{◌+◌}
use lib.ListN.{length}
use Rattle.fields.specs.Field.{append_of}
use Rattle.member.specs.Tile.{entries}
use Rattle.image.specs.Layout.{row_pieces, member_pieces, widths}
use Rattle.image.proofs.Putting.{appended_field, appended_both}
use Rattle.image.proofs.writer.put_member.Goals as goal

pub returns : goal.returns
unfolding member_pieces widths
returns c =
    let a = c.args in
    let m = a.member.now in
    let b₁ = c.append.new.bytes in
    let b₂ = c.append-2.new.bytes in
    let rows = c.put_rows in
    let count = appended_field a.out.now b₁ a.at 6 (length (entries m)) (omega arith) (omega arith) (c.append.ensures ∙ ap (append_of a.out.now a.at 6) c.used.ensures.0) in
    let low = appended_field b₁ b₂ (a.at + 6) 24 m.low (omega arith) (omega (arith, count.same_length)) (c.append-2.ensures ∙ ap (append_of b₁ (a.at + 6) 24) (c.from.ensures ∙ c.lowest_gap.ensures)) in (
      omega (arith, rows.ensures.0),
      (
        omega (arith, rows.ensures.1.0),
        appended_both ((6, length (entries m)) ∷ []) ((24, m.low) ∷ flat_map (row_pieces 20) (entries m)) a.out.now b₁ rows.new.out a.at (a.at + 6) count refl
            (appended_both ((24, m.low) ∷ []) (flat_map (row_pieces 20) (entries m)) b₁ b₂ rows.new.out (a.at + 6) (a.at + 6 + 24) low refl rows.ensures.1.1),
      ),
    )
