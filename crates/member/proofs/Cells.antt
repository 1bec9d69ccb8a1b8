-- The cells of a tile: which cell is which field of which row.
use mathlib.Core.Path.{◌≡◌, refl, ap, sym, ◌∙◌}
use mathlib.Core.List.{List}
use Prim.Native.Nat.{ℕ, zero, suc, ◌+◌, ◌*◌, ◌<◌}
use native.Mathlib.Omega.{arith}
use lib.ListN.{length, drop, get_or}
use lib.Seq.{get_or-drop, drop-drop}
use Rattle.member.specs.Tile.{none}
use Rattle.member.specs.Cells.{row_at, rows_in}

pub length_rows : (n : ℕ) (l : List ℕ) → length (rows_in n l) ≡ n
unfolding rows_in
length_rows zero l = refl
length_rows (suc n) l = ap suc (length_rows n (drop 4 l))

-- row i begins four cells for each row before it
rows_at : (n i : ℕ) (l : List ℕ) → i < n → get_or (rows_in n l) i none ≡ row_at (drop (4 * i) l)
unfolding rows_in
rows_at zero i l h = absurd (omega arith)
rows_at (suc n) zero l h = refl
rows_at (suc n) (suc i) l h =
    let e : 4 + 4 * i ≡ 4 * suc i = omega arith in
    rows_at n i (drop 4 l) (omega arith) ∙ ap row_at (drop-drop (4 * i) 4 l) ∙ ap (λ (j : ℕ). row_at (drop j l)) e

-- the row in place i of a tile, by its cells
pub row_cells : (l : List ℕ) (i : ℕ) → i < 32
    → record { name = get_or l (4 * i + 2) 0; version = get_or l (4 * i + 2 + 1) 0; value = get_or l (4 * i + 2 + 2) 0; gap = get_or l (4 * i + 2 + 3) 0 }
    ≡ get_or (rows_in 32 (drop 2 l)) i none
row_cells l i h =
    let cell : (k : ℕ) → get_or l (4 * i + 2 + k) 0 ≡ get_or (drop (4 * i) (drop 2 l)) k 0 =
    λ k. (let e : 4 * i + 2 + k ≡ 2 + (4 * i + k) = omega arith in
    ap (λ (j : ℕ). get_or l j 0) e ∙ sym (get_or-drop (4 * i) (drop 2 l) k 0 ∙ get_or-drop 2 l (4 * i + k) 0)) in
    let z : 4 * i + 2 ≡ 4 * i + 2 + 0 = omega arith in
    (λ j. record { name = (ap (λ (j : ℕ). get_or l j 0) z ∙ cell 0) j; version = cell 1 j; value = cell 2 j; gap = cell 3 j })
    ∙ sym (rows_at 32 i (drop 2 l) h)
