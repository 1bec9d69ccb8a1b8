-- Votes put into their places.
use mathlib.Core.Path.{◌≡◌, sym, ◌∙◌}
use mathlib.Core.List.{List, ◌++◌}
use Prim.Native.Nat.{ℕ, suc, ◌+◌, ◌-◌, ◌≤◌, ◌<◌}
use native.Mathlib.Omega.{arith}
use native.Mathlib.Numerals.{add-one}
use lib.ListN.{length, take, get_or, set, replicate}
use lib.Seq.{take-suc, set_at, append_snoc, length-take-le, take-length}
use Rattle.suite.specs.Create.{padded}

pub place-next : (l : List ℕ) (i : ℕ) → i < length l → length l ≤ 8
    → set (take i l ++ replicate (8 - i) 0) i (get_or l i 0) ≡ take (i + 1) l ++ replicate (8 - (i + 1)) 0
place-next l i h k =
    let e : 8 - i ≡ suc (8 - (i + 1)) = omega arith in
    rw e
    (set_at (take i l) 0 (replicate (8 - (i + 1)) 0) (get_or l i 0) i (length-take-le i l (omega arith))
    ∙ sym (append_snoc (take i l) (get_or l i 0) (replicate (8 - (i + 1)) 0))
    ∙ rw (add-one, take-suc l i 0))

pub place_last : (l : List ℕ) (i : ℕ) → i ≤ length l → length l ≤ i → take i l ++ replicate (8 - i) 0 ≡ padded l
place_last l i h k = let e : i ≡ length l = omega arith in rw (e, take-length)
