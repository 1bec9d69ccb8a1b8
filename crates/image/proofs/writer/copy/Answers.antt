-- `copy` copies byte after byte.
use native.Mathlib.Omega.{arith}
use mathlib.Core.Path.{◌≡◌, refl, sym, ap, ◌∙◌}
use mathlib.Core.List.{List, ◌++◌}
use Prim.Native.Nat.{ℕ, ◌+◌, ◌<◌}
use native.Mathlib.Numerals.{add-one}
use native.Mathlib.Nat.{zero-add}
use lib.ListN.{length, take, drop, get_or, set, length-set}
use lib.Seq.{paste-suc, take-length}
use Rattle.image.proofs.writer.copy.Goals as goal

-- one byte more
more : (from before to : List ℕ) (i : ℕ) → i < length before → i < length from → to ≡ take i from ++ drop i before
    → set to i (get_or from i 0) ≡ take (i + 1) from ++ drop (i + 1) before
more from before to i h k e =
    ap (λ (l : List ℕ). set l i (get_or from i 0)) (e ∙ ap (λ (n : ℕ). take i from ++ drop n before) (sym (zero-add i)))
    ∙ ap (λ (n : ℕ). set (take i from ++ drop (0 + i) before) n (get_or from i 0)) (sym (zero-add i))
    ∙ paste-suc before 0 from i 0 (rw (zero-add i) h) k
    ∙ ap (λ (n : ℕ). take n from ++ drop (0 + n) before) (sym (add-one i))
    ∙ ap (λ (n : ℕ). take (i + 1) from ++ drop n before) (zero-add (i + 1))

pub loop-i-init : goal.loop-i-init
loop-i-init c = (refl, refl)

pub loop-i-preserved : goal.loop-i-preserved
loop-i-preserved c =
    let a = c.args in
    let l = c.loop-i in
    (more a.from.now a.to.now l.to l.i (omega arith) (omega arith) l.invariant.0, length-set l.to l.i _ ∙ l.invariant.1)

pub returns : goal.returns
returns c =
    let from = c.args.from.now in
    let to = c.args.to.now in
    let e : c.loop-i.i ≡ length from = omega arith in
    c.loop-i.invariant.0
    ∙ ap (λ (n : ℕ). take n from ++ drop n to) e
    ∙ ap (λ (l : List ℕ). l ++ drop (length from) to) (take-length from)
