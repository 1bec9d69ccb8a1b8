-- `put` gives the entry its version and value, or puts a row in with the version of the gap that it splits.
use mathlib.Core.Path.{◌≡◌, sym, ◌∙◌}
use Prim.Native.Nat.{◌≤◌, ◌<◌, ◌+◌}
use native.Mathlib.Omega.{arith}
use lib.ListN.{length}
use Rattle.member.specs.Tile.{entries}
use Rattle.member.specs.Search.{seat_in, next_in}
use Rattle.member.specs.SearchLaws.{name_cut, below-le-length}
use Rattle.member.proofs.Rows.{next-held_rows, next_other_rows}
use Rattle.member.proofs.Writes.{write-held, write_new, write_full}
use Rattle.member.proofs.Member.put.Goals as goal
use Rattle.member.proofs.Member.put.Goals.{else-at-n-via-then-at-n+else-self-at, else-at-n-via-else-at-n}

pub returns-then-self-at : goal.returns-then-self-at
returns-then-self-at c =
    let a = c.args in
    let l = entries a.self.now in
    let i = c.seat-at.result in
    let n : length l ≡ c.used-n.result = sym c.used-n.ensures.0 in
    let s : i ≡ seat_in l a.name = c.seat-at.ensures in
    let h : i < length l = omega arith in
    let t : i + 1 ≡ next_in l a.name = next-held_rows a.self.now a.name i s h c.if-self-at.true in
    rw n at (write-held a.self.now a.name a.version a.value i s t h (omega arith))

pub gap_below-split-requires : goal.gap_below-split-requires
gap_below-split-requires c =
    omega (arith, below-le-length (name_cut c.args.name) (entries c.args.self.now))

pub insert-requires : goal.insert-requires
insert-requires c =
    omega (arith, below-le-length (name_cut c.args.name) (entries c.args.self.now))

pub returns-then-n-lt-SLOTS : goal.returns-then-n-lt-SLOTS
returns-then-n-lt-SLOTS c =
    let a = c.args in
    let l = entries a.self.now in
    let i = c.seat-at.result in
    let n : length l ≡ c.used-n.result = sym c.used-n.ensures.0 in
    let s : i ≡ seat_in l a.name = c.seat-at.ensures in
    let t : i ≡ next_in l a.name =
    elim c.else-at-n.branch [
      | else-at-n-via-then-at-n+else-self-at w ↦ next_other_rows a.self.now a.name i s (λ h. w.if-self-at.false)
      | else-at-n-via-else-at-n w ↦ next_other_rows a.self.now a.name i s (λ h e. omega arith)
    ] in
    let h : i ≤ length l = omega (arith, below-le-length (name_cut a.name) l) in
    c.insert.ensures
    ∙ write_new a.self.now a.name a.version a.value i s t h c.gap_below-split.result c.gap_below-split.ensures (omega arith)

pub returns-else-n-lt-SLOTS : goal.returns-else-n-lt-SLOTS
returns-else-n-lt-SLOTS c =
    let a = c.args in
    let l = entries a.self.now in
    let i = c.seat-at.result in
    let n : length l ≡ c.used-n.result = sym c.used-n.ensures.0 in
    let s : i ≡ seat_in l a.name = c.seat-at.ensures in
    let t : i ≡ next_in l a.name =
    elim c.else-at-n.branch [
      | else-at-n-via-then-at-n+else-self-at w ↦ next_other_rows a.self.now a.name i s (λ h. w.if-self-at.false)
      | else-at-n-via-else-at-n w ↦ next_other_rows a.self.now a.name i s (λ h e. omega arith)
    ] in
    let h : i ≤ length l = omega (arith, below-le-length (name_cut a.name) l) in
    write_full a.self.now a.name a.version a.value i s t h (omega arith)
