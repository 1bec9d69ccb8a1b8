-- `shift` copies the entries to their place, and zero into the places that fall free.
use mathlib.Core.Path.{◌≡◌, ◌∙◌}
use borrow.Author.Rules.{rules}
use Prim.Native.Nat.{◌+◌, ◌-◌, ◌≤◌}
use lib.ListN.{length}
use native.Mathlib.Omega.{arith}
use Rattle.member.specs.Tile.{entries}
use Rattle.member.proofs.Rows.{length_of_map}
use Rattle.member.proofs.Moves.{shifted-up, shifted-down}
use Rattle.member.proofs.Member.shift.Goals as goal
use Rattle.member.proofs.Member.shift.Goals.{then-end-n, else-end-n}

pub returns : goal.returns
returns c =
    let a = c.args in
    let m = a.self.now in
    let n = c.used-n in
    let e : length m.rows ≡ 32 = search (rules, length_of_map) in
    let k : a.to + (length (entries m) - a.at) ≤ length m.rows = omega arith in
    let y = c.copy_within in
    elim c.if-end-n.branch [
      | then-end-n w ↦ (λ t. record { low = (w.self-is t).low; count = a.to + (n.result - a.at); rows = (w.self-is t).rows })
          ∙ shifted-down m a.at a.to c.requires.0 k n.result n.ensures.0 y.new.self y.ensures.after w.if-end-n.true w.fill.new.self (w.fill.ensures.after (λ r p. p))
      | else-end-n w ↦ (λ t. record { low = (w.self-is t).low; count = a.to + (n.result - a.at); rows = (w.self-is t).rows })
          ∙ shifted-up m a.at a.to c.requires.0 k n.result n.ensures.0 y.new.self y.ensures.after w.if-end-n.false
    ]
