-- `fits_write` looks for the name only where no place is free.
use native.Mathlib.Omega.{arith}
use borrow.Author.Tests.{le-ltb}
use mathlib.Core.Path.{◌≡◌, ◌∙◌, sym}
use Rattle.member.specs.Tile.{entries}
use Rattle.member.specs.Search.{seat_in}
use Rattle.member.proofs.Seats.{held-here, held-nowhere, fits_free, fits_full}
use Rattle.member.proofs.Member.fits_write.Goals as goal

pub returns-then-n-lt-SLOTS : goal.returns-then-n-lt-SLOTS
returns-then-n-lt-SLOTS c = fits_free c.args.self.now c.args.name (omega arith)

pub returns-then-at-n : goal.returns-then-at-n
returns-then-at-n c =
    let m = c.args.self.now in
    let x = c.args.name in
    let s : c.seat-at.result ≡ seat_in (entries m) x = c.seat-at.ensures in
    sym (held-here m x _ s (omega arith)) ∙ fits_full m x (omega arith)

pub returns-else-at-n : goal.returns-else-at-n
returns-else-at-n c =
    let m = c.args.self.now in
    let x = c.args.name in
    let s : c.seat-at.result ≡ seat_in (entries m) x = c.seat-at.ensures in
    le-ltb c.seat-at.result c.used-n.result (omega arith) ∙ sym (held-nowhere m x _ s (omega arith)) ∙ fits_full m x (omega arith)
