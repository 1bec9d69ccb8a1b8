-- `seat` is the place among those that are used.
use mathlib.Core.Path.{◌∙◌}
use Prim.Native.Nat.{min}
use Rattle.member.proofs.Halves.{seat_least}
use Rattle.member.proofs.Member.seat.Goals as goal

pub returns : goal.returns
returns c =
    let m = c.args.self.now in
    c.min.ensures ∙ (λ j. min (c.place.ensures j) (c.used.ensures.0 j)) ∙ seat_least m.rows m.count c.args.name
