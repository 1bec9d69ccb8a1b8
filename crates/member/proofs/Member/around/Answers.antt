-- `around` asks for the gaps below the place of the name and below the place next above it.
use native.Mathlib.Omega.{arith}
use Rattle.member.specs.Tile.{entries}
use Rattle.member.proofs.Seats.{seat_le, next_le}
use Rattle.member.proofs.Member.around.Goals as goal

pub gap_below-requires : goal.gap_below-requires
gap_below-requires c = omega (arith, seat_le (entries c.args.self.now) c.args.name)

pub end_below-requires : goal.end_below-requires
end_below-requires c = omega (arith, seat_le (entries c.args.self.now) c.args.name)

pub gap_below-requires-2 : goal.gap_below-requires-2
gap_below-requires-2 c = omega (arith, next_le (entries c.args.self.now) c.args.name)
