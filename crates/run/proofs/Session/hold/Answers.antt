-- `run::Session::hold`: the bytes that are held, and as many more as are kept, with zeros behind them.
use Rattle.std.proofs.Common.{◌≡◌, ◌-◌, length, replicate, rules}
use Rattle.run.proofs.Holding.{holds}
use Rattle.run.proofs.Session.hold.Goals as goal

pub returns : goal.returns
returns c =
    let s = c.args.self.now in
    let long : length s.line ≡ 81 = search rules in
    let zeros : c.fill.new.self ≡ replicate (81 - c.min-at.result) 0 = search rules in
    holds s.line c.args.more.now s.held c.min-at.result c.min-kept.result long c.min-at.ensures c.min-kept.ensures _ zeros _ _
    c.copy_from_slice.ensures.after
