-- `text::print`: where the text fits it is written in front of its end.
use native.Mathlib.Omega.{arith}
use Rattle.text.proofs.Printing.{no_room, fits}
use Rattle.text.proofs.print.Goals as goal

pub returns-then-out-size : goal.returns-then-out-size
returns-then-out-size c =
    let both = no_room _ _ _ c.size-size.ensures (omega arith) in
    record { value = both.0; out_after = both.1 }

pub returns-then-out-size-2 : goal.returns-then-out-size-2
returns-then-out-size-2 c =
    let both = no_room _ _ _ c.size-size.ensures (omega arith) in
    record { value = both.0; out_after = both.1 }

pub returns : goal.returns
returns c =
    let both = fits _ _ _ c.size-size.ensures (omega arith) c.line.ensures in
    record { value = both.0; out_after = both.1 }
