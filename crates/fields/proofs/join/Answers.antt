-- `fields::join` meets its contract: neither shift loses a bit.
-- Assumes nothing.
use Rattle.fields.proofs.Shifts.{join-room, join_is}
use Rattle.fields.proofs.join.Goals as goal

pub overflow_add-result : goal.overflow_add-result
overflow_add-result c =
    let a = c.args in
    let p = c.requires.1.1 in
    record { fits = join-room a.before a.after a.width a.v c.part.result p.0 p.1 c.part.ensures }

pub returns : goal.returns
returns c =
    let a = c.args in
    let p = c.requires.1.1 in
    join_is a.before a.after a.width a.v c.part.result p.0 p.1 c.part.ensures
