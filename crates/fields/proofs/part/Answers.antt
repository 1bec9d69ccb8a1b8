-- `fields::part` meets its contract: a mask of w ones keeps the remainder by 2 ^ w.
-- Assumes nothing.
use Rattle.fields.proofs.Shifts.{mask_room, mask_part}
use Rattle.fields.proofs.part.Goals as goal

pub overflow_sub-result : goal.overflow_sub-result
overflow_sub-result c = mask_room c.args.width c.requires.1

pub returns : goal.returns
returns c = mask_part c.args.word c.args.after c.args.width c.requires.1
