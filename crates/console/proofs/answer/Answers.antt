-- Answers a chunk: a call takes a byte at least, and no more than there are.
use Rattle.std.proofs.Common.{ℕ, ◌≤◌, ◌<◌, length, length-take, length-drop, arith, rules}
use Rattle.run.specs.Lent.{course_in}
use Rattle.run.proofs.Bounds.{taken_within, goes_on}
use Rattle.console.proofs.answer.Given as given
use Rattle.console.proofs.answer.Goals as goal
use Rattle.console.proofs.answer.Goals.{In-Ok}

within : (g : given.Over) (c : In-Ok g) → c.in-Ok.ran.taken ≤ length c.loop-rest.rest.now
within g c =
    let b = c.loop-rest in
    taken_within c.in-Ok.ran c.run.new.session (course_in b.session) b.rest.now (length b.out) c.in-Ok.ensures.lent_after

pub slice_bounds-rest-count : goal.slice_bounds-rest-count
slice_bounds-rest-count g c = within g (goal.at.slice_bounds-rest-count g c).In-Ok

pub slice_bounds-rest-start : goal.slice_bounds-rest-start
slice_bounds-rest-start g c = within g (goal.at.slice_bounds-rest-start g c).In-Ok

pub loop-rest-smaller : goal.loop-rest-smaller
loop-rest-smaller g c =
    let b = c.loop-rest in
    let some : 0 < length b.rest.now = search rules in
    let more = goes_on c.in-Ok.ran c.run.new.session (course_in b.session) b.rest.now (length b.out) c.in-Ok.ensures.lent_after some in
    omega (arith, within g (goal.at.loop-rest-smaller g c).In-Ok, length-take {A = ℕ}, length-drop {A = ℕ})
