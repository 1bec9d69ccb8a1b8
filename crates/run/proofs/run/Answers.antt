-- `run::run`: refused, held whole, or its first line and the rest.
use Rattle.std.proofs.Common.{refl, ap, not, ◌+◌, ◌<◌, arith, length, drop}
use Rattle.line.specs.Lent.{answer_in}
use Rattle.run.specs.Course.{end_in}
use Rattle.run.specs.Lent.{course_in}
use Rattle.run.specs.ToldLaws.{told-unsound, told-short}
use Rattle.run.proofs.Steps.{held-course, held-tidy}
use Rattle.run.proofs.Whole.{is_unsound, is_sound, refused_is, held_is, filled_within, ran-is}
use Rattle.run.proofs.run.Goals as goal
use Rattle.run.proofs.run.Goals.{After-line_end-end, Else-last_end-eq0}

pub returns-then-not-is_sound : goal.returns-then-not-is_sound
returns-then-not-is_sound c =
    let a = c.args in
    let course = course_in a.session.now in
    let u = is_unsound _ _ c.is_sound.ensures (ap not c.if-not-is_sound.true) in
    let r = refused_is _ 1 course a.out.now (told-unsound course a.text.now (length a.out.now) u) in
    record { lent_after = r.0; out_after = r.1; session_value = refl }

pub returns-then-last_end-eq0 : goal.returns-then-last_end-eq0
returns-then-last_end-eq0 c =
    let a = c.args in
    let none = c.last_end.ensures.by_index_2 0 (omega (arith, c.if-last_end-eq0.true)) (omega arith) in
    let s = is_sound _ _ c.is_sound.ensures (ap not c.if-not-is_sound.false) in
    let r =
    held_is (course_in a.session.now) a.text.now a.out.now s none _ (held-course c.hold.new.self a.session.now a.text.now c.hold.ensures) in
    record {
      lent_after = r.0;
      out_after = r.1;
      session_value = held-tidy c.hold.new.self a.session.now a.text.now c.hold.ensures;
    }

-- a line ends in the text
line-ahead : (c : Else-last_end-eq0) → 0 + end_in (drop 0 c.args.text.now) < length c.args.text.now
line-ahead c = c.last_end.ensures.by_index 0 (omega (arith, c.if-last_end-eq0.false))

pub returns-then-out-lt-LONGEST : goal.returns-then-out-lt-LONGEST
returns-then-out-lt-LONGEST c =
    let a = c.args in
    let course = course_in a.session.now in
    let h : end_in a.text.now < length a.text.now = omega (arith, line-ahead (goal.at.returns-then-out-lt-LONGEST c).Else-last_end-eq0) in
    let s = is_sound _ _ c.is_sound.ensures (ap not c.if-not-is_sound.false) in
    let r = refused_is _ 19 course a.out.now (told-short course a.text.now (length a.out.now) s h c.if-out-lt-LONGEST.true) in
    record { lent_after = r.0; out_after = r.1; session_value = refl }

ends-within : (c : After-line_end-end) → c.line_end-end.result < length c.args.text.now
ends-within c =
    let ahead = c.last_end.ensures.by_index 0 (omega (arith, c.if-last_end-eq0.false)) in
    omega (arith, c.line_end-end.ensures)

pub rest-requires : goal.rest-requires
rest-requires c = (
  c.ended-reply.ensures.cleared,
  (
    omega (arith, ends-within (goal.at.rest-requires c).After-line_end-end),
    filled_within c.args.out.now _ c.if-out-lt-LONGEST.false _ c.print-written.ensures.value _ c.print-written.ensures.out_after,
  ),
)

pub returns : goal.returns
returns c =
    let a = c.args in
    let s = is_sound _ _ c.is_sound.ensures (ap not c.if-not-is_sound.false) in
    let r =
    ran-is (course_in a.session.now) a.text.now a.out.now c.line_end-end.result s c.line_end-end.ensures
    (ends-within (goal.at.returns c).After-line_end-end) c.if-out-lt-LONGEST.false (answer_in c.ended-reply.result c.ended-reply.new.self.standing)
    c.ended-reply.ensures.answer _ c.print-written.ensures.value _
    c.print-written.ensures.out_after _ _ c.rest.ensures.lent_after c.rest.ensures.out_after in
    record { lent_after = r.0; out_after = r.1; session_value = c.rest.ensures.session_value }
