-- `run::lines::rest`: what is said so far, joined to the run over the rest of the text, is the run over all of it.
use Rattle.std.proofs.Common.{refl, ap, ◌∙◌, arith, ◌-◌, ◌<◌, length, take, drop}
use Rattle.line.specs.Lent.{answer_in}
use Rattle.run.specs.Course.{Course, holding}
use Rattle.run.proofs.Going.{begin, stopped, exhausted, step}
use Rattle.run.proofs.Steps.{cleared-course, cleared-tidy, held-course, held-tidy}
use Rattle.run.proofs.lines.rest.Goals as goal
use Rattle.run.proofs.lines.rest.Goals.{After-line_end-end}

pub loop-at-init : goal.loop-at-init
loop-at-init c = record { cleared = c.requires.0; going = begin _ _ _ _ _ c.requires.1.0 c.requires.1.1 }

-- the line that ends at the next newline
ends-within : (c : After-line_end-end) → c.line_end-end.result < length c.args.text.now
ends-within c = omega (arith, c.line_end-end.ensures, c.last_end-last.ensures.by_index _ c.loop-at-test.true)

pub returns-then-out-written-lt-LONGEST : goal.returns-then-out-written-lt-LONGEST
returns-then-out-written-lt-LONGEST c =
    let b = c.loop-at in
    let h = c.last_end-last.ensures.by_index b.at c.loop-at-test.true in
    let r = stopped b.invariant.going _ refl h (omega arith) _ (cleared-course b.session _ b.invariant.cleared) in
    record { lent_after = r.0; out_after = r.1; session_value = cleared-tidy b.session _ b.invariant.cleared }

pub loop-at-preserved : goal.loop-at-preserved
loop-at-preserved c =
    let b = c.loop-at in
    let standing = c.answer_unchecked-reply.new.standing in
    record {
      cleared = λ j. record { standing = standing; line = (b.invariant.cleared j).line; held = (b.invariant.cleared j).held };
      going = step b.invariant.going _ c.line_end-end.ensures (ends-within (goal.at.loop-at-preserved c).After-line_end-end) (omega arith)
          (answer_in c.answer_unchecked-reply.result standing) c.answer_unchecked-reply.ensures _ _ c.print-written.ensures.value
          c.print-written.ensures.out_after;
    }

pub returns : goal.returns
returns c =
    let b = c.loop-at in
    let h = c.last_end-last.ensures.by_index_2 b.at c.loop-at-test.false b.invariant.going.place in
    let held = held-course c.hold.new.self b.session _ c.hold.ensures ∙ ap (λ (d : Course). holding d (take (length c.args.text.now - b.at) (drop b.at c.args.text.now))) (cleared-course b.session _ b.invariant.cleared) in
    let r = exhausted b.invariant.going h _ held in
    record { lent_after = r.0; out_after = r.1; session_value = held-tidy c.hold.new.self b.session _ c.hold.ensures }
