-- `run::Session::ended`: what is kept of the whole line is answered as the whole line is.
use Rattle.std.proofs.Common.{◌∙◌, ap}
use Rattle.line.specs.Lent.{answer_in}
use Rattle.run.specs.declared.Session.{Session}
use Rattle.run.proofs.Steps.{held_within, whole-answer, nothing-before}
use Rattle.run.proofs.Session.ended.Goals as goal
use Rattle.run.proofs.Session.ended.Goals.{then-self-eq0, else-self-eq0}

pub shared_ref_as_front-answer_unchecked : goal.shared_ref_as_front-answer_unchecked
shared_ref_as_front-answer_unchecked c = held_within c.hold.new.self c.args.self.now c.args.rest.now c.hold.ensures

pub returns-clause-answer : goal.returns-clause-answer
returns-clause-answer c =
    let j = c.if-self-eq0 in
    ap (λ (s : Session). answer_in j.reply s.standing) c.clear.ensures
    ∙ elim j.branch [
      | then-self-eq0 w ↦
          (λ i. answer_in (w.reply-is i) (w.self-is i).standing)
          ∙ w.answer_unchecked-reply.ensures
          ∙ nothing-before c.args.self.now w.if-self-eq0.true c.args.rest.now
      | else-self-eq0 w ↦
          (λ i. answer_in (w.reply-is i) (w.self-is i).standing)
          ∙ whole-answer w.hold.new.self c.args.self.now c.args.rest.now w.hold.ensures _ w.answer_unchecked-reply-else-self-eq0.ensures
    ]
