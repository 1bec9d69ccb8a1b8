-- `run::finish`: a newline ends the held line.
use Rattle.std.proofs.Common.{◌≡◌, sym, ◌∙◌, ap, arith, rules, length, length-take, []}
use Rattle.suite.specs.Outcome.{answered}
use Rattle.run.specs.Course.{Told}
use Rattle.run.specs.Lent.{course_in, held_in, report_of, placed}
use Rattle.run.proofs.Whole.{none_left, some_left}
use Rattle.run.proofs.Steps.{nothing-held, cleared-tidy}
use Rattle.run.proofs.finish.Goals as goal

pub returns-then-session-eq0 : goal.returns-then-session-eq0
returns-then-session-eq0 c =
    let s = c.args.session.now in
    let out = c.args.out.now in
    let same = nothing-held s c.if-session-eq0.true c.clear.new.self c.clear.ensures in
    let none : length (held_in s) ≡ 0 = omega (arith, length-take s.held s.line, c.if-session-eq0.true) in
    let told = sym (none_left (course_in s) (length out) none) in
    record {
      lent_after = (λ j. record { outcome = answered []; course = same j; taken = 0; written = 0 }) ∙ ap report_of told;
      out_after = ap (λ (t : Told). placed t out) told;
      session_value = cleared-tidy c.clear.new.self s.standing c.clear.ensures;
    }

pub returns : goal.returns
returns c =
    let s = c.args.session.now in
    let out = c.args.out.now in
    let long : length s.line ≡ 81 = search rules in
    let some : length (held_in s) ≡ 0 → ⊥ = λ e. c.if-session-eq0.false (omega (arith, length-take s.held s.line)) in
    let told = sym (some_left (course_in s) (length out) some) in
    record {
      lent_after = c.run.ensures.lent_after ∙ ap report_of told;
      out_after = c.run.ensures.out_after ∙ ap (λ (t : Told). placed t out) told;
      session_value = c.run.ensures.session_value;
    }
