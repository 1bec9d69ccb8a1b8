-- `put` gives the name the version after the one found, unless that is too large or a member has no place.
use Rattle.std.proofs.Common.{◌≡◌, ◌+◌, refl, sym, ◌∙◌, rules, arith}
use lib.Count.{ones}
use Rattle.member.specs.Change.{fits_write}
use Rattle.suite.specs.Calls.{asked_of, all_fit, effect_of}
use Rattle.suite.specs.Question as question
use Rattle.suite.specs.Effect as effect
use Rattle.suite.proofs.Calling.{granted-full, granted-done}
use Rattle.suite.proofs.Surveys.{fit_lem}
use Rattle.suite.proofs.Suite.put.Goals as goal
use Rattle.suite.proofs.Suite.put.Goals.{After-all_fit}

-- whether the name fits all members of the write set
fit : (c : After-all_fit) → all_fit (asked_of c.args.self.now c.args.write (question.FitsWrite c.args.name)) ≡ c.all_fit.result
fit c =
    let a = c.args in
    sym (c.all_fit.ensures (λ m. fits_write m a.name) (λ m b k. search rules) ∙ fit_lem (λ m. fits_write m a.name) a.self.now a.write (question.FitsWrite a.name) (λ m. refl))

pub returns-then-not-all_fit : goal.returns-then-not-all_fit
returns-then-not-all_fit c =
    let a = c.args in
    granted-full a.self.now a.write (a.version + 1) (ones a.read + ones a.write) (question.FitsWrite a.name) (effect.Write a.name (a.version + 1) a.value)
    (omega arith) (fit (goal.at.returns-then-not-all_fit c).After-all_fit ∙ c.if-not-all_fit.true)

pub returns : goal.returns
returns c =
    let a = c.args in
    let write = effect.Write a.name (a.version + 1) a.value in
    granted-done a.self.now a.write (a.version + 1) (ones a.read + ones a.write) (question.FitsWrite a.name) write
    (omega arith) (fit (goal.at.returns c).After-all_fit ∙ c.if-not-all_fit.false) c.change.new.self
    (c.change.ensures (effect_of write) (λ m m' k. search rules))
