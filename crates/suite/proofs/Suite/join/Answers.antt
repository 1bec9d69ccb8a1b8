-- `join` coalesces the neighbours found with a version above all that the gap replaces, unless that is too large or a member has no place.
use Rattle.std.proofs.Common.{◌≡◌, ◌+◌, ◌*◌, refl, sym, ◌∙◌, rules, arith}
use lib.Count.{ones}
use Rattle.member.specs.Change.{fits_coalesce}
use Rattle.suite.specs.Calls.{asked_of, all_fit, effect_of}
use Rattle.suite.specs.Question as question
use Rattle.suite.specs.Effect as effect
use Rattle.suite.proofs.Calling.{joined, granted-full, granted-done}
use Rattle.suite.proofs.Surveys.{fit_lem}
use Rattle.suite.proofs.Suite.join.Goals as goal
use Rattle.suite.proofs.Suite.join.Goals.{After-all_fit}

-- whether the gap fits all members of the write set
fit : (c : After-all_fit) → all_fit (asked_of c.args.self.now c.args.write (question.FitsCoalesce c.args.found.below.end c.args.found.above.end)) ≡ c.all_fit.result
fit c =
    let a = c.args in
    let found = a.found in
    sym
    (c.all_fit.ensures (λ m. fits_coalesce m found.below.end found.above.end) (λ m b k. search rules)
    ∙ fit_lem (λ m. fits_coalesce m found.below.end found.above.end) a.self.now a.write (question.FitsCoalesce found.below.end found.above.end) (λ m. refl))

pub returns-then-not-all_fit : goal.returns-then-not-all_fit
returns-then-not-all_fit c =
    let a = c.args in
    let found = a.found in
    let g = c.max-newest.result + 1 in
    granted-full a.self.now a.write g (2 * ones a.read + ones a.write) (question.FitsCoalesce found.below.end found.above.end)
    (effect.Coalesce found.below found.above g) (omega arith) (fit (goal.at.returns-then-not-all_fit c).After-all_fit ∙ c.if-not-all_fit.true)
    ∙ joined a.self.now a.read a.write a.version found c.max.result c.max-newest.result c.max.ensures c.max-newest.ensures

pub returns : goal.returns
returns c =
    let a = c.args in
    let found = a.found in
    let g = c.max-newest.result + 1 in
    let coalesce = effect.Coalesce found.below found.above g in
    granted-done a.self.now a.write g (2 * ones a.read + ones a.write) (question.FitsCoalesce found.below.end found.above.end)
    coalesce (omega arith) (fit (goal.at.returns c).After-all_fit ∙ c.if-not-all_fit.false)
    c.change.new.self (c.change.ensures (effect_of coalesce) (λ m m' k. search rules))
    ∙ joined a.self.now a.read a.write a.version found c.max.result c.max-newest.result c.max.ensures c.max-newest.ensures
