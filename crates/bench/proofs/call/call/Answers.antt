-- `call` gives the answer of the call that the operation stands for.
use Rattle.std.proofs.Common.{refl, ap, ◌∙◌}
use Rattle.suite.specs.Calls.{Result}
use Rattle.bench.specs.Bench.{numbers_of}
use Rattle.bench.proofs.Stepping.{numbers-reading, refusing, changing, asking}
use Rattle.bench.proofs.call.call.Goals as goal

pub returns-in_err-looked-in-Lookup : goal.returns-in_err-looked-in-Lookup
returns-in_err-looked-in-Lookup c = λ answer.
    let a = c.args in
    let x = a.arguments in
    refusing a.suite.now x.read x.write x.name x.value a.out.now answer a.operation _ c.in-Lookup.is c.from_residual.result _
    c.from_residual.ensures.1 c.in_err-looked-in-Lookup.ensures

pub returns-in_ok-looked-in-Lookup : goal.returns-in_ok-looked-in-Lookup
returns-in_ok-looked-in-Lookup c = λ answer.
    let a = c.args in
    let x = a.arguments in
    let l = c.in_ok-looked-in-Lookup.looked in
    asking a.suite.now x.read x.write x.name x.value a.out.now answer a.operation _ c.in-Lookup.is
    _ _ _ (c.shown.ensures ∙ numbers-reading l.reading l.requests) a.image.now refl c.in_ok-looked-in-Lookup.ensures c.requires
    (c.kept.ensures answer)

pub returns-in_err-done-in-Insert : goal.returns-in_err-done-in-Insert
returns-in_err-done-in-Insert c = λ answer.
    let a = c.args in
    let x = a.arguments in
    refusing a.suite.now x.read x.write x.name x.value a.out.now answer a.operation _ c.in-Insert.is c.from_residual-in_err-done-in-Insert.result _
    c.from_residual-in_err-done-in-Insert.ensures.1 (ap (λ (r : Result). r.outcome) c.in_err-done-in-Insert.ensures)

pub returns-in_ok-done-in-Insert : goal.returns-in_ok-done-in-Insert
unfolding numbers_of
returns-in_ok-done-in-Insert c = λ answer.
    let a = c.args in
    let x = a.arguments in
    changing a.suite.now x.read x.write x.name x.value a.out.now answer a.operation _ c.in-Insert.is
    _ _ _ refl _ c.in_ok-done-in-Insert.ensures
    (c.written.ensures answer)

pub returns-in_err-done-in-Update : goal.returns-in_err-done-in-Update
returns-in_err-done-in-Update c = λ answer.
    let a = c.args in
    let x = a.arguments in
    refusing a.suite.now x.read x.write x.name x.value a.out.now answer a.operation _ c.in-Update.is c.from_residual-in_err-done-in-Update.result _
    c.from_residual-in_err-done-in-Update.ensures.1 (ap (λ (r : Result). r.outcome) c.in_err-done-in-Update.ensures)

pub returns-in_ok-done-in-Update : goal.returns-in_ok-done-in-Update
unfolding numbers_of
returns-in_ok-done-in-Update c = λ answer.
    let a = c.args in
    let x = a.arguments in
    changing a.suite.now x.read x.write x.name x.value a.out.now answer a.operation _ c.in-Update.is
    _ _ _ refl _ c.in_ok-done-in-Update.ensures
    (c.written-in-Update.ensures answer)

pub returns-in_err-done-in-Remove : goal.returns-in_err-done-in-Remove
returns-in_err-done-in-Remove c = λ answer.
    let a = c.args in
    let x = a.arguments in
    refusing a.suite.now x.read x.write x.name x.value a.out.now answer a.operation _ c.in-Remove.is c.from_residual-in_err-done-in-Remove.result _
    c.from_residual-in_err-done-in-Remove.ensures.1 (ap (λ (r : Result). r.outcome) c.in_err-done-in-Remove.ensures)

pub returns-in_ok-done-in-Remove : goal.returns-in_ok-done-in-Remove
unfolding numbers_of
returns-in_ok-done-in-Remove c = λ answer.
    let a = c.args in
    let x = a.arguments in
    changing a.suite.now x.read x.write x.name x.value a.out.now answer a.operation _ c.in-Remove.is
    _ _ _ refl _ c.in_ok-done-in-Remove.ensures
    (c.written-in-Remove.ensures answer)

pub returns-in_err-below-in-Neighbours : goal.returns-in_err-below-in-Neighbours
returns-in_err-below-in-Neighbours c = λ answer.
    let a = c.args in
    let x = a.arguments in
    refusing a.suite.now x.read x.write x.name x.value a.out.now answer a.operation _ c.in-Neighbours.is c.from_residual-in_err-below-in-Neighbours.result _
    c.from_residual-in_err-below-in-Neighbours.ensures.1 c.in_err-below-in-Neighbours.ensures

pub returns-in_ok-below-in-Neighbours : goal.returns-in_ok-below-in-Neighbours
unfolding numbers_of
returns-in_ok-below-in-Neighbours c = λ answer.
    let a = c.args in
    let x = a.arguments in
    asking a.suite.now x.read x.write x.name x.value a.out.now answer a.operation _ c.in-Neighbours.is
    _ _ _ refl a.image.now refl c.in_ok-below-in-Neighbours.ensures c.requires
    (c.kept-in-Neighbours.ensures answer)
