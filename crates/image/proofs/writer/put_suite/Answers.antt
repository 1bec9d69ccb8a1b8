-- `put_suite` puts every field of a suite.
use native.Mathlib.Omega.{arith}
use lib.ListN.{length-take}
use mathlib.Core.Path.{ap, ◌∙◌}
use Rattle.fields.specs.Field.{append_of}
use Rattle.image.proofs.Writing.{suite_put}
use Rattle.image.proofs.writer.put_suite.Goals as goal

pub put_members-requires : goal.put_members-requires
put_members-requires c =
    let d = c.args.suite.now in
    let n = c.size-size.ensures in
    let q = c.put_votes-next in (
      omega (arith, q.ensures.1.0),
      (omega (arith, length-take c.size-size.result d.members, n.1.1), omega (arith, q.ensures.1.0, c.put_votes-next.auto.out, c.append-4.auto.bytes, c.append-3.auto.bytes, c.append-2.auto.bytes, c.append.auto.bytes, c.requires)),
    )

pub returns : goal.returns
returns c =
    let d = c.args.suite.now in
    let n = c.size-size in
    let f₁ = c.append in
    let f₂ = c.append-2 in
    let f₃ = c.append-3 in
    let f₄ = c.append-4 in
    let q = c.put_votes-next in
    let p = c.put_members in
    let r =
    suite_put d c.args.out.now f₁.new.bytes f₂.new.bytes f₃.new.bytes f₄.new.bytes q.new.out p.new.out n.result c.saturating_sub.result q.result p.result
    (omega (arith, c.requires))
    n.ensures.0
    n.ensures.1.0
    c.saturating_sub.ensures
    (f₁.ensures ∙ ap (append_of c.args.out.now 0 4) c.from.ensures)
    f₂.ensures
    (f₃.ensures ∙ ap (append_of f₂.new.bytes 7 7) c.from-2.ensures)
    (f₄.ensures ∙ ap (append_of f₃.new.bytes 14 7) c.from-3.ensures)
    q.ensures.0
    q.ensures.1.1
    p.ensures.0
    p.ensures.1.1
    in
    (r.0, (omega (arith, p.ensures.1.0, q.ensures.1.0), r.1))
