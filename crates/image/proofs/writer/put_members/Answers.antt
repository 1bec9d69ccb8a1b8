-- `put_members` puts the members, one after another.
use native.Mathlib.Omega.{arith}
use mathlib.Core.List.{[]}
use Rattle.member.specs.declared.Member.{Member}
use Rattle.image.specs.Layout.{member_pieces}
use Rattle.image.proofs.Putting.{put-start, put-more, put-end}
use Rattle.image.proofs.writer.put_members.Goals as goal

pub loop-member-init : goal.loop-member-init
loop-member-init c = (put-start (member_pieces 20) _ _ _, omega arith)

pub put_member-next-requires : goal.put_member-next-requires
put_member-next-requires c =
    let l = c.loop-member in
    let same = l.invariant.0.put.same_length in
    omega arith

pub loop-member-preserved : goal.loop-member-preserved
loop-member-preserved c =
    let a = c.args in
    let l = c.loop-member in
    let p = c.put_member-next in
    let t = a.members.now in
    let nobody : Member = record { low = 0; count = 0; rows = [] } in (
      put-more (member_pieces 20) t a.out.now a.at nobody l.out p.new.out l.next p.result l.member-index l.invariant.0 (omega arith)
          p.ensures.1.1
          p.ensures.0,
      omega (arith, p.ensures.1.0),
    )

pub shape_of-out : goal.shape_of-out
shape_of-out c = c.loop-member.invariant.0.put.same_length

pub returns : goal.returns
returns c =
    let a = c.args in
    let l = c.loop-member in
    let r = put-end (member_pieces 20) a.members.now a.out.now a.at l.out l.next l.member-index l.invariant.0 (omega arith) in
    (r.0, (omega (arith, l.invariant.1, l.invariant.0.few), r.1))
