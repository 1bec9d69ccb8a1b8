-- `put_votes` puts the votes, one after another.
use native.Mathlib.Omega.{arith}
use mathlib.Core.Path.{◌≡◌, refl, ap, ◌∙◌}
use Prim.Native.Nat.{◌+◌}
use lib.ListN.{length}
use Rattle.fields.specs.Field.{append_of}
use Rattle.image.specs.Layout.{vote_pieces, widths}
use Rattle.image.proofs.Putting.{appended_field, put-start, put-more, put-end}
use Rattle.image.proofs.writer.put_votes.Goals as goal

pub loop-vote-init : goal.loop-vote-init
loop-vote-init c = (put-start vote_pieces _ _ _, omega arith)

pub loop-vote-preserved : goal.loop-vote-preserved
unfolding vote_pieces widths
loop-vote-preserved c =
    let a = c.args in
    let l = c.loop-vote in
    let same : length l.out ≡ length a.out.now = l.invariant.0.put.same_length in (
      put-more vote_pieces a.votes.now a.out.now a.at 0 l.out c.append.new.bytes l.next (l.next + 4) l.vote-index l.invariant.0 c.loop-vote-test.true
          (appended_field l.out c.append.new.bytes l.next 4 _ (omega arith) (omega arith) (c.append.ensures ∙ ap (append_of l.out l.next 4) c.from.ensures))
          refl,
      omega arith,
    )

pub shape_of-out : goal.shape_of-out
shape_of-out c = c.loop-vote.invariant.0.put.same_length

pub returns : goal.returns
returns c =
    let a = c.args in
    let l = c.loop-vote in
    let r = put-end vote_pieces a.votes.now a.out.now a.at l.out l.next l.vote-index l.invariant.0 (omega arith) in
    (r.0, (omega (arith, l.invariant.1, l.invariant.0.few), r.1))
