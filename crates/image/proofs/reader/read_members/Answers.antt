-- `read_members` reads member after member into the members, or ends with the first fault.
use native.Mathlib.Omega.{arith}
use lib.ListN.{length}
use Rattle.std.proofs.lemmas.Result.{err_from_is_err_and}
use Rattle.member.specs.Tile.{fresh_tile}
use Rattle.suite.specs.Outcome.{number_of}
use Rattle.image.specs.Reader.{read_member}
use Rattle.image.proofs.Reading.{places-start, places-next, places-more, places-fault, places-end}
use Rattle.image.proofs.reader.read_members.Goals as goal

pub loop-member-init : goal.loop-member-init
loop-member-init c =
    let a = c.args in (
      places-start (read_member a.bytes.now 20) fresh_tile (length a.members.now) a.at a.members.now c.requires.1.1,
      omega arith,
    )

pub read_member-requires : goal.read_member-requires
read_member-requires c =
    let a = c.args in
    let l = c.loop-member in
    (omega arith, places-next (read_member a.bytes.now 20) fresh_tile (length a.members.now) a.at l.members l.next l.member-index l.invariant.0 _ (omega arith))

pub loop-member-preserved : goal.loop-member-preserved
loop-member-preserved c =
    let a = c.args in
    let l = c.loop-member in
    let t = c.read_member.new.member in (
      places-more (read_member a.bytes.now 20) fresh_tile (length a.members.now) a.at l.members l.next l.member-index l.invariant.0 c.in_ok-next.next t
          (omega arith)
          c.in_ok-next.ensures.0,
      omega (arith, c.in_ok-next.ensures.1, l.invariant.1),
    )

pub returns-in_err-next : goal.returns-in_err-next
returns-in_err-next c =
    let a = c.args in
    let l = c.loop-member in
    let p = err_from_is_err_and c.from_residual.result c.from_residual.ensures.1 in
    rw (p.1, p.2) (places-fault (read_member a.bytes.now 20) fresh_tile (length a.members.now) a.at l.members l.next l.member-index l.invariant.0 (number_of c.in_err-next.field-0.0) (omega arith) c.in_err-next.ensures.0, tt)

pub returns : goal.returns
returns c =
    let a = c.args in
    let l = c.loop-member in (
      places-end (read_member a.bytes.now 20) fresh_tile (length a.members.now) a.at l.members l.next l.member-index l.invariant.0 (omega arith),
      omega (arith, l.invariant.1, l.invariant.0.so_far.few, c.requires),
    )
