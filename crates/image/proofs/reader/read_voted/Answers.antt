-- `read_voted` reads the votes, judges them with R and W, and reads the members.
use native.Mathlib.Omega.{arith}
use borrow.Author.Rules.{rules}
use mathlib.Core.Path.{◌≡◌, sym, ap, subst, ◌∙◌}
use Prim.Native.Nat.{ℕ, ◌+◌, ◌*◌, ◌≤◌}
use lib.ListN.{length, take, replicate}
use lib.Seq.{length-take-le}
use Rattle.std.proofs.lemmas.Result.{err_from_is_err_and}
use Rattle.member.specs.Tile.{fresh_tile}
use Rattle.member.proofs.Rows.{length_of_map}
use Rattle.suite.specs.Outcome.{number_of}
use Rattle.image.specs.Reader.{took, field, each, read_member}
use Rattle.image.proofs.Reading.{take-same}
use Rattle.image.proofs.Voting.{voted_fault, voted-sound, voted-not, ends_le}
use Rattle.image.proofs.reader.read_voted.Goals as goal
use Rattle.image.proofs.reader.read_voted.Goals.{In_ok-read_votes}

-- the places for the votes
many : (n : ℕ) → n ≤ 8 → length {A = ℕ} (take n (replicate 8 0)) ≡ n
many n h = length-take-le n (replicate 8 0) h

-- the votes that were taken
votes-are : (c : In_ok-read_votes)
    → took c.read_votes.new.votes (21 + 4 * c.args.count) ≡ each (field c.args.bytes.now 4) c.args.count 21
votes-are c =
    subst (λ (k : ℕ). took c.read_votes.new.votes (21 + 4 * k) ≡ each (field c.args.bytes.now 4) k 21) (many c.args.count c.requires.1.0)
    c.in_ok-read_votes.ensures

votes-many : (c : In_ok-read_votes) → length c.read_votes.new.votes ≡ c.args.count
votes-many c = c.read_votes.auto.votes ∙ many c.args.count c.requires.1.0

pub read_votes-requires : goal.read_votes-requires
read_votes-requires c =
    let n = c.args.count in
    let m = many n c.requires.1.0 in
    (omega arith, (omega arith, take-same 0 n 8 c.requires.1.0 ∙ ap (λ (k : ℕ). replicate k 0) (sym m)))

pub returns-in_err-read_votes : goal.returns-in_err-read_votes
returns-in_err-read_votes c =
    let a = c.args in
    let p = err_from_is_err_and c.from_residual.result c.from_residual.ensures.1 in
    rw (p.1, p.2) (
      voted_fault a.bytes.now a.count a.read a.write (number_of c.in_err-read_votes.field-0.0)
          (c.in_err-read_votes.ensures ∙ ap (λ (k : ℕ). each (field a.bytes.now 4) k 21) (many a.count c.requires.1.0)),
      tt,
    )

pub read_members-requires : goal.read_members-requires
read_members-requires c =
    let n = c.args.count in
    let t = c.args.suite.now.members in
    let e : length t ≡ 8 = search (rules, length_of_map) in
    let m : length (take n t) ≡ n = length-take-le n t (omega arith) in
    (omega arith, (omega arith, ap (take n) c.requires.1.1 ∙ take-same fresh_tile n 8 c.requires.1.0 ∙ ap (λ (k : ℕ). replicate k fresh_tile) (sym m)))

pub returns-then-is_sound : goal.returns-then-is_sound
returns-then-is_sound c =
    let a = c.args in
    let n = a.count in
    let t = a.suite.now.members in
    let r = c.read_members in
    let e : length t ≡ 8 = search (rules, length_of_map) in
    let m : length (take n t) ≡ n = length-take-le n t (omega arith) in
    let end : 21 + 4 * n + 21744 ≤ 21797 = omega arith in (
      voted-sound a.bytes.now n a.read a.write (21 + 4 * n) c.read_votes.new.votes c.requires.0 c.requires.1.0 (votes-many (goal.at.returns-then-is_sound c).In_ok-read_votes) (votes-are (goal.at.returns-then-is_sound c).In_ok-read_votes)
          t
          r.new.members
          r.result
          c.requires.1.1
          (r.auto.members ∙ m)
          (sym c.is_sound.ensures ∙ c.if-is_sound.true)
          (r.ensures.0 ∙ ap (λ (k : ℕ). each (read_member a.bytes.now 20) k (21 + 4 * n)) m),
      ends_le r.result _ _ end r.ensures.1,
    )

pub returns : goal.returns
returns c =
    let a = c.args in (
      voted-not a.bytes.now a.count a.read a.write (21 + 4 * a.count) c.read_votes.new.votes c.requires.0 c.requires.1.0 (votes-many (goal.at.returns c).In_ok-read_votes) (votes-are (goal.at.returns c).In_ok-read_votes)
          (sym c.is_sound.ensures ∙ c.if-is_sound.false),
      tt,
    )
