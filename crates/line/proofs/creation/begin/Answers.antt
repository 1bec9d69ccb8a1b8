-- `begin`: too many votes, a suite, a refused creation. Nothing may stand after a refusal.
use borrow.Author.Rules.{rules}
use Rattle.line.proofs.Creating.{too_many, now-made, not_made}
use Rattle.line.proofs.creation.begin.Goals as goal

pub returns-then-asked-gt-VOTES : goal.returns-then-asked-gt-VOTES
returns-then-asked-gt-VOTES c = too_many c.args.asked c.if-asked-gt-VOTES.true _ c.no.ensures (search (rules, c.requires))

pub returns-in-Ok : goal.returns-in-Ok
returns-in-Ok c = now-made c.args.asked c.if-asked-gt-VOTES.false c.create.result c.create.ensures c.in-Ok.is

pub returns-in-Err : goal.returns-in-Err
returns-in-Err c =
    not_made c.args.asked c.if-asked-gt-VOTES.false c.create.result c.create.ensures c.in-Err.is _ c.no-in-Err.ensures (search (rules, c.requires))
