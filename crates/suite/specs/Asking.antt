-- A closure over a member, and what it says or makes of it.
use Rattle.std.specs.Prelude.{◌≡◌}
use Rattle.std.specs.Borrow.{Bor, MutBor}
use Rattle.std.specs.Fn.{FnReturnsAt, Shared}
use Rattle.member.specs.declared.Member.{Member}

-- f answers of each member what g says of it
abbrev pub AnswersAs : {F R : Type 0} → Shared F (Bor Member × Unit {0}) R → F → (Member → R) → Type 0
AnswersAs {F} {R} at f g = (m : Member) (r : R) → FnReturnsAt at f m r → r ≡ g m

-- f leaves of each member what g makes of it
abbrev pub ChangesAs : {F : Type 0} → Shared F (MutBor Member × Unit {0}) (Unit {0} × (MutBor Member × Unit {0})) → F → (Member → Member) → Type 0
ChangesAs at f g = (lent left : MutBor Member) → at.post f (lent, tt) (tt, (left, tt)) → left.now ≡ g lent.now
