-- `fields::read` meets its contract: the field is a part of the eight bytes around it.
-- Assumes nothing.
use Prim.Native.Nat.{ℕ, ◌≤◌}
use native.Mathlib.Omega.{arith}
use mathlib.Core.Bool.{true}
use mathlib.Core.Path.{◌≡◌, sym, ap₂, ◌∙◌}
use lib.ListN.{length}
use Rattle.fields.specs.Field.{fits_in}
use Rattle.fields.specs.Word.{part_of}
use Rattle.fields.proofs.Below.{below_of_lem}
use Rattle.fields.proofs.Answers.{fits_narrow, fits_within, read_short}
use Rattle.fields.proofs.Within.{read-met}
use Rattle.fields.proofs.read.Goals as goal
use Rattle.fields.proofs.read.Goals.{Then-fits}

-- the test that was passed
passed : (c : Then-fits)
    → fits_in (length c.args.bytes.now) c.args.at
    c.args.width
    ≡ true
passed c = sym c.fits.ensures ∙ c.if-fits.true

narrow : (c : Then-fits) → c.args.width ≤ 56
narrow c = fits_narrow _ _ _ (passed c)

pub word-requires : goal.word-requires
word-requires c =
    omega (arith, fits_within (length c.args.bytes.now) c.args.at c.args.width (passed (goal.at.word-requires c).Then-fits))

pub behind-requires : goal.behind-requires
behind-requires c = narrow (goal.at.behind-requires c).Then-fits

pub part-requires : goal.part-requires
part-requires c = omega (arith, narrow (goal.at.part-requires c).Then-fits, c.behind.ensures)

pub returns-then-fits : goal.returns-then-fits
returns-then-fits c =
    let args = c.args in
    read-met args.bytes.now args.at args.width c.part.result
    (below_of_lem 256 args.bytes.now (λ i k. omega (arith, c.type_inv.bytes i)))
    (c.part.ensures
    ∙ ap₂ (λ (x after : ℕ). part_of x after args.width) c.word.ensures c.behind.ensures)
    (passed (goal.at.returns-then-fits c).Then-fits)

pub returns-else-fits : goal.returns-else-fits
returns-else-fits c = sym (read_short _ _ _ (sym c.fits.ensures ∙ c.if-fits.false))
