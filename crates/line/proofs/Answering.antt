-- A line is answered by its command, on the suite that was accepted, or before one is.
use mathlib.Core.Path.{◌≡◌, refl, sym, ap, ◌∙◌}
use mathlib.Core.List.{List}
use Prim.Native.Nat.{ℕ}
use Rattle.std.specs.Prelude.{Option, None}
use Rattle.text.specs.Line.{command_of, ballots_of}
use Rattle.text.specs.declared.Command.{Command}
use Rattle.text.specs.declared.Creation.{Creation}
use Rattle.suite.specs.declared.Suite.{Suite}
use Rattle.line.specs.Standing.{accepted, answer_of}
use Rattle.line.specs.Laws.{answer-made, answer-unmade}
use Rattle.line.specs.Lent.{standing_in, carried_out}
use Rattle.line.proofs.Creating.{first}

module _ (line : List ℕ) where
  pub on-accepted : (d : Suite) {k : Option Command} → k ≡ command_of line → carried_out d k ≡ answer_of (accepted d) line
  on-accepted d p = ap (carried_out d) p ∙ sym (answer-made (accepted d) line refl)

  pub on-none : {asked : Option Creation} → asked ≡ ballots_of line → first asked ≡ answer_of (standing_in None) line
  on-none p = ap first p ∙ sym (answer-unmade (standing_in None) line refl)
