-- What a reply says of the command and of the plain directory.
use Rattle.std.specs.Prelude.{◌≡◌, ◌⊎◌, Option, Some, true, false, ℕ}
use mathlib.Core.List.{List, []}
use Rattle.text.specs.Line.{command_of}
use Rattle.text.specs.declared.Members.{Members}
use Rattle.text.specs.declared.Command.{Command}
use Rattle.text.specs.declared.Command.TheVariants as command
use Rattle.text.specs.declared.Reply.{Reply}
use Rattle.text.specs.declared.Reply.TheVariants.{SuiteOk, Ok, Removed, At, Absent, Near, Refused}
use Rattle.line.specs.Standing.{Standing, answer_of}
use Rattle.history.specs.Directory.{Directory}
use Rattle.history.specs.Directory as plain
use Rattle.spoken.specs.Lines.{next}

-- What a reply says of the command k, if there is one. Before it t stands and the plain directory is d, after it u and e.
abbrev pub Says : Standing → Directory → Option Command → Standing → Directory → Reply → Type 0
Says t d k u e SuiteOk = (t.made ≡ false) × (e ≡ [])
Says t d k u e (Ok v) =
    (rs : Members) × (ws : Members) × (n : ℕ) × (x : ℕ) × (((k ≡ Some (command.Insert rs ws n x)) × (plain.present d n ≡ false) × (e ≡ plain.insert d n x))
    ⊎ ((k ≡ Some (command.Update rs ws n x)) × (plain.present d n ≡ true) × (e ≡ plain.update d n x)))
Says t d k u e (Removed v q) = (rs : Members) × (ws : Members) × (n : ℕ) × (k ≡ Some (command.Remove rs ws n)) × (plain.present d n ≡ true) × (e ≡ plain.remove d n)
Says t d k u e (At v x) = (rs : Members) × (n : ℕ) × (k ≡ Some (command.Look rs n)) × (plain.present d n ≡ true) × (plain.value_of d n ≡ x)
Says t d k u e (Absent v) = (rs : Members) × (n : ℕ) × (k ≡ Some (command.Look rs n)) × (plain.present d n ≡ false)
Says t d k u e (Near p s q) = (rs : Members) × (n : ℕ) × (k ≡ Some (command.Near rs n)) × (p ≡ plain.predecessor d n) × (s ≡ plain.successor d n)
Says t d k u e (Refused n) = (u ≡ t) × (e ≡ d)

-- Of any line.
abbrev pub SaysOf : Standing → Directory → List ℕ → Reply → Type 0
SaysOf t d line r = Says t d (command_of line) (answer_of t line).standing (next t d line) r
