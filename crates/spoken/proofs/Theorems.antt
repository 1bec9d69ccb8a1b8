-- A run of lines is answered as the plain directory tells, which got the accepted changes in order: its `at`, `none`, `near`, `ok` and `no`.
-- The theorems; Lines has the definitions, and a line's answer is that of the line's contract.
use Rattle.std.specs.Prelude.{◌≡◌, refl, ◌⊎◌, List, [], ◌∷◌, Some, true, false, ℕ}
use Rattle.std.proofs.Common.{subst}
use Rattle.text.specs.Line.{command_of}
use Rattle.text.specs.declared.Members.{Members}
use Rattle.text.specs.declared.Command.TheVariants as command
use Rattle.text.specs.declared.Reply.{Reply}
use Rattle.text.specs.declared.Reply.TheVariants.{SuiteOk, Ok, Removed, At, Absent, Near, Refused}
use Rattle.suite.specs.declared.Suite.{Suite}
use Rattle.line.specs.Standing.{Standing, fresh, answer_of}
use Rattle.history.specs.Directory.{Directory}
use Rattle.history.specs.Directory as plain
use Rattle.spoken.specs.Lines.{Lined, nothing, told, next, replies, standing_after, tells, directory_after}
use Rattle.spoken.specs.Says.{SaysOf}
use Rattle.spoken.proofs.Says.{says, as_told, stays_lined}

-- Whatever lines have come to, the next line, accepted or refused, understood or not, is answered as that plain directory tells,
-- and what stands after it goes with the directory that got its change.
pub line_faithful : {t : Standing} {d : Directory} → Lined t d → (line : List ℕ) →
    ((answer_of t line).reply ≡ told t d line) × Lined (answer_of t line).standing (next t d line)
line_faithful p line = (as_told p line, stays_lined p line)

-- So it is after any lines,
pub lines_lined : {t : Standing} {d : Directory} → Lined t d → (l : List (List ℕ)) → Lined (standing_after t l) (directory_after t d l)
unfolding standing_after directory_after
lines_lined p [] = p
lines_lined {t = t} {d = d} p (line ∷ l) = lines_lined {t = (answer_of t line).standing} {d = next t d line} (line_faithful p line).1 l

-- and the whole list of answers is the one that the plain directory tells,
pub lines_faithful : {t : Standing} {d : Directory} → Lined t d → (l : List (List ℕ)) → replies t l ≡ tells t d l
unfolding replies tells
lines_faithful p [] = refl
lines_faithful {t = t} {d = d} p (line ∷ l) =
    let r = line_faithful p line in λ j. r.0 j ∷ lines_faithful {t = (answer_of t line).standing} {d = next t d line} r.1 l j

-- above all from the beginning, where no suite was accepted, whichever is named beside (`standing_in None` names the blank one), with
-- the empty directory.
pub from_beginning : (s : Suite) (l : List (List ℕ)) → replies (fresh s) l ≡ tells (fresh s) [] l
from_beginning s l = lines_faithful (nothing s) l

module _ {t : Standing} {d : Directory} (p : Lined t d) (line : List ℕ) where
  says_of : (r : Reply) → (answer_of t line).reply ≡ r → SaysOf t d line r
  says_of r e = subst (λ (r : Reply). SaysOf t d line r) e (says p line)

  -- The same, in parts: what each reply shows of the plain directory d before the line, and of `next t d line` after it.
  -- `at`: the name that was looked up is in the plain directory, with the value shown.
  pub at-shows : (v x : ℕ) → (answer_of t line).reply ≡ At v x →
      (rs : Members) × (n : ℕ) × (command_of line ≡ Some (command.Look rs n)) × (plain.present d n ≡ true) × (plain.value_of d n ≡ x)
  at-shows v x e = says_of (At v x) e

  -- `none`: it is not.
  pub none-shows : (v : ℕ) → (answer_of t line).reply ≡ Absent v →
      (rs : Members) × (n : ℕ) × (command_of line ≡ Some (command.Look rs n)) × (plain.present d n ≡ false)
  none-shows v e = says_of (Absent v) e

  -- `near`: what is shown are the plain directory's neighbours of the name.
  pub near-shows : (below above q : ℕ) → (answer_of t line).reply ≡ Near below above q →
      (rs : Members) × (n : ℕ) × (command_of line ≡ Some (command.Near rs n)) × (below ≡ plain.predecessor d n) × (above ≡ plain.successor d n)
  near-shows below above q e = says_of (Near below above q) e

  -- `ok` with one number: an insert of an absent name, or an update of a present one, was made in the plain directory;
  pub ok-shows : (v : ℕ) → (answer_of t line).reply ≡ Ok v →
      (rs : Members) × (ws : Members) × (n : ℕ) × (x : ℕ)
      × (((command_of line ≡ Some (command.Insert rs ws n x)) × (plain.present d n ≡ false) × (next t d line ≡ plain.insert d n x))
      ⊎ ((command_of line ≡ Some (command.Update rs ws n x)) × (plain.present d n ≡ true) × (next t d line ≡ plain.update d n x)))
  ok-shows v e = says_of (Ok v) e

  -- with two: a present name was removed there.
  pub removed-shows : (v q : ℕ) → (answer_of t line).reply ≡ Removed v q →
      (rs : Members) × (ws : Members) × (n : ℕ)
      × (command_of line ≡ Some (command.Remove rs ws n)) × (plain.present d n ≡ true) × (next t d line ≡ plain.remove d n)
  removed-shows v q e = says_of (Removed v q) e

  -- `suite ok`: the first suite, with the empty directory.
  pub suite-shows : (answer_of t line).reply ≡ SuiteOk → (t.made ≡ false) × (next t d line ≡ [])
  suite-shows e = says_of SuiteOk e

  -- `no`: what stands and the plain directory stay as they were.
  pub no-shows : (n : ℕ) → (answer_of t line).reply ≡ Refused n → ((answer_of t line).standing ≡ t) × (next t d line ≡ d)
  no-shows n e = says_of (Refused n) e
