-- Whom a list of answers asks, by the marks of its answers.
use Rattle.std.specs.Prelude.{◌≡◌, List, [], ◌∷◌, Bool, cond, ℕ, zero, suc, ◌+◌, ◌*◌, ◌/◌, ◌%◌, eqb, length}
use Rattle.std.specs.Int.Count.{ones}
use Rattle.suite.specs.Calls.{Marked, predecessor, successor}
use Rattle.history.specs.Directory.{Directory}
use Rattle.history.specs.Directory as plain
use Rattle.history.specs.Told.{flag}

-- 'bit i names member i'
unfoldable pub named : ℕ → ℕ → Bool
named set zero = eqb (set % 2) 1
named set (suc i) = named (set / 2) i

-- how many of the answers are member i's
unfoldable pub askings : ℕ → List Marked → ℕ
askings i [] = 0
askings i (a ∷ l) = cond (eqb a.member i) (suc (askings i l)) (askings i l)

-- 'An accepted removal asks each tile of its read set exactly twice and each of its write set once', no other, 'and from those
-- answers alone it finds that plain directory's true neighbours'. vs is what it answers, l its list of member answers.
pub record Asks (d : Directory) (rs ws x : ℕ) (vs : List ℕ) (l : List Marked) : Type 0 where
  pub each_member : (i : ℕ) → askings i l ≡ 2 * flag (named rs i) + flag (named ws i)
  pub in_all : length l ≡ 2 * ones rs + ones ws
  pub requests : (v : ℕ) × (vs ≡ v ∷ length l ∷ [])
  pub below : (predecessor l).end ≡ plain.predecessor d x
  pub above : (successor l).end ≡ plain.successor d x
