-- What the code's own steps come to, once a name's presence is settled: refusals 12 and 13, or the members written.
use Rattle.std.specs.Prelude.{[], ◌∷◌, cond, ℕ, ◌+◌, ◌*◌, max, ltb}
use Rattle.std.specs.Int.Count.{ones}
use Rattle.member.specs.Limits.{largest_version}
use Rattle.suite.specs.Sets.{changed}
use Rattle.suite.specs.Suite.{tiles, with_tiles}
use Rattle.suite.specs.Outcome.{answered, refused}
use Rattle.suite.specs.Calls.{asked_of, all_fit, effect_of, Result}
use Rattle.suite.specs.declared.Suite.{Suite}
use Rattle.suite.specs.declared.rounds.Survey.{Survey}
use Rattle.suite.specs.Question.{Question}
use Rattle.suite.specs.Question as question
use Rattle.suite.specs.Effect.{Effect}
use Rattle.suite.specs.Effect as effect

-- the members of the write set get the version g, unless it is too large or does not fit
unfoldable pub granted_of : Suite → ℕ → ℕ → ℕ → Question → Effect → Result
granted_of s ws g q fit e =
    cond (ltb largest_version g) (record { outcome = refused 12; suite = s })
    (cond (all_fit (asked_of s ws fit))
    (record { outcome = answered (g ∷ q ∷ []); suite = with_tiles s (changed (effect_of e) (tiles s) ws) })
    (record { outcome = refused 13; suite = s }))

abbrev pub put_of : Suite → ℕ → ℕ → ℕ → ℕ → ℕ → Result
put_of s rs ws x v value =
    granted_of s ws (v + 1) (ones rs + ones ws) (question.FitsWrite x) (effect.Write x (v + 1) value)

abbrev pub gap_of : ℕ → Survey → ℕ
gap_of v found = max v (max found.lower found.upper) + 1

abbrev pub join_of : Suite → ℕ → ℕ → ℕ → Survey → Result
join_of s rs ws v found =
    granted_of s ws (gap_of v found) (2 * ones rs + ones ws)
    (question.FitsCoalesce found.below.end found.above.end)
    (effect.Coalesce found.below found.above (gap_of v found))
