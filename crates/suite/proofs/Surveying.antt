-- The two rounds, from the rows that the code reads out of the tables.
use mathlib.Core.Path.{◌≡◌, ap, ◌∙◌}
use mathlib.Core.List.{List}
use Prim.Native.Nat.{ℕ, ◌^◌, ◌<◌}
use lib.ListN.{length, get_or}
use Rattle.member.specs.declared.Reading.{Reading}
use Rattle.suite.specs.Best.{best}
use Rattle.suite.specs.Sets.{chosen}
use Rattle.suite.specs.Suite.{tiles}
use Rattle.suite.specs.Calls.{asked_of, round_one, rounds, gap_below_in, gap_above_in, predecessor, successor}
use Rattle.suite.specs.Rows.{no_row, row_reading, beats_at, survey_of}
use Rattle.suite.specs.declared.Suite.{Suite}
use Rattle.suite.specs.Question as question
use Rattle.suite.specs.declared.rounds.Survey.{Survey}
use Rattle.suite.proofs.Folds.{side_of, bound_at}
use Rattle.suite.proofs.Surveys.{answer_table, below-is, above-is, reading_is, predecessor_is, successor_is}
use Rattle.suite.proofs.Stepping.{rounds_survey}

pub survey_is : (s : Suite) (set : ℕ) (h : set < 2 ^ length (tiles s)) (x : ℕ) (b u : List ℕ) (r : Reading) (p n : List ℕ)
    → b ≡ best (beats_at 3 3) no_row (chosen (answer_table s set (question.Around x)) set)
    → u ≡ best (beats_at 5 5) no_row (chosen (answer_table s set (question.Around x)) set)
    → r ≡ row_reading (best (beats_at 1 1) no_row (chosen (answer_table s set (question.Around x)) set))
    → p ≡ best (beats_at 0 2) no_row (chosen (answer_table s set (question.Offers x (side_of b 3 4) (side_of u 5 6))) set)
    → n ≡ best (beats_at 4 6) no_row (chosen (answer_table s set (question.Offers x (side_of b 3 4) (side_of u 5 6))) set)
    → ◌≡◌ {A = Survey}
    (record { reading = r; lower = get_or b 3 0; upper = get_or u 5 0; below = bound_at p 1 2 3; above = bound_at n 5 6 7 })
    (survey_of (rounds s set x))
survey_is s set h x b u r p n eb eu er ep en =
    let one = round_one s set x in
    let lower : side_of b 3 4 ≡ gap_below_in one = ap (λ row. side_of row 3 4) eb ∙ below-is s set h x in
    let upper : side_of u 5 6 ≡ gap_above_in one = ap (λ row. side_of row 5 6) eu ∙ above-is s set h x in
    let reading = er ∙ reading_is s set h x in
    let below = ap (λ row. bound_at row 1 2 3) ep ∙ predecessor_is s set h x (side_of b 3 4) (side_of u 5 6) in
    let above = ap (λ row. bound_at row 5 6 7) en ∙ successor_is s set h x (side_of b 3 4) (side_of u 5 6) in
    (λ j. record { reading = reading j; lower = (lower j).version; upper = (upper j).version; below = below j; above = above j })
    ∙ (λ j.
    record {
      reading = Rattle.suite.specs.Calls.newest one;
      lower = (gap_below_in one).version;
      upper = (gap_above_in one).version;
      below = predecessor (asked_of s set (question.Offers x (lower j) (upper j)));
      above = successor (asked_of s set (question.Offers x (lower j) (upper j)));
    })
    ∙ rounds_survey s set x
