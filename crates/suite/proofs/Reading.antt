-- What the members asked for their readings say, folded as they are asked.
use mathlib.Core.Path.{◌≡◌, refl, sym, ap, ◌∙◌}
use mathlib.Core.List.{List, map}
use Prim.Native.Nat.{ℕ}
use lib.ListN.{length, take, get_or, length-map, get_or-map}
use Rattle.member.specs.Tile.{reading_of}
use Rattle.member.specs.declared.Member.{Member}
use Rattle.member.specs.declared.Reading.{Reading}
use Rattle.member.specs.declared.Reading.TheVariants.{Gap}
use Rattle.suite.specs.Best.{best}
use Rattle.suite.specs.Sets.{chosen}
use Rattle.suite.specs.SetLaws.{chosen-map}
use Rattle.suite.specs.Suite.{tiles}
use Rattle.suite.specs.Calls.{its_reading, newer, newest, reading_answers}
use Rattle.suite.specs.AnswerLaws.{picked_one}
use Rattle.suite.specs.declared.Suite.{Suite}
use Rattle.suite.specs.Question as question
use Rattle.suite.proofs.Asking.{counted}

abbrev pub readings : ℕ → List Member → List Reading
readings x items = map (λ m. reading_of m x) items

pub readings-length : (x : ℕ) (items : List Member) → length (readings x items) ≡ length items
readings-length x items = length-map items (λ m. reading_of m x)

pub reading_in_lem : (x : ℕ) (items : List Member) (i : ℕ) (d : Member)
    → get_or (readings x items) i (reading_of d x) ≡ reading_of (get_or items i d) x
reading_in_lem x items i d = get_or-map (λ m. reading_of m x) items i d

pub newest_in : (s : Suite) (n : ℕ) → n ≡ length (tiles s) → (set x : ℕ)
    → best newer (Gap 0) (chosen (readings x (take n s.members)) set) ≡ newest (reading_answers s set x)
newest_in s n e set x =
    let g : Member → Reading = λ m. reading_of m x in
    ap (λ (ms : List Member). best newer (Gap 0) (chosen (map g ms) set)) (counted s.count n s.members e)
    ∙ ap (best newer (Gap 0))
    (chosen-map g (tiles s) set ∙ sym (picked_one its_reading g (question.Reading x) (λ m. refl) 0 (tiles s) set))
