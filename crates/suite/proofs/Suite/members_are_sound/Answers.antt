-- `members_are_sound` tests the members, then the unused ones.
use Rattle.std.proofs.Common.{◌≡◌, ◌&&◌, ℕ, ◌+◌, ◌≤◌, List, ap, sym, ◌∙◌, length, take, drop, rules, arith, length-drop}
use Rattle.std.proofs.lemmas.Iterator.{YieldsList-from_slice}
use Rattle.std.proofs.lemmas.Iterator.Search.{all_from_yields_List}
use Rattle.member.specs.Sound.{sound_member}
use Rattle.suite.specs.Sets.{all}
use Rattle.suite.specs.Suite.{tiles, is_fresh}
use lib.Seq.{take_all}
use Rattle.suite.proofs.Asking.{counted, uncounted}
use Rattle.suite.proofs.Sets.{all_list}
use Rattle.suite.proofs.Suite.members_are_sound.Goals as goal
use Rattle.suite.proofs.Suite.members_are_sound.Goals.{After-all}

-- from place n on, where n counts the members: all places up to the last
past : {A : Type 0} (k n m : ℕ) (l : List A) → n ≡ length (take k l) → length l ≤ n + m → take m (drop n l) ≡ drop k l
past k n m l e h = take_all m (drop n l) (omega (arith, length-drop n l)) ∙ uncounted k n l e

first : (c : After-all) → c.all.result ≡ all sound_member (tiles c.args.self.now)
first c =
    let s = c.args.self.now in
    all_from_yields_List sound_member _ _ _ c.all.ensures.ran (YieldsList-from_slice _ c.iter.ensures.rest) (λ x b q k. search rules)
    ∙ all_list sound_member _
    ∙ ap (all sound_member) (counted s.count _ s.members (omega arith))

pub returns-then-all : goal.returns-then-all
returns-then-all c =
    let s = c.args.self.now in
    all_from_yields_List is_fresh _ _ _ c.all-then-all.ensures.ran (YieldsList-from_slice _ c.iter-then-all.ensures.rest) (λ x b q k. search rules)
    ∙ all_list is_fresh _
    ∙ ap (all is_fresh) (past s.count _ _ s.members (omega arith) (omega arith))
    ∙ ap (λ b. b && all is_fresh (drop s.count s.members)) (sym c.if-all.true ∙ first (goal.at.returns-then-all c).After-all)

pub returns-else-all : goal.returns-else-all
returns-else-all c =
    let s = c.args.self.now in
    let e = first (goal.at.returns-else-all c).After-all in
    c.if-all.false ∙ ap (λ b. b && all is_fresh (drop s.count s.members)) (sym c.if-all.false ∙ e)
