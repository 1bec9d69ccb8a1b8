-- `rest_is_none` goes over the places past the entries.
use mathlib.Core.Path.{◌∙◌}
use Prim.Native.Nat.{◌-◌}
use lib.ListN.{length, take, drop}
use Rattle.std.proofs.Common.{rules, tests}
use Rattle.std.proofs.lemmas.Iterator.{YieldsList-from_slice}
use Rattle.std.proofs.lemmas.Iterator.Search.{all_from_yields_List}
use Rattle.member.specs.Sound.{is_none}
use Rattle.member.proofs.Soundness.{none_past}
use Rattle.member.proofs.Member.rest_is_none.Goals as goal

pub returns : goal.returns
returns c =
    let m = c.args.self.now in
    let n = c.used.result in
    all_from_yields_List is_none _ _ _ c.all.ensures.ran
    (YieldsList-from_slice (take (length m.rows - n) (drop n m.rows)) cc) (λ x b q k. search (rules, tests))
    ∙ none_past m n c.used.ensures.0
