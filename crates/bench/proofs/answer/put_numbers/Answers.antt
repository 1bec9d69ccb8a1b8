-- `put_numbers` puts number after number.
use Rattle.std.proofs.Common.{◌≡◌, refl, ap, ◌∙◌, length, get_or, w32, rules, arith}
use Rattle.std.specs.Int.{to_be_bytes}
use Rattle.bench.specs.Bench.{bytes_of}
use Rattle.bench.proofs.Numbers.{one_more}
use Rattle.bench.proofs.answer.put_numbers.Goals as goal

pub loop-i-init : goal.loop-i-init
unfolding bytes_of
loop-i-init c = refl

pub loop-i-preserved : goal.loop-i-preserved
loop-i-preserved c =
    let long : length c.args.numbers ≡ 4 = search rules in
    one_more c.args.numbers c.args.answer.now c.loop-i.answer _ c.loop-i.i (omega arith) c.loop-i.invariant
    (c.copy_from_slice.ensures.after ∙ c.to_be_bytes.ensures ∙ ap (to_be_bytes w32) {y = get_or c.args.numbers c.loop-i.i 0} (omega arith))
