-- `fields::put_word` meets its contract: the bytes of the word replace eight of the image.
-- Assumes nothing.
use Prim.Native.Nat.{◌+◌, ◌-◌}
use native.Mathlib.Nat.{div-one}
use native.Mathlib.Omega.{arith}
use mathlib.Core.Path.{refl, ap, sym, ◌∙◌}
use Rattle.std.specs.Int.{w64, to_be_bytes}
use lib.Seq.{sets-eq}
use Rattle.std.proofs.lemmas.Slice.{put_mid-paste}
use Rattle.fields.specs.Word.{bytes_in}
use Rattle.fields.proofs.put_word.Goals as goal

pub returns : goal.returns
returns c =
    let a = c.args in
    put_mid-paste a.first (a.first + 8 - a.first) a.bytes.now c.copy_from_slice.new.self (bytes_in 8 a.word) 8
    (c.copy_from_slice.ensures.after ∙ c.to_be_bytes.ensures ∙ ap (to_be_bytes w64) {y = a.word} (omega arith) ∙ simp div-one)
    (omega arith)
    refl
    ∙ sym (sets-eq (bytes_in 8 a.word) a.bytes.now a.first c.requires)
