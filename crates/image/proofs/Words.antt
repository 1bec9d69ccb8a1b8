-- An entry as two words: the first has the name and the version, the second the last byte of the version, the value and the
-- version of the gap.
-- Assumes nothing.
use Prim.Native.Nat.{ℕ, ◌+◌, ◌-◌, ◌*◌, ◌/◌, ◌%◌, ◌^◌, ◌≤◌, ◌<◌}
use native.Mathlib.Omega.{arith}
use mathlib.Core.Path.{◌≡◌, sym, ap, ap₂, subst, ◌∙◌}
use mathlib.Core.Logic.{◌⊎◌, inl, inr}
use mathlib.Core.List.{List, ◌++◌, append_assoc, append-nil}
use lib.ListN.{length, drop, replicate, length-append}
use lib.Dec.{leb}
use borrow.Author.Tests.{le-leb, lt-leb}
use Rattle.fields.specs.Bits.{field_bits}
use Rattle.fields.specs.Field.{read_of, word_of, append_of, after_of}
use Rattle.std.specs.Prelude.{Some}
use Rattle.fields.proofs.Width.{length-field_bits, field_bits_add, field_bits_low, field_bits-above, field_bits_join, last_bits}
use Rattle.fields.proofs.Answers.{word_read, read_split, has_yes, length-append_of, length-after_of, append_of-below, after_of-below}
use Rattle.fields.proofs.Filling.{filled-append, filled-after}
use Rattle.fields.proofs.Reread.{read_range}
use Rattle.member.specs.Change.{row_with}
use Rattle.member.specs.declared.Row.{Row}
use Rattle.image.specs.Layout.{row_pieces, bits_in, widths}
use Rattle.image.specs.Reader.{Taken, took, fault, then, judged, read_row}
use Rattle.image.specs.Writer.{Appended}
use Rattle.image.proofs.Matching.{field_is}
use Rattle.image.proofs.Lengths.{length-bits_in, row_widths}
use Rattle.image.proofs.Putting.{holds_more}

-- ---- read

pub word_range : (image : List ℕ) (at w v : ℕ) → word_of image at w ≡ Some v → v < 2 ^ w
word_range image at w v e = read_range image at w v (word_read image at w v e)

-- what they say of an entry whose name is x or greater
abbrev pub row_in : ℕ → ℕ → ℕ → ℕ → Taken Row
row_in x at high rest =
    judged (leb x (high / 16777216)) 17
    (judged (leb 1 (high % 16777216)) 17
    (took (row_with (high / 16777216) (high % 16777216) (rest / 16777216 % 65536) (rest % 16777216)) (at + 84)))

-- a name below x, or no version
pub row_low : (x at high rest : ℕ) → (high / 16777216 < x) ⊎ ((x ≤ high / 16777216) × (high % 16777216 ≡ 0)) → fault 17 ≡ row_in x at high rest
unfolding judged
row_low x at high rest (inl h) = rw (lt-leb x (high / 16777216) h)
row_low x at high rest (inr p) = rw (le-leb x (high / 16777216) p.0, lt-leb 1 (high % 16777216) (omega arith))

pub words_row : (image : List ℕ) (at x high rest : ℕ) → word_of image at 44 ≡ Some high → word_of image (at + 36) 48 ≡ Some rest
    → read_row image 20 x at ≡ row_in x at high rest
unfolding read_row then
words_row image at x high rest h k =
    let p = read_split image at 20 24 high (word_read image at 44 high h) in
    let q = (read_split image (at + 36) 8 40 rest (word_read image (at + 36) 48 rest k)).1 in
    let r = read_split image (at + 36 + 8) 16 24 (rest % 2 ^ 40) q in
    let e : at + 36 + 8 ≡ at + 20 + 24 = omega arith in
    let value : rest % 2 ^ 40 / 2 ^ 24 ≡ rest / 16777216 % 65536 = omega arith in
    let gap : rest % 2 ^ 40 % 2 ^ 24 ≡ rest % 16777216 = omega arith in
    let end : at + 20 + 24 + 16 + 24 ≡ at + 84 = omega arith in
    let third : read_of image (at + 20 + 24) 16 ≡ Some (rest / 16777216 % 65536) =
    subst (λ (n : ℕ). read_of image n 16 ≡ Some (rest % 2 ^ 40 / 2 ^ 24)) e r.0 ∙ ap Some value
    in
    let fourth : read_of image (at + 20 + 24 + 16) 24 ≡ Some (rest % 16777216) =
    subst (λ (n : ℕ). read_of image (n + 16) 24 ≡ Some (rest % 2 ^ 40 % 2 ^ 24)) e r.1 ∙ ap Some gap
    in
    rw (
      field_is image 20 at (high / 16777216) p.0,
      field_is image 24 (at + 20) (high % 16777216) p.1,
      field_is image 16 (at + 20 + 24) (rest / 16777216 % 65536) third,
      field_is image 24 (at + 20 + 24 + 16) (rest % 16777216) fourth,
      end,
    )

-- ---- appended

-- the words of a row, as the code makes them
abbrev high_of : Row → ℕ
high_of r = r.name % 1048576 * 16777216 + r.version % 16777216

abbrev rest_of : Row → ℕ
rest_of r = (r.version % 16777216 % 256 * 65536 + r.value % 65536) * 16777216 + r.gap % 16777216

high_bits : (r : Row) → field_bits 44 (high_of r) ≡ field_bits 20 r.name ++ field_bits 24 r.version
high_bits r =
    field_bits_join 20 24 (r.name % 1048576) r.version
    ∙ ap (λ (l : List ℕ). l ++ field_bits 24 r.version) (field_bits_low 20 r.name)

rest_bits : (r : Row) → field_bits 48 (rest_of r) ≡ field_bits 8 (high_of r) ++ (field_bits 16 r.value ++ field_bits 24 r.gap)
rest_bits r =
    let last : r.version % 16777216 % 256 ≡ high_of r % 256 = omega arith in
    field_bits_join 24 24 (r.version % 16777216 % 256 * 65536 + r.value % 65536) r.gap
    ∙ ap (λ (l : List ℕ). l ++ field_bits 24 r.gap)
    (field_bits_join 8 16 (r.version % 16777216 % 256) r.value
    ∙ ap (λ (l : List ℕ). l ++ field_bits 16 r.value) (ap (field_bits 8) last ∙ field_bits_low 8 (high_of r)))
    ∙ append_assoc (field_bits 8 (high_of r)) (field_bits 16 r.value) (field_bits 24 r.gap)

-- what the first word has before the last byte of the version
abbrev front_of : Row → List ℕ
front_of r = field_bits 36 (high_of r / 256)

row_bits : (r : Row) → front_of r ++ field_bits 48 (rest_of r) ≡ bits_in (row_pieces 20 r)
unfolding row_pieces bits_in
row_bits r =
    ap (λ (l : List ℕ). front_of r ++ l) (rest_bits r)
    ∙ sym (append_assoc (front_of r) (field_bits 8 (high_of r)) (field_bits 16 r.value ++ field_bits 24 r.gap))
    ∙ ap (λ (l : List ℕ). l ++ (field_bits 16 r.value ++ field_bits 24 r.gap)) (sym (field_bits_add 36 8 (high_of r)) ∙ high_bits r)
    ∙ append_assoc (field_bits 20 r.name) (field_bits 24 r.version) (field_bits 16 r.value ++ field_bits 24 r.gap)
    ∙ ap (λ (l : List ℕ). field_bits 20 r.name ++ (field_bits 24 r.version ++ (field_bits 16 r.value ++ l))) (sym (append-nil (field_bits 24 r.gap)))

-- its last bits, up to seven, are those of the version
front_last : (l : List ℕ) (r : Row) (at : ℕ) → at ≡ length l
    → drop (8 * ((at + 36) / 8)) (l ++ front_of r) ≡ field_bits ((at + 36) % 8) (r.version % 16777216 / 256)
front_last l r at e =
    let b = (at + 36) % 8 in
    let place : 8 * ((at + 36) / 8) ≡ length l + (36 - b) = omega arith in
    let width : 36 ≡ 36 - b + b = omega arith in
    let above : 16 ≡ 16 - b + b = omega arith in
    let high : high_of r / 256 ≡ r.name % 1048576 * 65536 + r.version % 16777216 / 256 = omega arith in
    ap₂ (λ (i w : ℕ). drop i (l ++ field_bits w (high_of r / 256))) place width
    ∙ last_bits l (36 - b) b (high_of r / 256)
    ∙ ap (field_bits b) (high ∙ ap (λ (i : ℕ). r.name % 1048576 * 2 ^ i + r.version % 16777216 / 256) above)
    ∙ field_bits-above (16 - b) b (r.name % 1048576) (r.version % 16777216 / 256)

-- the bytes with the one word appended, and with both
abbrev first_of : List ℕ → ℕ → Row → List ℕ
first_of bytes at r = append_of bytes at 44 (high_of r)

abbrev both_of : List ℕ → ℕ → Row → List ℕ
both_of bytes at r = after_of (first_of bytes at r) (at + 36) (r.version % 16777216 / 256) 48 (rest_of r)

row_appended : (bytes : List ℕ) (at : ℕ) (r : Row) → at + 148 ≤ 8 * length bytes → Appended bytes at (row_pieces 20 r) (both_of bytes at r)
row_appended bytes at r room =
    let high = high_of r in
    let before = r.version % 16777216 / 256 in
    let first = first_of bytes at r in
    let byte = field_bits 8 high in
    let one : length first ≡ length bytes = length-append_of bytes at 44 high in
    let two : length (both_of bytes at r) ≡ length first = length-after_of first (at + 36) 48 (rest_of r) before in
    let eight : length byte ≡ 8 = length-field_bits 8 high in
    record {
      same_length = two ∙ one;
      holds = λ done e h.
          let l = bits_in done in
          let n = 8 * length bytes - widths done in
          let m : at ≡ length l = sym (length-bits_in done ∙ e) in
          let k : at + 36 ≡ length (l ++ front_of r) = rw (length-append l (front_of r), length-field_bits 36 (high / 256)) (omega arith) in
          let split : l ++ field_bits 44 high ≡ (l ++ front_of r) ++ byte =
          ap (λ (b : List ℕ). l ++ b) (field_bits_add 36 8 high) ∙ sym (append_assoc l (front_of r) byte)
          in
          let f = filled-append bytes l n at 44 high h.0 m (has_yes (length bytes) at 44 (omega arith) (omega arith)) in
          let g =
          filled-after first (l ++ front_of r) byte (n - 44) (at + 36) before 48 (rest_of r)
          (f ∙ ap (λ (b : List ℕ). b ++ replicate (n - 44) 0) split)
          k
          (omega arith)
          (front_last l r at m)
          (has_yes (length first) (at + 36) 48 (omega arith) (omega arith))
          in
          holds_more done (row_pieces 20 r) (front_of r ++ field_bits 48 (rest_of r)) (both_of bytes at r) (length byte + (n - 44) - 48) (row_bits r)
          (g ∙ ap (λ (b : List ℕ). b ++ replicate (length byte + (n - 44) - 48) 0) (append_assoc l (front_of r) (field_bits 48 (rest_of r))))
          (omega (arith, row_widths 20 r))
          (after_of-below first (at + 36) 48 (rest_of r) before (append_of-below bytes at 44 high h.1));
    }

pub row_put : (bytes first out : List ℕ) (at : ℕ) (r : Row) → at + 148 ≤ 8 * length bytes → first ≡ first_of bytes at r
    → out ≡ after_of first (at + 36) (r.version % 16777216 / 256) 48 (rest_of r)
    → Appended bytes at (row_pieces 20 r) out
row_put bytes first out at r room e f =
    rw (f, e) (row_appended bytes at r room)
