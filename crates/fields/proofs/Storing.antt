-- A field appended by the eight bytes from its first one on: the word that is stored has the bits before the field, the
-- field, and zeros.
-- Assumes nothing.
use Prim.Native.Nat.{ℕ, zero, suc, ◌+◌, ◌-◌, ◌*◌, ◌/◌, ◌%◌, ◌^◌, ◌≤◌, ◌<◌}
use native.Mathlib.Nat.{mod-lt, mod-eq_of_lt, zero-mod}
use native.Mathlib.Omega.{arith}
use mathlib.Core.Bool.{true}
use mathlib.Core.Path.{◌≡◌, refl, sym, ap, ap₂, ◌∙◌}
use mathlib.Core.List.{List, ◌++◌, append_assoc}
use lib.ListN.{length, get_or, take, drop, replicate}
use lib.Seq.{length-sets, sets-eq, take-add, drop_at, length-take-le}
use lib.Pow.{pow_pos}
use Rattle.fields.specs.Bits.{field_bits, bits_of, bytes_of, field_at, after_bits, Below}
use Rattle.fields.specs.Field.{has_word, append_of, after_of}
use Rattle.fields.specs.Word.{bytes_in, with_word, part_of, join_of, behind_of}
use Rattle.fields.proofs.Below.{below_append, below_take, below_drop}
use Rattle.fields.proofs.Shifts.{part_low, join_lt}
use Rattle.fields.proofs.Width.{field_bits_add, field_bits_low, field_bits_join, field_bits-zero}
use Rattle.fields.proofs.Bytes.{length-bits_of, bits_of_below, bits_of-append, bits_of-take, bits_of-drop, bytes_of-bits_of}
use Rattle.fields.proofs.Places.{field_at_lt, field_at-high, field_bits_at}
use Rattle.fields.proofs.Answers.{has_narrow, has_within, after_is, after-known}
use Rattle.fields.proofs.Within.{byte_at}

-- ---- the bytes of a word

bytes_in_below : (n x : ℕ) → Below 256 (bytes_in n x)
bytes_in_below zero x = tt
bytes_in_below (suc n) x = (mod-lt (x / 2 ^ (8 * n)) (pow_pos 8), bytes_in_below n x)

bytes_in_bits : (n x : ℕ) → bits_of (bytes_in n x) ≡ field_bits (8 * n) x
unfolding bits_of field_bits
bytes_in_bits zero x = refl
bytes_in_bits (suc n) x =
    let e : 8 + 8 * n ≡ 8 * suc n = omega arith in
    ap₂ (λ (a b : List ℕ). a ++ b) (field_bits_low 8 (x / 2 ^ (8 * n))) (bytes_in_bits n x)
    ∙ sym (field_bits_add 8 (8 * n) x)
    ∙ ap (λ (k : ℕ). field_bits k x) e

module _ (l : List ℕ) (i x : ℕ) (h : Below 256 l) (k : i + 8 ≤ length l) where
  stored : with_word l i x ≡ take i l ++ (bytes_in 8 x ++ drop (i + 8) l)
  stored = sets-eq (bytes_in 8 x) l i k ∙ append_assoc (take i l) (bytes_in 8 x) (drop (i + 8) l)

  stored-below : Below 256 (with_word l i x)
  stored-below =
      rw stored
      (below_append 256 (take i l) (bytes_in 8 x ++ drop (i + 8) l) (below_take 256 i l h)
      (below_append 256 (bytes_in 8 x) (drop (i + 8) l) (bytes_in_below 8 x) (below_drop 256 (i + 8) l h)))

  stored-bits : bits_of (with_word l i x) ≡ take (8 * i) (bits_of l) ++ (field_bits 64 x ++ drop (8 * (i + 8)) (bits_of l))
  stored-bits =
      ap bits_of stored
      ∙ bits_of-append (take i l) (bytes_in 8 x ++ drop (i + 8) l)
      ∙ ap₂ (λ (a b : List ℕ). a ++ b) (bits_of-take i l)
      (bits_of-append (bytes_in 8 x) (drop (i + 8) l)
      ∙ ap₂ (λ (a b : List ℕ). a ++ b) (bytes_in_bits 8 x) (bits_of-drop (i + 8) l))

  stored_is : with_word l i x ≡ bytes_of (length l) (take (8 * i) (bits_of l) ++ (field_bits 64 x ++ drop (8 * (i + 8)) (bits_of l)))
  stored_is =
      sym (bytes_of-bits_of (with_word l i x) stored-below)
      ∙ ap₂ (λ (n : ℕ) (b : List ℕ). bytes_of n b) (length-sets l i (bytes_in 8 x)) stored-bits

-- ---- the bits of the word

-- a number of no bits is 0 however it is shifted
shift_behind : (y j r : ℕ) → y < 2 ^ j → j + r ≡ 64 → y * 2 ^ (r % 64) ≡ y * 2 ^ r
shift_behind y zero r h e =
    let z : y ≡ 0 = omega arith in
    rw z (omega arith)
shift_behind y (suc j) r h e = ap (λ (k : ℕ). y * 2 ^ k) (mod-eq_of_lt (omega arith))

join_bits : (s w r before v : ℕ) → before < 2 ^ s → s + w + r ≡ 64
    → field_bits 64 (join_of before (r % 64) w v) ≡ (field_bits s before ++ field_bits w v) ++ replicate r 0
join_bits s w r before v h e =
    let y = before * 2 ^ w + v % 2 ^ w in
    let z : y * 2 ^ r ≡ y * 2 ^ r + 0 % 2 ^ r = omega (arith, zero-mod (2 ^ r)) in
    ap₂ (λ (n x : ℕ). field_bits n x) (sym e) (shift_behind y (s + w) r (join_lt s w before v h) e ∙ z)
    ∙ field_bits_join (s + w) r y 0
    ∙ ap₂ (λ (a b : List ℕ). a ++ b) (field_bits_join s w before v) (field_bits-zero r)

stored-after : (l : List ℕ) (at before w v : ℕ) → Below 256 l → has_word (length l) at w ≡ true → before < 2 ^ (at % 8)
    → with_word l (at / 8) (join_of before (behind_of at w) w v) ≡ after_of l at before w v
unfolding after_bits
stored-after l at before w v h e c =
    let n = has_narrow (length l) at w e in
    stored_is l (at / 8) (join_of before (behind_of at w) w v) h (has_within (length l) at w e)
    ∙ ap (λ (b : List ℕ). bytes_of (length l) (take (8 * (at / 8)) (bits_of l) ++ b))
    (ap (λ (b : List ℕ). b ++ drop (8 * (at / 8 + 8)) (bits_of l))
    (join_bits (at % 8) w (64 - at % 8 - w) before v c (omega arith))
    ∙ simp append_assoc)
    ∙ sym (after_is l at w v before e)

-- ---- the bits that stand before the field

first_bits : (l : List ℕ) (i s r : ℕ) → Below 256 l → i < length l → s + r ≡ 8
    → get_or l i 0 / 2 ^ r ≡ field_at (bits_of l) (8 * i) s
first_bits l i s r h k e =
    let b : 8 * i + (s + r) ≤ length (bits_of l) = rw (length-bits_of l) (omega arith) in
    ap (λ (x : ℕ). x / 2 ^ r) (sym (byte_at l i h k) ∙ ap (field_at (bits_of l) (8 * i)) (sym e))
    ∙ field_at-high (bits_of l) (8 * i) s r (bits_of_below l) b

drop_taken : (b : List ℕ) (i s : ℕ) → i ≤ length b → drop i (take (i + s) b) ≡ take s (drop i b)
drop_taken b i s k =
    ap (drop i) (take-add i s b) ∙ drop_at (take i b) (take s (drop i b)) i (length-take-le i b k)

-- ---- what `append` and `append_after` leave

module _ (l : List ℕ) (at w v : ℕ) (h : Below 256 l) (e : has_word (length l) at w ≡ true) where
  pub after-met : (before known after x : ℕ) → known ≡ part_of before 0 (at % 8) → after ≡ behind_of at w
      → x ≡ join_of known after w v
      → with_word l (at / 8) x ≡ after_of l at before w v
  unfolding after_of after_bits
  after-met before known after x p r q =
      let s = at % 8 in
      let z : known ≡ before % 2 ^ s = p ∙ part_low before s in
      ap (with_word l (at / 8)) (q ∙ ap₂ (λ (y n : ℕ). join_of y n w v) z r)
      ∙ stored-after l at (before % 2 ^ s) w v h e (mod-lt before (pow_pos s))
      ∙ rw (field_bits_low s before)

  pub append-met : (before after x : ℕ) → before ≡ get_or l (at / 8) 0 / 2 ^ (8 - at % 8) → after ≡ behind_of at w
      → x ≡ join_of before after w v
      → with_word l (at / 8) x ≡ append_of l at w v
  append-met before after x p r q =
      let i = 8 * (at / 8) in
      let k = has_within (length l) at w e in
      let b : i + at % 8 ≤ length (bits_of l) = rw (length-bits_of l) (omega arith) in
      let n : at ≡ i + at % 8 = omega arith in
      let f : before ≡ field_at (bits_of l) i (at % 8) = p ∙ first_bits l (at / 8) (at % 8) (8 - at % 8) h (omega arith) (omega arith) in
      let d : drop i (take at (bits_of l)) ≡ field_bits (at % 8) before =
      ap (λ (j : ℕ). drop i (take j (bits_of l))) n
      ∙ drop_taken (bits_of l) i (at % 8) (omega arith)
      ∙ sym (ap (field_bits (at % 8)) f ∙ field_bits_at (bits_of l) i (at % 8) (bits_of_below l) b)
      in
      ap (with_word l (at / 8)) (q ∙ ap (λ (j : ℕ). join_of before j w v) r)
      ∙ stored-after l at before w v h e (rw f (field_at_lt (bits_of l) i (at % 8) (bits_of_below l)))
      ∙ after-known l at w v before d
