-- Part of a word by shifts and a mask, and a word from its parts by shifts.
-- Assumes nothing.
use Prim.Native.Nat.{ℕ, ◌+◌, ◌-◌, ◌*◌, ◌/◌, ◌%◌, ◌^◌, ◌≤◌, ◌<◌}
use native.Mathlib.Nat.{lt_of_lt_of_le, one-mul, mod-lt, div-one}
use native.Mathlib.Omega.{arith}
use mathlib.Core.Path.{◌≡◌, ap, ap₂, ◌∙◌}
use lib.Arith.{digits_lt}
use lib.Bits.{bit_and, and_mask}
use lib.Pow.{pow_pos, pow_mono, pow-add, shl_exact, shr_lt}
use Rattle.fields.specs.Word.{part_of, join_of, behind_of}

-- a one shifted by less than the word's width is a power of two
one_shl : (w : ℕ) → w < 64 → 1 * 2 ^ w % 2 ^ 64 ≡ 2 ^ w
one_shl w h = shl_exact 1 w 64 (omega arith) (omega arith) ∙ one-mul (2 ^ w)

pub mask_room : (w : ℕ) → w < 64 → 1 ≤ 1 * 2 ^ w % 2 ^ 64
mask_room w h = rw (one_shl w h) (pow_pos w)

pub mask_part : (x after w : ℕ) → w < 64 → bit_and (x / 2 ^ after) (1 * 2 ^ w % 2 ^ 64 - 1) ≡ part_of x after w
unfolding part_of
mask_part x after w h =
    ap (λ (m : ℕ). bit_and (x / 2 ^ after) (m - 1)) (one_shl w h) ∙ and_mask (x / 2 ^ after) w

-- the lowest bits need no shift
pub part_low : (v w : ℕ) → part_of v 0 w ≡ v % 2 ^ w
unfolding part_of
part_low v w = ap (λ (x : ℕ). x % 2 ^ w) (div-one v)

pub join_lt : (s w before v : ℕ) → before < 2 ^ s → before * 2 ^ w + v % 2 ^ w < 2 ^ (s + w)
join_lt s w before v h = rw (pow-add 2 s w) (digits_lt h (mod-lt v (pow_pos w)))

-- what `join` asks, of bits before the field that have their room in its first byte
pub may_join : (at w before after : ℕ) → w ≤ 56 → after ≡ behind_of at w → before < 2 ^ (at % 8)
    → (w ≤ 56) × ((after < 64) × ((w + after ≤ 64) × (before < 2 ^ (64 - after - w))))
may_join at w before after n e h =
    let k : at % 8 ≤ 64 - after - w = omega arith in
    (n, (omega arith, (omega arith, lt_of_lt_of_le h (pow_mono k))))

pub part_lt : (x after w : ℕ) → part_of x after w < 2 ^ w
unfolding part_of
part_lt x after w = mod-lt (x / 2 ^ after) (pow_pos w)

pub before_lt : (x at : ℕ) → x < 256 → x / 2 ^ (8 - at % 8) < 2 ^ (at % 8)
before_lt x at h =
    let e : at % 8 + (8 - at % 8) ≡ 8 = omega arith in
    shr_lt (at % 8) (8 - at % 8) (rw e h)

-- no shift of `join` loses a bit
module _ (before after w v new : ℕ) (k : w + after ≤ 64) (h : before < 2 ^ (64 - after - w)) (e : new ≡ part_of v 0 w) where
  sum_is : before * 2 ^ w % 2 ^ 64 + new ≡ before * 2 ^ w + v % 2 ^ w
  sum_is = ap₂ (λ (x y : ℕ). x + y) (shl_exact (64 - after - w) w 64 h (omega arith)) (e ∙ part_low v w)

  pub join-room : before * 2 ^ w % 2 ^ 64 + new < 2 ^ 64
  join-room =
      let n : 64 - after - w + w ≤ 64 = omega arith in
      rw sum_is (lt_of_lt_of_le (join_lt (64 - after - w) w before v h) (pow_mono n))

  pub join_is : (before * 2 ^ w % 2 ^ 64 + new) * 2 ^ after % 2 ^ 64 ≡ join_of before after w v
  join_is =
      ap (λ (x : ℕ). x * 2 ^ after % 2 ^ 64) sum_is
      ∙ shl_exact (64 - after - w + w) after 64 (join_lt (64 - after - w) w before v h) (omega arith)
