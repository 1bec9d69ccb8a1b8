-- A field at a place of a list of bits, and how a list of bits is taken apart field by field.
-- Assumes nothing.
use Prim.Native.Nat.{ℕ, ◌+◌, ◌*◌, ◌/◌, ◌%◌, ◌^◌, ◌≤◌, ◌<◌}
use native.Mathlib.Nat.{lt_of_lt_of_le, mod-eq_of_lt, min-le_left}
use native.Mathlib.Omega.{arith}
use mathlib.Core.Path.{◌≡◌, sym, ap, ◌∙◌}
use mathlib.Core.List.{List, ◌++◌}
use lib.ListN.{length, take, drop, length-append, length-take, length-drop, take-append-drop}
use lib.Seq.{take_at, drop_at, take-append-le, drop-append-le, take-add, drop-drop}
use lib.Pow.{pow_mono, high, low}
use Rattle.fields.specs.Bits.{field_bits, num_of, field_at, Below}
use Rattle.fields.proofs.Below.{below_take, below_drop}
use Rattle.fields.proofs.Width.{length-field_bits, field_bits-num_of, num_of-append, num_of-field_bits, num_of_lt}

-- ---- reading

pub field_at_lt : (l : List ℕ) (at w : ℕ) → Below 2 l → field_at l at w < 2 ^ w
unfolding field_at
field_at_lt l at w h =
    let n : length (take w (drop at l)) ≤ w = rw (length-take w (drop at l)) (min-le_left w (length (drop at l))) in
    lt_of_lt_of_le (num_of_lt (take w (drop at l)) (below_take 2 w (drop at l) (below_drop 2 at l h))) (pow_mono n)

-- a place counted from a later start
pub field_at-drop : (l : List ℕ) (a b w : ℕ) → field_at l (a + b) w ≡ field_at (drop a l) b w
unfolding field_at
field_at-drop l a b w = ap (λ (m : List ℕ). num_of (take w m)) (sym (drop-drop b a l))

-- a field of w + u bits is the field of w bits and the field of u bits behind it
pub field_at_add : (l : List ℕ) (at w u : ℕ) → at + (w + u) ≤ length l
    → field_at l at (w + u) ≡ field_at l at w * 2 ^ u + field_at l (at + w) u
unfolding field_at
field_at_add l at w u h =
    let e : length (take u (drop (at + w) l)) ≡ u = simp (length-take, length-drop) (omega arith) in
    ap num_of (take-add w u (drop at l) ∙ ap (λ (r : List ℕ). take w (drop at l) ++ take u r) (drop-drop w at l))
    ∙ num_of-append (take w (drop at l)) (take u (drop (at + w) l))
    ∙ ap (λ (n : ℕ). num_of (take w (drop at l)) * 2 ^ n + num_of (take u (drop (at + w) l))) e

pub field_at-high : (l : List ℕ) (at w u : ℕ) → Below 2 l → at + (w + u) ≤ length l
    → field_at l at (w + u) / 2 ^ u ≡ field_at l at w
field_at-high l at w u b h =
    ap (λ (x : ℕ). x / 2 ^ u) (field_at_add l at w u h) ∙ high (field_at l at w) u (field_at_lt l (at + w) u b)

pub field_at_low : (l : List ℕ) (at w u : ℕ) → Below 2 l → at + (w + u) ≤ length l
    → field_at l at (w + u) % 2 ^ u ≡ field_at l (at + w) u
field_at_low l at w u b h =
    ap (λ (x : ℕ). x % 2 ^ u) (field_at_add l at w u h) ∙ low (field_at l at w) u (field_at_lt l (at + w) u b)

-- what follows the field does not matter, and neither does what stands before its place
pub field_at_left : (l m : List ℕ) (at w : ℕ) → at + w ≤ length l → field_at (l ++ m) at w ≡ field_at l at w
unfolding field_at
field_at_left l m at w h =
    let d : w ≤ length (drop at l) = simp length-drop (omega arith) in
    ap (λ (r : List ℕ). num_of (take w r)) (drop-append-le at l m (omega arith))
    ∙ ap num_of (take-append-le w (drop at l) m d)

pub field_at_past : (l m : List ℕ) (n at w : ℕ) → length l ≡ n → field_at (l ++ m) (n + at) w ≡ field_at m at w
field_at_past l m n at w e =
    field_at-drop (l ++ m) n at w ∙ ap (λ (r : List ℕ). field_at r at w) (drop_at l m n e)

-- ---- a list of bits that begins with a field

pub field_at_front : (w v : ℕ) (l : List ℕ) → field_at (field_bits w v ++ l) 0 w ≡ v % 2 ^ w
unfolding field_at
field_at_front w v l = ap num_of (take_at (field_bits w v) l w (length-field_bits w v)) ∙ num_of-field_bits w v

pub field_at-first : (w v : ℕ) (l : List ℕ) → v < 2 ^ w → field_at (field_bits w v ++ l) 0 w ≡ v
field_at-first w v l h = field_at_front w v l ∙ mod-eq_of_lt h

pub drop_front : (w v : ℕ) (l : List ℕ) → drop w (field_bits w v ++ l) ≡ l
drop_front w v l = drop_at (field_bits w v) l w (length-field_bits w v)

pub front_length : (w v : ℕ) (l : List ℕ) → length (field_bits w v ++ l) ≡ w + length l
front_length w v l =
    length-append (field_bits w v) l ∙ ap (λ (n : ℕ). n + length l) (length-field_bits w v)

-- the bits at a place are those of the field that is read there, and any bits begin with a field
pub field_bits_at : (l : List ℕ) (at w : ℕ) → Below 2 l → at + w ≤ length l
    → field_bits w (field_at l at w) ≡ take w (drop at l)
unfolding field_at
field_bits_at l at w h k =
    let n : length (take w (drop at l)) ≡ w = simp (length-take, length-drop) (omega arith) in
    ap (λ (i : ℕ). field_bits i (num_of (take w (drop at l)))) (sym n)
    ∙ field_bits-num_of (take w (drop at l)) (below_take 2 w (drop at l) (below_drop 2 at l h))

pub split_field : (w : ℕ) (l : List ℕ) → Below 2 l → w ≤ length l → field_bits w (field_at l 0 w) ++ drop w l ≡ l
split_field w l h n =
    ap (λ (r : List ℕ). r ++ drop w l) (field_bits_at l 0 w h (omega arith)) ∙ take-append-drop w l
