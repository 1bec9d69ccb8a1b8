-- Bits with a field appended, and zeros behind it to the end of the eight bytes in which it begins.
-- Assumes nothing.
use Prim.Native.Nat.{ℕ, ◌+◌, ◌-◌, ◌*◌, ◌/◌, ◌%◌, ◌^◌, ◌≤◌}
use native.Mathlib.Nat.{add-zero}
use native.Mathlib.Omega.{arith}
use mathlib.Core.Path.{◌≡◌, sym, ap, ap₂, ◌∙◌}
use mathlib.Core.List.{List, ◌++◌, append_assoc}
use lib.ListN.{length, take, drop, replicate, length-append, length-drop, length-replicate, take-append-drop, replicate-append-replicate}
use lib.Seq.{length-take-le, take-take, take-append_seam, drop-append-add, drop_at}
use Rattle.fields.specs.Bits.{field_bits, field_at, append_bits, after_bits, Below}
use Rattle.fields.proofs.Below.{below_append, below_take, below_drop, below_zeros}
use Rattle.fields.proofs.Width.{length-field_bits, field_bits_below}
use Rattle.fields.proofs.Places.{field_at-drop, field_at_left, field_at_past, field_at_front}

module _ (l : List ℕ) (at w v : ℕ) (h : w ≤ 56) (k : 8 * (at / 8 + 8) ≤ length l) where
  pub length-append_bits : length (append_bits l at w v) ≡ length l
  unfolding append_bits
  length-append_bits =
      simp (length-append, length-take-le at l (omega arith), length-field_bits, length-replicate, length-drop)
      (omega arith)

  pub length-after_bits : (before : ℕ) → length (after_bits l at before w v) ≡ length l
  unfolding after_bits
  length-after_bits before =
      simp (
        length-append,
        length-take-le (8 * (at / 8)) l (omega arith),
        length-field_bits,
        length-replicate,
        length-drop,
      ) (omega arith)

-- the field and what stands behind it
behind_below : (l : List ℕ) (n w v z : ℕ) → Below 2 l → Below 2 (field_bits w v ++ (replicate z 0 ++ drop n l))
behind_below l n w v z h =
    below_append 2 (field_bits w v) (replicate z 0 ++ drop n l) (field_bits_below w v)
    (below_append 2 (replicate z 0) (drop n l) (below_zeros 1 z) (below_drop 2 n l h))

pub append_bits_below : (l : List ℕ) (at w v : ℕ) → Below 2 l → Below 2 (append_bits l at w v)
unfolding append_bits
append_bits_below l at w v h =
    below_append 2 (take at l) _ (below_take 2 at l h)
    (behind_below l (8 * (at / 8 + 8)) w v (64 - at % 8 - w) h)

pub after_bits_below : (l : List ℕ) (at before w v : ℕ) → Below 2 l → Below 2 (after_bits l at before w v)
unfolding after_bits
after_bits_below l at before w v h =
    below_append 2 (take (8 * (at / 8)) l) _ (below_take 2 (8 * (at / 8)) l h)
    (below_append 2 (field_bits (at % 8) before) _ (field_bits_below (at % 8) before)
    (behind_below l (8 * (at / 8 + 8)) w v (64 - at % 8 - w) h))

-- where the bits before the field are those that stand there already, putting them too changes nothing
pub after-append : (l : List ℕ) (at before w v : ℕ) → drop (8 * (at / 8)) (take at l) ≡ field_bits (at % 8) before
    → after_bits l at before w v ≡ append_bits l at w v
unfolding after_bits append_bits
after-append l at before w v e =
    let i = 8 * (at / 8) in
    let behind = field_bits w v ++ (replicate (64 - at % 8 - w) 0 ++ drop (8 * (at / 8 + 8)) l) in
    ap₂ (λ (a b : List ℕ). a ++ (b ++ behind)) (sym (take-take i at l (omega arith))) (sym e)
    ∙ sym (append_assoc (take i (take at l)) (drop i (take at l)) behind)
    ∙ ap (λ (a : List ℕ). a ++ behind) (take-append-drop i (take at l))

-- ---- what is read afterwards: the field, and what stands before it and behind the eight bytes as it was

pub field_at-append : (l : List ℕ) (at w v : ℕ) → at ≤ length l → field_at (append_bits l at w v) at w ≡ v % 2 ^ w
unfolding append_bits
field_at-append l at w v h =
    ap (λ (n : ℕ). field_at (append_bits l at w v) n w) (sym (add-zero at))
    ∙ field_at_past (take at l) _ at 0 w (length-take-le at l h)
    ∙ field_at_front w v (replicate (64 - at % 8 - w) 0 ++ drop (8 * (at / 8 + 8)) l)

pub field_at_before : (l : List ℕ) (at w v a n : ℕ) → at ≤ length l → a + n ≤ at
    → field_at (append_bits l at w v) a n ≡ field_at l a n
unfolding append_bits
field_at_before l at w v a n h k =
    let e : length (take at l) ≡ at = length-take-le at l h in
    field_at_left (take at l) _ a n (omega arith)
    ∙ sym (field_at_left (take at l) (drop at l) a n (omega arith))
    ∙ ap (λ (r : List ℕ). field_at r a n) (take-append-drop at l)

pub field_at-behind : (l : List ℕ) (at w v a n : ℕ) → w ≤ 56 → at ≤ length l → 8 * (at / 8 + 8) ≤ a
    → field_at (append_bits l at w v) a n ≡ field_at l a n
unfolding append_bits
field_at-behind l at w v a n c h k =
    let i = 8 * (at / 8 + 8) in
    let j : a ≡ i + (a - i) = omega arith in
    let front = take at l ++ (field_bits w v ++ replicate (64 - at % 8 - w) 0) in
    let e : length front ≡ i =
    simp (length-append, length-take-le at l h, length-field_bits, length-replicate) (omega arith)
    in
    let f : append_bits l at w v ≡ front ++ drop i l = simp append_assoc in
    ap₂ (λ (b : List ℕ) (x : ℕ). field_at b x n) f j
    ∙ field_at_past front (drop i l) i (a - i) n e
    ∙ sym (ap (λ (x : ℕ). field_at l x n) j ∙ field_at-drop l i (a - i) n)

-- ---- the next field after bits l, where bits m that it covers and zeros follow

zeros_behind : (m : List ℕ) (d r : ℕ) → drop (length m + d) (m ++ replicate (d + r) 0) ≡ replicate r 0
zeros_behind m d r =
    drop-append-add m (replicate (d + r) 0) d
    ∙ ap (drop d) (sym (replicate-append-replicate d r 0))
    ∙ drop_at (replicate d 0) (replicate r 0) d (length-replicate d 0)

next : (l m : List ℕ) (n w v z d r i : ℕ) → i ≡ length l + (length m + d) → n ≡ d + r → z + r ≡ length m + n - w
    → take (length l) (l ++ (m ++ replicate n 0))
    ++ (field_bits w v ++ (replicate z 0 ++ drop i (l ++ (m ++ replicate n 0))))
    ≡ (l ++ field_bits w v) ++ replicate (length m + n - w) 0
next l m n w v z d r i ei en ez =
    ap₂ (λ (a b : List ℕ). a ++ (field_bits w v ++ (replicate z 0 ++ b))) (take-append_seam l (m ++ replicate n 0))
    (ap₂ (λ (x y : ℕ). drop x (l ++ (m ++ replicate y 0))) ei en
    ∙ drop-append-add l (m ++ replicate (d + r) 0) (length m + d)
    ∙ zeros_behind m d r)
    ∙ ap (λ (b : List ℕ). l ++ (field_bits w v ++ b))
    (replicate-append-replicate z r 0 ∙ ap (λ (x : ℕ). replicate x 0) ez)
    ∙ sym (append_assoc l (field_bits w v) (replicate (length m + n - w) 0))

pub append-next : (l m : List ℕ) (n w v : ℕ) → w ≤ 56 → length m ≤ w
    → 8 * (length l / 8 + 8) ≤ length l + (length m + n)
    → append_bits (l ++ (m ++ replicate n 0)) (length l) w v ≡ (l ++ field_bits w v) ++ replicate (length m + n - w) 0
unfolding append_bits
append-next l m n w v h c k =
    next l m n w v (64 - length l % 8 - w) (64 - length l % 8 - length m) (n - (64 - length l % 8 - length m))
    (8 * (length l / 8 + 8))
    (omega arith)
    (omega arith)
    (omega arith)
