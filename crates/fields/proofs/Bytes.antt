-- Bytes and their bits: parts and joints of bytes are those of their bits, and the bits determine the bytes.
-- Assumes nothing.
use Prim.Native.Nat.{ℕ, zero, suc, ◌+◌, ◌*◌}
use native.Mathlib.Nat.{mul-suc, add_comm}
use native.Mathlib.Omega.{arith}
use mathlib.Core.Path.{◌≡◌, refl, sym, ap, ap₂, ◌∙◌}
use mathlib.Core.List.{List, [], ◌∷◌, ◌++◌, append_assoc}
use lib.ListN.{length, take, drop, replicate, length-append, length-take, length-drop, take-append-drop, replicate-append-replicate}
use lib.Seq.{take_at, drop_at, take-append-add, drop-append-add, take-nil, drop-nil}
use Rattle.fields.specs.Bits.{field_bits, num_of, bits_of, bytes_of, Below}
use Rattle.fields.proofs.Below.{below_append, below_take, below_drop}
use Rattle.fields.proofs.Width.{length-field_bits, field_bits_below, field_bits-zero, field_bits-num_of, num_of_fits, num_of_lt}

pub length-bits_of : (l : List ℕ) → length (bits_of l) ≡ 8 * length l
unfolding bits_of
length-bits_of [] = refl
length-bits_of (b ∷ l) =
    length-append (field_bits 8 b) (bits_of l)
    ∙ ap₂ (λ (m n : ℕ). m + n) (length-field_bits 8 b) (length-bits_of l)
    ∙ sym (mul-suc 8 (length l) ∙ add_comm (8 * length l) 8)

pub bits_of_below : (l : List ℕ) → Below 2 (bits_of l)
unfolding bits_of
bits_of_below [] = tt
bits_of_below (b ∷ l) = below_append 2 (field_bits 8 b) (bits_of l) (field_bits_below 8 b) (bits_of_below l)

pub bits_of-append : (l m : List ℕ) → bits_of (l ++ m) ≡ bits_of l ++ bits_of m
unfolding bits_of
bits_of-append [] m = refl
bits_of-append (b ∷ l) m =
    ap (λ (r : List ℕ). field_bits 8 b ++ r) (bits_of-append l m)
    ∙ sym (append_assoc (field_bits 8 b) (bits_of l) (bits_of m))

-- eight bits more for one byte more
take_byte : (b k : ℕ) (l : List ℕ) → take (8 * suc k) (field_bits 8 b ++ l) ≡ field_bits 8 b ++ take (8 * k) l
take_byte b k l =
    ap (λ (n : ℕ). take n (field_bits 8 b ++ l))
    (mul-suc 8 k ∙ add_comm (8 * k) 8 ∙ ap (λ (n : ℕ). n + 8 * k) (sym (length-field_bits 8 b)))
    ∙ take-append-add (field_bits 8 b) l (8 * k)

drop_byte : (b k : ℕ) (l : List ℕ) → drop (8 * suc k) (field_bits 8 b ++ l) ≡ drop (8 * k) l
drop_byte b k l =
    ap (λ (n : ℕ). drop n (field_bits 8 b ++ l))
    (mul-suc 8 k ∙ add_comm (8 * k) 8 ∙ ap (λ (n : ℕ). n + 8 * k) (sym (length-field_bits 8 b)))
    ∙ drop-append-add (field_bits 8 b) l (8 * k)

pub bits_of-take : (k : ℕ) (l : List ℕ) → bits_of (take k l) ≡ take (8 * k) (bits_of l)
unfolding bits_of
bits_of-take zero l = refl
bits_of-take (suc k) [] = sym (take-nil (8 * suc k))
bits_of-take (suc k) (b ∷ l) =
    ap (λ (r : List ℕ). field_bits 8 b ++ r) (bits_of-take k l) ∙ sym (take_byte b k (bits_of l))

pub bits_of-drop : (k : ℕ) (l : List ℕ) → bits_of (drop k l) ≡ drop (8 * k) (bits_of l)
unfolding bits_of
bits_of-drop zero l = refl
bits_of-drop (suc k) [] = sym (drop-nil (8 * suc k))
bits_of-drop (suc k) (b ∷ l) = bits_of-drop k l ∙ sym (drop_byte b k (bits_of l))

pub bits_of_zeros : (n : ℕ) → bits_of (replicate n 0) ≡ replicate (8 * n) 0
unfolding bits_of
bits_of_zeros zero = refl
bits_of_zeros (suc n) =
    ap₂ (λ (l m : List ℕ). l ++ m) (field_bits-zero 8) (bits_of_zeros n)
    ∙ replicate-append-replicate 8 (8 * n) 0
    ∙ ap (λ (k : ℕ). replicate k 0) (add_comm 8 (8 * n) ∙ sym (mul-suc 8 n))

-- ---- bytes from bits, and back

pub length-bytes_of : (n : ℕ) (l : List ℕ) → length (bytes_of n l) ≡ n
unfolding bytes_of
length-bytes_of zero l = refl
length-bytes_of (suc n) l = ap suc (length-bytes_of n (drop 8 l))

pub bytes_of-bits_of : (l : List ℕ) → Below 256 l → bytes_of (length l) (bits_of l) ≡ l
unfolding bytes_of bits_of
bytes_of-bits_of [] h = refl
bytes_of-bits_of (b ∷ l) h =
    let e : length (field_bits 8 b) ≡ 8 = length-field_bits 8 b in
    ap₂ {C = List ℕ} (λ (x : ℕ) (m : List ℕ). x ∷ m)
    (ap num_of (take_at (field_bits 8 b) (bits_of l) 8 e) ∙ num_of_fits 8 b h.0)
    (ap (λ (m : List ℕ). bytes_of (length l) m) (drop_at (field_bits 8 b) (bits_of l) 8 e) ∙ bytes_of-bits_of l h.1)

pub bytes_of_below : (n : ℕ) (l : List ℕ) → Below 2 l → length l ≡ 8 * n → Below 256 (bytes_of n l)
unfolding bytes_of
bytes_of_below zero l h e = tt
bytes_of_below (suc n) l h e =
    let t : length (take 8 l) ≡ 8 = simp length-take (omega arith) in
    let d : length (drop 8 l) ≡ 8 * n = simp length-drop (omega arith) in (
      rw t at (num_of_lt (take 8 l) (below_take 2 8 l h)),
      bytes_of_below n (drop 8 l) (below_drop 2 8 l h) d,
    )

pub bits_of-bytes_of : (n : ℕ) (l : List ℕ) → Below 2 l → length l ≡ 8 * n → bits_of (bytes_of n l) ≡ l
unfolding bytes_of bits_of
bits_of-bytes_of zero [] h e = refl
bits_of-bytes_of zero (x ∷ l) h e = absurd (omega arith)
bits_of-bytes_of (suc n) l h e =
    let t : length (take 8 l) ≡ 8 = simp length-take (omega arith) in
    let d : length (drop 8 l) ≡ 8 * n = simp length-drop (omega arith) in
    ap₂ (λ (a b : List ℕ). a ++ b)
    (ap (λ (w : ℕ). field_bits w (num_of (take 8 l))) (sym t) ∙ field_bits-num_of (take 8 l) (below_take 2 8 l h))
    (bits_of-bytes_of n (drop 8 l) (below_drop 2 8 l h) d)
    ∙ take-append-drop 8 l

-- the bits determine the bytes
pub bits_of_inj : (l m : List ℕ) → Below 256 l → Below 256 m → bits_of l ≡ bits_of m → l ≡ m
bits_of_inj l m hl hm e =
    let n : length l ≡ length m = omega (arith, length-bits_of l, length-bits_of m, ap length e) in
    sym (bytes_of-bits_of l hl)
    ∙ ap₂ (λ (k : ℕ) (b : List ℕ). bytes_of k b) n e
    ∙ bytes_of-bits_of m hm
