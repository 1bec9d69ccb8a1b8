-- The bits of a field and the number that they write, once for every width.
-- Assumes nothing.
use Prim.Native.Nat.{ℕ, zero, suc, ◌+◌, ◌*◌, ◌/◌, ◌%◌, ◌^◌, ◌<◌}
use native.Mathlib.Nat.{zero-add, suc-add, add_comm, mod-one, zero-mod, zero-div, mod-lt, mod-eq_of_lt, pow-succ', mul-add-mod_self_right}
use native.Mathlib.Numerals.{one-add}
use native.Mathlib.Omega.{arith}
use mathlib.Core.Path.{◌≡◌, refl, sym, ap, ap₂, ◌∙◌}
use mathlib.Core.List.{List, [], ◌∷◌, ◌++◌}
use lib.ListN.{length, drop, replicate, length-append}
use lib.Seq.{drop_at, drop-append-add}
use lib.Arith.{digits_lt}
use lib.Pow.{pow_pos, pow-add, shr-shr, mod-pow-add, mod-mod-pow, high, field}
use Rattle.fields.specs.Bits.{field_bits, num_of, Below}

-- ---- a field's bits

pub length-field_bits : (w v : ℕ) → length (field_bits w v) ≡ w
unfolding field_bits
length-field_bits zero v = refl
length-field_bits (suc w) v = ap suc (length-field_bits w v)

pub field_bits_below : (w v : ℕ) → Below 2 (field_bits w v)
unfolding field_bits
field_bits_below zero v = tt
field_bits_below (suc w) v = (mod-lt (v / 2 ^ w) (pow_pos 1), field_bits_below w v)

-- a field of a + b bits is its a high bits, then its b low ones
pub field_bits_add : (a b v : ℕ) → field_bits (a + b) v ≡ field_bits a (v / 2 ^ b) ++ field_bits b v
unfolding field_bits
field_bits_add zero b v = ap (λ (n : ℕ). field_bits n v) (zero-add b)
field_bits_add (suc a) b v =
    ap (λ (n : ℕ). field_bits n v) (suc-add a b)
    ∙ ap₂ {C = List ℕ} (λ (x : ℕ) (l : List ℕ). x % 2 ∷ l)
    (ap (λ (n : ℕ). v / 2 ^ n) (add_comm a b) ∙ sym (shr-shr v b a))
    (field_bits_add a b v)

-- higher bits of the number do not show in a field
pub field_bits_mod : (j w v : ℕ) → field_bits w (v % 2 ^ (j + w)) ≡ field_bits w v
unfolding field_bits
field_bits_mod j zero v = refl
field_bits_mod j (suc w) v =
    let e : j + suc w ≡ suc j + w = omega arith in
    let f : j + 1 ≡ suc j = omega arith in
    ap (λ (n : ℕ). field_bits (suc w) (v % 2 ^ n)) e
    ∙ ap₂ {C = List ℕ} (λ (x : ℕ) (l : List ℕ). x ∷ l)
    (ap (λ (x : ℕ). x % 2) (field v (suc j) w)
    ∙ ap (λ (n : ℕ). v / 2 ^ w % 2 ^ n % 2) (sym f)
    ∙ mod-mod-pow (v / 2 ^ w) j 1)
    (field_bits_mod (suc j) w v)

pub field_bits_low : (w v : ℕ) → field_bits w (v % 2 ^ w) ≡ field_bits w v
field_bits_low w v = ap (λ (n : ℕ). field_bits w (v % 2 ^ n)) (sym (zero-add w)) ∙ field_bits_mod 0 w v

pub field_bits-above : (j w h v : ℕ) → field_bits w (h * 2 ^ (j + w) + v) ≡ field_bits w v
field_bits-above j w h v =
    sym (field_bits_mod j w (h * 2 ^ (j + w) + v))
    ∙ ap (λ (x : ℕ). field_bits w x) (mul-add-mod_self_right h (2 ^ (j + w)) v)
    ∙ field_bits_mod j w v

field_bits_block : (w h v : ℕ) → field_bits w (h * 2 ^ w + v) ≡ field_bits w v
field_bits_block w h v =
    ap (λ (n : ℕ). field_bits w (h * 2 ^ n + v)) (sym (zero-add w)) ∙ field_bits-above 0 w h v

-- two fields, the one behind the other, are one field
pub field_bits_join : (w u a b : ℕ) → field_bits (w + u) (a * 2 ^ u + b % 2 ^ u) ≡ field_bits w a ++ field_bits u b
field_bits_join w u a b =
    field_bits_add w u (a * 2 ^ u + b % 2 ^ u)
    ∙ ap₂ (λ (x : ℕ) (l : List ℕ). field_bits w x ++ l) (high a u (mod-lt b (pow_pos u)))
    (field_bits_block u a (b % 2 ^ u) ∙ field_bits_low u b)

-- the last bits, where the last field has at least as many
pub last_bits : (l : List ℕ) (a b v : ℕ) → drop (length l + a) (l ++ field_bits (a + b) v) ≡ field_bits b v
last_bits l a b v =
    drop-append-add l (field_bits (a + b) v) a
    ∙ ap (drop a) (field_bits_add a b v)
    ∙ drop_at (field_bits a (v / 2 ^ b)) (field_bits b v) a (length-field_bits a (v / 2 ^ b))

-- ---- the number that bits write

pub num_of-append : (l m : List ℕ) → num_of (l ++ m) ≡ num_of l * 2 ^ length m + num_of m
unfolding num_of
num_of-append [] m = omega arith
num_of-append (b ∷ l) m =
    rw (length-append l m, pow-add 2 (length l) (length m), num_of-append l m) (omega arith)

pub num_of_lt : (l : List ℕ) → Below 2 l → num_of l < 2 ^ length l
unfolding num_of
num_of_lt [] h = omega arith
num_of_lt (b ∷ l) h = rw (pow-succ' 2 (length l)) (digits_lt h.0 (num_of_lt l h.1))

-- ---- there and back

pub num_of-field_bits : (w v : ℕ) → num_of (field_bits w v) ≡ v % 2 ^ w
unfolding num_of field_bits
num_of-field_bits zero v = sym (mod-one v)
num_of-field_bits (suc w) v =
    ap₂ (λ (n x : ℕ). v / 2 ^ w % 2 * 2 ^ n + x) (length-field_bits w v) (num_of-field_bits w v)
    ∙ sym (mod-pow-add v 1 w)
    ∙ ap (λ (n : ℕ). v % 2 ^ n) (one-add w)

pub num_of_fits : (w v : ℕ) → v < 2 ^ w → num_of (field_bits w v) ≡ v
num_of_fits w v h = num_of-field_bits w v ∙ mod-eq_of_lt h

pub field_bits-num_of : (l : List ℕ) → Below 2 l → field_bits (length l) (num_of l) ≡ l
unfolding num_of field_bits
field_bits-num_of [] h = refl
field_bits-num_of (b ∷ l) h =
    ap₂ {C = List ℕ} (λ (x : ℕ) (m : List ℕ). x ∷ m)
    (ap (λ (x : ℕ). x % 2) (high b (length l) (num_of_lt l h.1)) ∙ mod-eq_of_lt h.0)
    (field_bits_block (length l) b (num_of l) ∙ field_bits-num_of l h.1)

-- ---- zeros

pub field_bits-zero : (w : ℕ) → field_bits w 0 ≡ replicate w 0
unfolding field_bits
field_bits-zero zero = refl
field_bits-zero (suc w) =
    ap₂ {C = List ℕ} (λ (x : ℕ) (l : List ℕ). x % 2 ∷ l) (zero-div (2 ^ w)) (field_bits-zero w)

pub num_of-zero : (n : ℕ) → num_of (replicate n 0) ≡ 0
num_of-zero n = ap num_of (sym (field_bits-zero n)) ∙ num_of-field_bits n 0 ∙ zero-mod (2 ^ n)

-- two lists of as many bits that write one number are one list
pub num_of_inj : (l m : List ℕ) → Below 2 l → Below 2 m → length l ≡ length m → num_of l ≡ num_of m → l ≡ m
num_of_inj l m hl hm e n =
    sym (field_bits-num_of l hl)
    ∙ ap₂ (λ (w v : ℕ). field_bits w v) e n
    ∙ field_bits-num_of m hm

-- bits that write 0 are zeros
pub zeros_of : (l : List ℕ) → Below 2 l → num_of l ≡ 0 → l ≡ replicate (length l) 0
zeros_of l h e =
    sym (field_bits-num_of l h)
    ∙ ap (λ (v : ℕ). field_bits (length l) v) e
    ∙ field_bits-zero (length l)

-- two numbers that fit the width and have one field are one number
pub field_bits_inj : (w u v : ℕ) → u < 2 ^ w → v < 2 ^ w → field_bits w u ≡ field_bits w v → u ≡ v
field_bits_inj w u v hu hv e = sym (num_of_fits w u hu) ∙ ap num_of e ∙ num_of_fits w v hv
