-- A text is written from its end to its front, piece by piece. Assumes nothing.
use mathlib.Core.Path.{◌≡◌, refl, sym, ◌∙◌, ap}
use Prim.Native.Nat.{ℕ, zero, suc, ◌+◌, ◌-◌, ◌/◌, ◌%◌, ◌^◌, ◌≤◌, ◌<◌}
use native.Mathlib.Nat.{pow-suc, one-le-pow, div-lt_iff_lt-mul, not-suc-le-zero, le_of_suc-le-suc}
use native.Mathlib.Numerals.{add-one}
use native.Mathlib.Omega.{arith}
use mathlib.Core.List.{List, ◌∷◌, ◌++◌, append_assoc}
use mathlib.Core.Bool.{Bool, true, false, cond}
use lib.ListN.{length, take, drop, set, length-append, length-set, length-drop}
use lib.Seq.{take-take, take-set-le, drop-cons, get_or-set_same, drop-set-lt}
use lib.Dec.{ltb, eqb, lit<}
use borrow.Author.Tests.{lt-ltb, le-ltb, eq-eqb, ne_eqb}
use Rattle.text.specs.Words.{ascii}
use Rattle.text.specs.Answer.{digit, decimal_on, decimal, high_end, end_of, Written}

-- what agrees up to a place agrees up to any place before it
shorter : (m n : ℕ) (l l' : List ℕ) → m ≤ n → take n l ≡ take n l' → take m l ≡ take m l'
shorter m n l l' h e = sym (take-take m n l h) ∙ (ap (take m) e ∙ take-take m n l' h)

-- one piece in front of another
pub written_then : {old mid new : List ℕ} {at from to : ℕ} {w v : List ℕ}
    → Written old at mid from w → Written mid from new to v → Written old at new to (v ++ w)
written_then {old} {mid} {new} {at} {from} {to} {w} {v} a b =
    record {
      place = omega (arith, length-append v w, a.place, b.place);
      front = b.front ∙ shorter to from mid old (omega (arith, b.place)) a.front;
      bytes = b.bytes ∙ (ap (λ (l : List ℕ). v ++ l) a.bytes ∙ sym (append_assoc v w (drop at old)));
    }

-- at most ten digits
decimal_on-length : (k n : ℕ) → length (decimal_on k n) ≤ suc k
unfolding decimal_on digit
decimal_on-length zero n = omega arith
decimal_on-length (suc k) n = go (ltb n 10) (decimal_on-length k (n / 10))
  where
    go : (t : Bool) → length (decimal_on k (n / 10)) ≤ suc k
        → length (cond t (digit n) (decimal_on k (n / 10) ++ digit (n % 10))) ≤ suc (suc k)
    go true h = omega arith
    go false h = omega (arith, length-append (decimal_on k (n / 10)) (digit (n % 10)))

digit-length : (d : ℕ) → length (digit d) ≡ 1
unfolding digit
digit-length d = refl

pub decimal-length : (n : ℕ) → length (decimal n) ≤ 10
unfolding decimal
decimal-length n = decimal_on-length 9 n

-- and at least one
decimal_on_some : (k n : ℕ) → 1 ≤ length (decimal_on k n)
unfolding decimal_on digit
decimal_on_some zero n = omega arith
decimal_on_some (suc k) n = go (ltb n 10)
  where
    go : (t : Bool) → 1 ≤ length (cond t (digit n) (decimal_on k (n / 10) ++ digit (n % 10)))
    go true = omega arith
    go false = omega (arith, length-append (decimal_on k (n / 10)) (digit (n % 10)))

pub decimal_some : (n : ℕ) → 1 ≤ length (decimal n)
unfolding decimal
decimal_some n = decimal_on_some 9 n

pub decimal_on_last : (k n : ℕ) → n < 10 → decimal_on k n ≡ digit n
unfolding decimal_on
decimal_on_last zero n h = refl
decimal_on_last (suc k) n h = rw (lt-ltb n 10 h)

pub decimal_on_more : (k n : ℕ) → 10 ≤ n → decimal_on (suc k) n ≡ decimal_on k (n / 10) ++ digit (n % 10)
unfolding decimal_on
decimal_on_more k n h = rw (le-ltb n 10 h)

-- as many as the number is large
decimal_on_digits : (i k n : ℕ) → i ≤ k → 10 ^ i ≤ n → n < 10 ^ suc i → length (decimal_on k n) ≡ suc i
unfolding digit
decimal_on_digits zero k n h lo hi = rw (decimal_on_last k n hi)
decimal_on_digits (suc i) zero n h lo hi = absurd (not-suc-le-zero h)
decimal_on_digits (suc i) (suc k) n h lo hi =
    let p = one-le-pow i 10 (lit< tt) in
    let l = rw pow-suc at lo in
    let r = decimal_on_digits i k (n / 10) (le_of_suc-le-suc h) (omega arith) ((div-lt_iff_lt-mul (lit< tt)).1 (rw pow-suc at hi)) in
    rw (decimal_on_more k n (omega arith), length-append, r) (omega arith)

pub decimal_digits : (i n : ℕ) → i ≤ 9 → 10 ^ i ≤ n → n < 10 ^ suc i → length (decimal n) ≡ suc i
unfolding decimal
decimal_digits i n h lo hi = decimal_on_digits i 9 n h lo hi

pub decimal_one : (n : ℕ) → n < 10 → length (decimal n) ≡ 1
unfolding decimal digit
decimal_one n h = rw (decimal_on_last 9 n h)

-- what was put at a place, and then what follows
drop-put : (l : List ℕ) (i b : ℕ) → i < length l → drop i (set l i b) ≡ b ∷ drop (i + 1) l
drop-put l i b h =
    drop-cons (set l i b) i 0 (rw length-set h)
    ∙ rw (get_or-set_same l i b 0 h, drop-set-lt (suc i) l i b (omega arith), add-one)

-- the digits of n that are written in front of `at`, with what is left of n
pub record Digits (old : List ℕ) (at n : ℕ) (text : List ℕ) (from left : ℕ) : Type 0 where
  pub room : length (decimal n) ≤ at
  pub within : at ≤ length old
  pub low : from < at
  pub high : at ≤ from + 10
  pub long : length text ≡ length old
  pub small : left < 10 ^ (from + 11 - at)
  pub front : take (from + 1) text ≡ take (from + 1) old
  pub bytes : decimal_on (from + 10 - at) left ++ drop (from + 1) text ≡ decimal n ++ drop at old

pub digits_begin : (old : List ℕ) (at n : ℕ) → length (decimal n) ≤ at → at ≤ length old → n < 2 ^ 32 → Digits old at n old (at - 1) n
unfolding decimal
digits_begin old at n h w k =
    let s = decimal_some n in
    let a : at - 1 + 11 - at ≡ 10 = omega arith in
    let b : at - 1 + 10 - at ≡ 9 = omega arith in
    let d : at - 1 + 1 ≡ at = omega arith in
    record {
      room = h;
      within = w;
      low = omega arith;
      high = omega arith;
      long = refl;
      small = rw a (omega arith);
      front = refl;
      bytes = rw (b, d);
    }

module _ {old : List ℕ} {at n : ℕ} {text : List ℕ} {from left : ℕ} (s : Digits old at n text from left) where
  -- a number of two digits or more needs two places
  pub digits-room : 10 ≤ left → (at < from + 10) × (1 ≤ from)
  digits-room h = go (from + 10 - at) refl
    where
      go : (k : ℕ) → from + 10 - at ≡ k → (at < from + 10) × (1 ≤ from)
      go zero e = let a : from + 11 - at ≡ 1 = omega arith in let b = rw a at s.small in absurd (omega arith)
      go (suc k) e =
          let m = rw (e, decimal_on_more k left h) at s.bytes in
          let z = decimal_on_some k (left / 10) in
          let x = simp (length-append, length-drop) at (ap length m) in
          let d = digit-length (left % 10) in (omega arith, omega arith)

  pub digits_more : 10 ≤ left → Digits old at n (set text from (left % 10 + 48)) (from - 1) (left / 10)
  unfolding digit
  digits_more h =
      let r = digits-room h in
      let a : from + 11 - at ≡ suc (from - 1 + 11 - at) = omega arith in
      let b : from + 10 - at ≡ suc (from - 1 + 10 - at) = omega arith in
      let d : from - 1 + 1 ≡ from = omega arith in
      record {
        room = s.room;
        within = s.within;
        low = omega arith;
        high = omega arith;
        long = length-set text from (left % 10 + 48) ∙ s.long;
        small = (div-lt_iff_lt-mul (lit< tt)).1 (rw (a, pow-suc) at s.small);
        front = rw d (take-set-le from text from (left % 10 + 48) (omega arith) ∙ shorter from (from + 1) text old (omega arith) s.front);
        bytes =
            rw (d, drop-put text from (left % 10 + 48) (omega arith))
            (sym (append_assoc (decimal_on (from - 1 + 10 - at) (left / 10)) (digit (left % 10)) (drop (from + 1) text))
            ∙ (rw (b, decimal_on_more (from - 1 + 10 - at) left h) at s.bytes));
      }

  pub digits-end : left < 10 → Written old at (set text from (left + 48)) from (decimal n)
  unfolding digit
  digits-end h =
      let b : drop from (set text from (left + 48)) ≡ decimal n ++ drop at old =
      drop-put text from (left + 48) (omega arith) ∙ (rw (decimal_on_last (from + 10 - at) left h) at s.bytes) in
      record {
        place = omega (arith, simp (length-drop, length-set, length-append) at (ap length b), s.within);
        front = take-set-le from text from (left + 48) (omega arith) ∙ shorter from (from + 1) text old (omega arith) s.front;
        bytes = b;
      }

-- the ends of a gap
pub end_low : (e : ℕ) → e ≡ 0 → end_of e ≡ ascii "LOW"
unfolding end_of
end_low e p = rw (eq-eqb e 0 p)

pub end_high : (e : ℕ) → (e ≡ 0 → ⊥) → e ≡ high_end → end_of e ≡ ascii "HIGH"
unfolding end_of
end_high e p q = rw (ne_eqb e 0 p, eq-eqb e high_end q)

pub end_name : (e : ℕ) → (e ≡ 0 → ⊥) → (e ≡ high_end → ⊥) → end_of e ≡ decimal (e - 1)
unfolding end_of
end_name e p q = rw (ne_eqb e 0 p, ne_eqb e high_end q)

pub end_length : (e : ℕ) → length (end_of e) ≤ 10
unfolding end_of ascii
end_length e = go (eqb e 0) (eqb e high_end) (decimal-length (e - 1))
  where
    go : (t u : Bool) → length (decimal (e - 1)) ≤ 10
        → length (cond t (ascii "LOW") (cond u (ascii "HIGH") (decimal (e - 1)))) ≤ 10
    go true u h = omega arith
    go false true h = omega arith
    go false false h = h
