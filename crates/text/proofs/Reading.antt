-- A number that is written in decimal is read as that number. Assumes nothing.
use mathlib.Core.Path.{◌≡◌, refl, ◌∙◌, ap}
use Prim.Native.Nat.{ℕ, zero, suc, ◌+◌, ◌-◌, ◌*◌, ◌/◌, ◌%◌, ◌^◌, ◌≤◌, ◌<◌}
use native.Mathlib.Nat.{zero-add, pow-suc, div-lt_iff_lt-mul, div-add-mod'}
use native.Mathlib.Omega.{arith}
use mathlib.Core.List.{List, [], ◌∷◌, ◌++◌}
use mathlib.Core.Bool.{Bool, true, false, ◌&&◌, not}
use Rattle.std.specs.Prelude.{Some}
use lib.Dec.{ltb, eqb, lit<}
use borrow.Author.Tests.{le-leb, ne_eqb, ltb-true, ltb-false}
use Rattle.text.specs.Words.{is_digit, decimals, unpadded, value_from, largest, numeral}
use Rattle.text.specs.Answer.{digit, decimal_on, decimal}
use Rattle.text.proofs.Writing.{decimal_on_last, decimal_on_more}

decimals-append : (a b : List ℕ) → decimals a ≡ true → decimals b ≡ true → decimals (a ++ b) ≡ true
unfolding decimals
decimals-append [] b h k = k
decimals-append (x ∷ a) b h k = go (is_digit x) h (λ q. decimals-append a b q k)
  where
    go : (t : Bool) → t && decimals a ≡ true → (decimals a ≡ true → decimals (a ++ b) ≡ true) → t && decimals (a ++ b) ≡ true
    go true q ih = ih q
    go false q ih = q

value_append : (v : ℕ) (a b : List ℕ) → value_from v (a ++ b) ≡ value_from (value_from v a) b
unfolding value_from
value_append v [] b = refl
value_append v (x ∷ a) b = value_append (v * 10 + (x - 48)) a b

-- there is a first digit, and it is no zero
unfoldable leads : List ℕ → Bool
leads [] = false
leads (b ∷ w) = not (eqb b 48)

leads-append : (a b : List ℕ) → leads a ≡ true → leads (a ++ b) ≡ true
unfolding leads
leads-append [] b h = absurd (let z : ◌≡◌ {A = ℕ} 0 1 = cc in omega arith)
leads-append (x ∷ a) b h = h

leads-unpadded : (w : List ℕ) → leads w ≡ true → unpadded w ≡ true
unfolding leads unpadded
leads-unpadded [] h = h
leads-unpadded (b ∷ []) h = refl
leads-unpadded (b ∷ c ∷ w) h = h

-- one digit
digit-decimal : (d : ℕ) → d < 10 → decimals (digit d) ≡ true
unfolding decimals digit is_digit
digit-decimal d h = rw (le-leb 48 (d + 48) (omega arith), le-leb (d + 48) 57 (omega arith))

digit_value : (v d : ℕ) → value_from v (digit d) ≡ v * 10 + d
unfolding value_from digit
digit_value v d = let e : d + 48 - 48 ≡ d = omega arith in rw e

digit-leads : (d : ℕ) → 1 ≤ d → leads (digit d) ≡ true
unfolding leads digit
digit-leads d h = rw (ne_eqb (d + 48) 48 (λ e. omega arith))

record Reads (n : ℕ) (w : List ℕ) : Type 0 where
  digits : decimals w ≡ true
  value : value_from 0 w ≡ n
  first : 1 ≤ n → leads w ≡ true

reads_last : (k n : ℕ) → n < 10 → Reads n (decimal_on k n)
reads_last k n h =
    rw (decimal_on_last k n h)
    record {
      digits = digit-decimal n h;
      value = digit_value 0 n ∙ zero-add n;
      first = digit-leads n;
    }

reads_more : (k n : ℕ) → 10 ≤ n → Reads (n / 10) (decimal_on k (n / 10)) → Reads n (decimal_on (suc k) n)
reads_more k n h r =
    rw (decimal_on_more k n h)
    record {
      digits = decimals-append (decimal_on k (n / 10)) (digit (n % 10)) r.digits (digit-decimal (n % 10) (omega arith));
      value =
          value_append 0 (decimal_on k (n / 10)) (digit (n % 10))
          ∙ (ap (λ (v : ℕ). value_from v (digit (n % 10))) r.value ∙ (digit_value (n / 10) (n % 10) ∙ div-add-mod' n 10));
      first = λ q. leads-append (decimal_on k (n / 10)) (digit (n % 10)) (r.first (omega arith));
    }

reads : (k n : ℕ) → n < 10 ^ suc k → Reads n (decimal_on k n)
reads zero n h = reads_last zero n h
reads (suc k) n h = go (ltb n 10) refl (reads k (n / 10) ((div-lt_iff_lt-mul (lit< tt)).1 (rw pow-suc at h)))
  where
    go : (t : Bool) → ltb n 10 ≡ t → Reads (n / 10) (decimal_on k (n / 10)) → Reads n (decimal_on (suc k) n)
    go true e r = reads_last (suc k) n (ltb-true n 10 e)
    go false e r = reads_more k n (ltb-false n 10 e) r

-- every number that a line may give, printed and read again
zero_read : numeral (decimal 0) ≡ Some 0
unfolding numeral decimal decimal_on digit unpadded decimals is_digit value_from
zero_read = refl

pub decimal_read : (n : ℕ) → n ≤ largest → numeral (decimal n) ≡ Some n
unfolding decimal numeral
decimal_read zero h = zero_read
decimal_read (suc m) h =
    let r = reads 9 (suc m) (omega arith) in
    rw (leads-unpadded (decimal_on 9 (suc m)) (r.first (omega arith)), r.digits, r.value, le-leb (suc m) largest h)
