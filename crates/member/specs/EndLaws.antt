-- An end is LOW, a name or HIGH: what the searches and a written bound come to at each.
use Rattle.std.specs.Prelude.{◌≡◌, refl, List, [], ◌∷◌, Bool, true, false, cond, ◌&&◌, ℕ, zero, suc, ◌-◌, ◌≤◌, length, ltb, leb}
use Rattle.std.proofs.Common.{arith, leb-true, leb-false, lt-ltb, le-ltb, le-leb, ne_eqb, eq-eqb}
use Rattle.std.proofs.Math.Dec.{eqb-suc-zero}
use Rattle.std.proofs.lemmas.Bool.{lt-leb}
use Rattle.member.specs.Limits.{largest_name, high}
use Rattle.member.specs.Search.{seat_in, next_in, of_end, below_end, past_end}
use Rattle.member.specs.SearchLaws.{at_end}
use Rattle.member.specs.Change.{row_with, written, written_end}
use Rattle.member.specs.declared.Row.{Row}
use Rattle.member.specs.declared.Bound.{Bound}

pub data EndKind : ℕ → Type 0 where
  is_low : EndKind 0
  is_name : {n : ℕ} → n ≤ largest_name → EndKind (suc n)
  is_high : {e : ℕ} → high ≤ e → EndKind e

pub end_kind : (e : ℕ) → EndKind e
end_kind zero = is_low
end_kind (suc n) = go (leb high (suc n)) refl
  where
    go : (b : Bool) → leb high (suc n) ≡ b → EndKind (suc n)
    go true e = is_high (leb-true high (suc n) e)
    go false e = is_name {n = n} (omega (arith, leb-false high (suc n) e))

pred_suc : (n : ℕ) → suc n - 1 ≡ n
pred_suc n = omega arith

of_end_name : (f : List Row → ℕ → ℕ) (l : List Row) (n : ℕ) → n ≤ largest_name → of_end f l (suc n) ≡ f l n
of_end_name f l n h = rw (eqb-suc-zero n, lt-leb high (suc n) (omega arith), pred_suc n)

of_end-high : (f : List Row → ℕ → ℕ) (l : List Row) (e : ℕ) → high ≤ e → of_end f l e ≡ length l
of_end-high f l e h = rw (ne_eqb e 0 (λ z. omega arith), le-leb high e h)

pub below_name : (l : List Row) (n : ℕ) → n ≤ largest_name → below_end l (suc n) ≡ seat_in l n
unfolding below_end
below_name = of_end_name seat_in

pub past_name : (l : List Row) (n : ℕ) → n ≤ largest_name → past_end l (suc n) ≡ next_in l n
unfolding past_end
past_name = of_end_name next_in

pub below_high : (l : List Row) (e : ℕ) → high ≤ e → below_end l e ≡ length l
unfolding below_end
below_high = of_end-high seat_in

pub past_high : (l : List Row) (e : ℕ) → high ≤ e → past_end l e ≡ length l
unfolding past_end
past_high = of_end-high next_in

pub below_low : (l : List Row) → below_end l 0 ≡ 0
unfolding below_end
below_low l = refl

pub past_low : (l : List Row) → past_end l 0 ≡ 0
unfolding past_end
past_low l = refl

pub at_name_lem : (n : ℕ) → n ≤ largest_name → (r : Row) → r.name ≡ n → at_end (suc n) r ≡ true
unfolding at_end
at_name_lem n h r e = rw (eqb-suc-zero n, lt-leb high (suc n) (omega arith), pred_suc n, eq-eqb r.name n e)

-- the bound e, version v, value x
abbrev pub bound : ℕ → ℕ → ℕ → Bound
bound e v x = record { end = e; version = v; value = x }

-- the row of a bound under a gap g, where it is a name
unfoldable pub end_row : Bound → ℕ → List Row
end_row b g = cond (ltb 0 b.end && ltb b.end high) (row_with (b.end - 1) b.version b.value g ∷ []) []

pub row_name : (n v x g : ℕ) → n ≤ largest_name → end_row (bound (suc n) v x) g ≡ row_with n v x g ∷ []
unfolding end_row
row_name n v x g h = rw (lt-ltb 0 (suc n) (omega arith), lt-ltb (suc n) high (omega arith), pred_suc n)

pub row_low : (v x g : ℕ) → end_row (bound 0 v x) g ≡ []
unfolding end_row
row_low v x g = refl

pub row_high : (e v x g : ℕ) → high ≤ e → end_row (bound e v x) g ≡ []
unfolding end_row
row_high e v x g h = rw (lt-ltb 0 e (omega arith), le-ltb e high h)

pub written_name : (g : ℕ) (l : List Row) (n v x : ℕ) → n ≤ largest_name → written_end g l (bound (suc n) v x) ≡ written g l n v x
unfolding written_end
written_name g l n v x h = rw (lt-ltb 0 (suc n) (omega arith), lt-ltb (suc n) high (omega arith), pred_suc n)

pub written_low : (g : ℕ) (l : List Row) (v x : ℕ) → written_end g l (bound 0 v x) ≡ l
unfolding written_end
written_low g l v x = refl

pub written-high : (g : ℕ) (l : List Row) (e v x : ℕ) → high ≤ e → written_end g l (bound e v x) ≡ l
unfolding written_end
written-high g l e v x h = rw (lt-ltb 0 e (omega arith), le-ltb e high h)
