-- What `read` answers: a number that fits the width, and after an append the field that was appended, and every field
-- before it and behind the eight bytes as it was.
-- Assumes nothing.
use Prim.Native.Nat.{ℕ, ◌+◌, ◌*◌, ◌/◌, ◌%◌, ◌^◌, ◌≤◌, ◌<◌}
use native.Mathlib.Omega.{arith}
use mathlib.Core.Bool.{Bool, true, false}
use mathlib.Core.Logic.{◌⊎◌, ⊎_elim}
use mathlib.Core.Path.{◌≡◌, refl, sym, ap, ◌∙◌}
use mathlib.Core.List.{List}
use lib.ListN.{length}
use Rattle.fields.specs.Bits.{bits_of, field_at}
use Rattle.fields.specs.Field.{fits_in, read_of, has_word, append_of}
use Rattle.std.specs.Prelude.{Some}
use Rattle.fields.proofs.Bytes.{length-bits_of, bits_of_below}
use Rattle.fields.proofs.Places.{field_at_lt}
use Rattle.fields.proofs.Appending.{field_at-append, field_at_before, field_at-behind}
use Rattle.fields.proofs.Answers.{fits_within, read_is, read_short, read_some, has_narrow, has_fits, length-append_of, bits_of-append_of}

pub read_range : (l : List ℕ) (at w v : ℕ) → read_of l at w ≡ Some v → v < 2 ^ w
read_range l at w v p = rw (read_some l at w v p).1 (field_at_lt (bits_of l) at w (bits_of_below l))

module _ (l : List ℕ) (at w v : ℕ) (e : has_word (length l) at w ≡ true) where
  within : at ≤ length (bits_of l)
  within = rw (length-bits_of l) (omega (arith, fits_within (length l) at w (has_fits (length l) at w e)))

  as-fit : (a n : ℕ) (b : Bool) → fits_in (length l) a n ≡ b → fits_in (length (append_of l at w v)) a n ≡ b
  as-fit a n b f = ap (λ (k : ℕ). fits_in k a n) (length-append_of l at w v) ∙ f

  pub read-append : read_of (append_of l at w v) at w ≡ Some (v % 2 ^ w)
  read-append =
      read_is (append_of l at w v) at w (as-fit at w true (has_fits (length l) at w e))
      ∙ ap Some (ap (λ (b : List ℕ). field_at b at w) (bits_of-append_of l at w v e) ∙ field_at-append (bits_of l) at w v within)

  pub read-elsewhere : (a n : ℕ) → (a + n ≤ at) ⊎ (8 * (at / 8 + 8) ≤ a) → read_of (append_of l at w v) a n ≡ read_of l a n
  read-elsewhere a n apart = go (fits_in (length l) a n) refl
    where
      same : field_at (bits_of (append_of l at w v)) a n ≡ field_at (bits_of l) a n
      same =
          ap (λ (b : List ℕ). field_at b a n) (bits_of-append_of l at w v e)
          ∙ ⊎_elim (field_at_before (bits_of l) at w v a n within)
          (field_at-behind (bits_of l) at w v a n (has_narrow (length l) at w e) within)
          apart

      go : (b : Bool) → fits_in (length l) a n ≡ b → read_of (append_of l at w v) a n ≡ read_of l a n
      go true f = read_is (append_of l at w v) a n (as-fit a n true f) ∙ ap Some same ∙ sym (read_is l a n f)
      go false f = read_short (append_of l at w v) a n (as-fit a n false f) ∙ sym (read_short l a n f)
