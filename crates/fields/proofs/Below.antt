-- Lists whose numbers are all below n: of a part, of a joint, and what each index says.
-- Assumes nothing.
use Prim.Native.Nat.{ℕ, zero, suc, ◌<◌}
use native.Mathlib.Nat.{zero-lt-suc}
use native.Mathlib.Omega.{arith}
use mathlib.Core.List.{List, [], ◌∷◌, ◌++◌}
use lib.ListN.{length, get_or, take, drop, set, replicate}
use Rattle.fields.specs.Bits.{Below}

pub below_append : (n : ℕ) (l m : List ℕ) → Below n l → Below n m → Below n (l ++ m)
below_append n [] m hl hm = hm
below_append n (x ∷ l) m hl hm = (hl.0, below_append n l m hl.1 hm)

pub below_left : (n : ℕ) (l m : List ℕ) → Below n (l ++ m) → Below n l
below_left n [] m h = tt
below_left n (x ∷ l) m h = (h.0, below_left n l m h.1)

pub below_right : (n : ℕ) (l m : List ℕ) → Below n (l ++ m) → Below n m
below_right n [] m h = h
below_right n (x ∷ l) m h = below_right n l m h.1

pub below_take : (n k : ℕ) (l : List ℕ) → Below n l → Below n (take k l)
below_take n zero l h = tt
below_take n (suc k) [] h = tt
below_take n (suc k) (x ∷ l) h = (h.0, below_take n k l h.1)

pub below_drop : (n k : ℕ) (l : List ℕ) → Below n l → Below n (drop k l)
below_drop n zero l h = h
below_drop n (suc k) [] h = tt
below_drop n (suc k) (x ∷ l) h = below_drop n k l h.1

pub below_zeros : (n k : ℕ) → Below (suc n) (replicate k 0)
below_zeros n zero = tt
below_zeros n (suc k) = (zero-lt-suc n, below_zeros n k)

pub below_set : (n : ℕ) (l : List ℕ) (i a : ℕ) → Below n l → a < n → Below n (set l i a)
below_set n [] i a h k = tt
below_set n (x ∷ l) zero a h k = (k, h.1)
below_set n (x ∷ l) (suc i) a h k = (h.0, below_set n l i a h.1 k)

-- from the bound at every index, which is how a lent slice tells it
pub below_of_lem : (n : ℕ) (l : List ℕ) → ((i : ℕ) → i < length l → get_or l i 0 < n) → Below n l
below_of_lem n [] h = tt
below_of_lem n (x ∷ l) h = (h 0 (omega arith), below_of_lem n l (λ i k. h (suc i) (omega arith)))
