-- The plain directory: names with their values, in no order. No versions, no members.
-- Its neighbours are ends, as neighbours answers them: LOW is 0, the name n is n + 1, HIGH is `high`.
use Rattle.std.specs.Prelude.{List, [], ◌∷◌, Bool, false, cond, ◌||◌, ℕ, ◌+◌, min, max, eqb, ltb}
use Rattle.member.specs.Limits.{high}

pub record Item : Type 0 where
  pub name : ℕ
  pub value : ℕ

abbrev pub Directory : Type 0
Directory = List Item

unfoldable pub present : Directory → ℕ → Bool
present [] x = false
present (i ∷ d) x = eqb i.name x || present d x

-- 0 where the name is absent
unfoldable pub value_of : Directory → ℕ → ℕ
value_of [] x = 0
value_of (i ∷ d) x = cond (eqb i.name x) i.value (value_of d x)

-- the greatest name below x, or LOW
unfoldable pub predecessor : Directory → ℕ → ℕ
predecessor [] x = 0
predecessor (i ∷ d) x = cond (ltb i.name x) (max (i.name + 1) (predecessor d x)) (predecessor d x)

-- the least name above x, or HIGH
unfoldable pub successor : Directory → ℕ → ℕ
successor [] x = high
successor (i ∷ d) x = cond (ltb x i.name) (min (i.name + 1) (successor d x)) (successor d x)

abbrev pub insert : Directory → ℕ → ℕ → Directory
insert d x v = record { name = x; value = v } ∷ d

unfoldable pub update : Directory → ℕ → ℕ → Directory
update [] x v = []
update (i ∷ d) x v = record { name = i.name; value = cond (eqb i.name x) v i.value } ∷ update d x v

unfoldable pub remove : Directory → ℕ → Directory
remove [] x = []
remove (i ∷ d) x = cond (eqb i.name x) (remove d x) (i ∷ remove d x)
