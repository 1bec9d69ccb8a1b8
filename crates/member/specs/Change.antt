-- The changes of a member, in the paper's words, on its rows.
use Rattle.std.specs.Prelude.{List, [], ◌∷◌, ◌++◌, Bool, true, cond, ◌&&◌, ℕ, ◌+◌, ◌-◌, length, take, drop, get_or, set, ltb, leb, eqb}
use Rattle.member.specs.Limits.{slots, high}
use Rattle.member.specs.Tile.{none, entries, holding}
use Rattle.member.specs.Search.{below_end, past_end, end_below}
use Rattle.member.specs.Rounds.{bare}
use Rattle.member.specs.Sound.{in_range}
use Rattle.member.specs.declared.Row.{Row}
use Rattle.member.specs.declared.Bound.{Bound}
use Rattle.member.specs.declared.Member.{Member}

abbrev pub row_with : ℕ → ℕ → ℕ → ℕ → Row
row_with n v x g = record { name = n; version = v; value = x; gap = g }

-- Writing an entry: an entry of that name takes the new version and value. Otherwise it is added, and both halves of the
-- split gap keep that gap's version. g is the version of the gap below the rows.
unfoldable pub written : ℕ → List Row → ℕ → ℕ → ℕ → List Row
written g [] n v x = row_with n v x g ∷ []
written g (r ∷ l) n v x =
    cond (ltb r.name n) (r ∷ written r.gap l n v x)
    (cond (eqb r.name n) (row_with n v x r.gap ∷ l) (row_with n v x g ∷ (r ∷ l)))

-- dropping the entry in place i: the merged gap keeps the version of the gap below it
abbrev pub without : List Row → ℕ → List Row
without l i = take i l ++ drop (i + 1) l

-- a change that leaves over 32 entries is not made
abbrev pub fitting : Member → ℕ → List Row → Member
fitting m g l = cond (leb (length l) slots) (holding m g l) m

unfoldable pub write_of : Member → ℕ → ℕ → ℕ → Member
write_of m n v x = fitting m m.low (written m.low (entries m) n v x)

unfoldable pub drop_of : Member → ℕ → Member
drop_of m i = cond (ltb i (length (entries m))) (holding m m.low (without (entries m) i)) m

-- Coalescing p..s with version g. First p and s are written with the versions and values given (LOW and HIGH are already there);
unfoldable pub written_end : ℕ → List Row → Bound → List Row
written_end g l b = cond (ltb 0 b.end && ltb b.end high) (written g l (b.end - 1) b.version b.value) l

-- then every entry strictly between is dropped;
unfoldable pub cleared : List Row → ℕ → ℕ → List Row
cleared l p s = take (past_end l p) l ++ drop (below_end l s) l

-- and the one gap between them, which is the gap above p, gets version g.
abbrev pub regapped : ℕ → Row → Row
regapped g r = row_with r.name r.version r.value g

unfoldable pub gap_set : List Row → ℕ → ℕ → List Row
gap_set l e g = cond (eqb e 0) l (set l (below_end l e) (regapped g (get_or l (below_end l e) none)))

unfoldable pub coalesced : ℕ → List Row → Bound → Bound → ℕ → List Row
coalesced low l p s g = gap_set (cleared (written_end low (written_end low l p) s) p.end s.end) p.end g

-- above LOW that is the lowest gap
abbrev pub low_set : ℕ → ℕ → ℕ → ℕ
low_set low e g = cond (eqb e 0) g low

-- ends that are not in order have nothing between them
unfoldable pub coalesce_of : Member → Bound → Bound → ℕ → Member
coalesce_of m p s g =
    cond (ltb p.end s.end)
    (fitting m (low_set m.low p.end g) (coalesced m.low (entries m) p s g)) m

-- would it fit 32 places? How many entries there are afterwards does not depend on versions and values.
unfoldable pub fits_write : Member → ℕ → Bool
fits_write m n = leb (length (written m.low (entries m) n 0 0)) slots

unfoldable pub fits_coalesce : Member → ℕ → ℕ → Bool
fits_coalesce m p s = cond (ltb p s) (leb (length (coalesced m.low (entries m) (bare p) (bare s) 0)) slots) true

-- For the image layer: a row goes above the last where there is a place, its name is above the last one and it is in range.
abbrev pub goes_above : List Row → Row → Bool
goes_above l r = ltb (length l) slots && (leb (end_below l (length l)) r.name && in_range r)

unfoldable pub append_of : Member → Row → Member
append_of m r = cond (goes_above (entries m) r) (holding m m.low (entries m ++ (r ∷ []))) m

-- The steps of the code.

-- a row put in at place i
unfoldable pub inserted_at : Member → ℕ → Row → Member
inserted_at m i r = holding m m.low (take i (entries m) ++ (r ∷ drop i (entries m)))
