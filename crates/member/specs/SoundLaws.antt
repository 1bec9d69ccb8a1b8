-- Soundness: which members are sound, and that every change keeps it.
use Rattle.std.specs.Prelude.{◌≡◌, refl, ◌⊎◌, List, [], ◌∷◌, ◌++◌, Bool, true, false, cond, ◌&&◌, ℕ, zero, suc, ◌+◌, ◌≤◌, ◌<◌, length, take, drop, replicate, ltb, leb, eqb}
use Rattle.std.proofs.Common.{sym, ap, subst, ◌∙◌, inl, inr, arith, add-one, length-take, length-drop, length-append, leb-true, le-leb, ltb-true}
use Rattle.std.proofs.Math.Bool.{and-eq-true_iff}
use Rattle.std.proofs.Math.Seq.{drop-length}
use Rattle.member.specs.Limits.{largest_name, largest_value, largest_version, slots, high}
use Rattle.member.specs.Tile.{none, empty_tile, fresh_tile, entries, unused, holding}
use Rattle.member.specs.Search.{next_in, past_end, below_end, gap_below, end_below}
use Rattle.member.specs.Change.{row_with, written, without, fitting, write_of, drop_of, coalesced, low_set, coalesce_of, goes_above, append_of}
use Rattle.member.specs.Sound.{in_range, ascends, is_none, all_none, sound_member}
use Rattle.member.specs.Holding.{holding_low, holding_count, holding-entries, holding-unused}
use Rattle.member.specs.EndLaws.{EndKind, is_low, is_name, is_high, end_kind, below_low, below_name, past_name, past_high, bound, end_row, row_low, row_name, row_high}
use Rattle.member.specs.Normal.{written_is, coalesced_is}
use Rattle.member.specs.AscendLaws.{InRange, in_range_lem, Ascends, asc_nil, asc_cons, asc_parts, asc_take, asc_drop, asc_without, asc_snoc, asc_gap}
use Rattle.member.specs.Places.{place, hi_place, row_place, at_place_in, at_place, bound_reading}
use Rattle.member.specs.ReadingLaws.{Order, less, same, more, order, read_nil, read_same, read-less, read_more, at_low, at_high, at_rows}
use Rattle.member.specs.declared.Row.{Row}
use Rattle.member.specs.declared.Bound.{Bound}
use Rattle.member.specs.declared.Member.{Member}
use Rattle.member.specs.declared.Reading.{Reading}
use Rattle.member.specs.declared.Reading.TheVariants.{Entry, Gap}

-- The parts of soundness.
pub record SoundParts (m : Member) : Type 0 where
  pub count-max : m.count ≤ slots
  pub low-max : m.low ≤ largest_version
  pub ascending : Ascends 0 (entries m)
  pub blank : all_none (unused m) ≡ true

pub sound_parts : (m : Member) → sound_member m ≡ true → SoundParts m
unfolding sound_member
sound_parts m h =
    let a = leb m.count slots in
    let b = leb m.low largest_version in
    let c = ascends 0 (entries m) in
    let d = all_none (unused m) in
    let h₁ = (and-eq-true_iff a (b && (c && d))).0 h in
    let h₂ = (and-eq-true_iff b (c && d)).0 h₁.1 in
    let h₃ = (and-eq-true_iff c d).0 h₂.1 in
    record { count-max = leb-true m.count slots h₁.0; low-max = leb-true m.low largest_version h₂.0; ascending = h₃.0; blank = h₃.1 }

pub sound_of : (m : Member) → SoundParts m → sound_member m ≡ true
unfolding sound_member
sound_of m p = rw (le-leb m.count slots p.count-max, le-leb m.low largest_version p.low-max, p.ascending) p.blank

-- unused places hold zero, also those that fall free
none-append : (a b : List Row) → all_none a ≡ true → all_none b ≡ true → all_none (a ++ b) ≡ true
unfolding all_none
none-append [] b h k = k
none-append (r ∷ a) b h k = let p = (and-eq-true_iff (is_none r) (all_none a)).0 h in rw p.0 (none-append a b p.1 k)

none-drop : (i : ℕ) (a : List Row) → all_none a ≡ true → all_none (drop i a) ≡ true
unfolding all_none
none-drop zero a h = h
none-drop (suc i) [] h = h
none-drop (suc i) (r ∷ a) h = none-drop i a ((and-eq-true_iff (is_none r) (all_none a)).0 h).1

pub none-replicate : (n : ℕ) → all_none (replicate n none) ≡ true
unfolding all_none is_none
none-replicate zero = refl
none-replicate (suc n) = none-replicate n

pub holding_sound : (m : Member) (g : ℕ) (l : List Row) → sound_member m ≡ true → g ≤ largest_version → length l ≤ slots → Ascends 0 l → sound_member (holding m g l) ≡ true
holding_sound m g l h k i a =
    sound_of (holding m g l)
    record {
      count-max = rw (holding_count m g l) i;
      low-max = rw (holding_low m g l) k;
      ascending = rw (holding-entries m g l) a;
      blank =
          rw (holding-unused m g l)
          (none-drop (length l) (replicate (length (entries m)) none ++ unused m) (none-append (replicate (length (entries m)) none) (unused m) (none-replicate (length (entries m))) (sound_parts m h).blank));
    }

fitting_sound : (m : Member) (g : ℕ) (l : List Row) → sound_member m ≡ true → g ≤ largest_version → Ascends 0 l → sound_member (fitting m g l) ≡ true
fitting_sound m g l h k a = go (leb (length l) slots) refl
  where
    go : (t : Bool) → leb (length l) slots ≡ t → sound_member (cond t (holding m g l) m) ≡ true
    go true e = holding_sound m g l h k (leb-true (length l) slots e) a
    go false e = h

pub empty_sound : (g : ℕ) → g ≤ largest_version → sound_member (empty_tile g) ≡ true
empty_sound g h = sound_of (empty_tile g) record { count-max = omega arith; low-max = h; ascending = asc_nil 0; blank = none-replicate slots }

pub fresh_sound : sound_member fresh_tile ≡ true
fresh_sound = empty_sound 0 (omega arith)

-- Each change of a sound member with numbers in range leaves a sound member.
pub write_sound : (m : Member) (n v x : ℕ) → sound_member m ≡ true → n ≤ largest_name → 1 ≤ v → v ≤ largest_version → x ≤ largest_value → sound_member (write_of m n v x) ≡ true
unfolding write_of
write_sound m n v x h a b c d =
    let p = sound_parts m h in
    let l = entries m in
    let g = gap_below m.low l (next_in l n) in
    let r : InRange (row_with n v x g) = record { name-max = a; version-min = b; version-max = c; value-max = d; gap-max = asc_gap 0 m.low l (next_in l n) p.ascending p.low-max } in
    fitting_sound m m.low (written m.low l n v x) h p.low-max
    (rw (written_is m.low l n v x)
    (asc_take 0 l (row_with n v x g ∷ drop (next_in l n) l) n p.ascending (omega arith)
    (asc_cons n (row_with n v x g) (drop (next_in l n) l) (omega arith) r (asc_drop 0 l n p.ascending))))

pub drop_sound : (m : Member) (i : ℕ) → sound_member m ≡ true → sound_member (drop_of m i) ≡ true
unfolding drop_of
drop_sound m i h = go (ltb i (length (entries m)))
  where
    p : SoundParts m
    p = sound_parts m h

    fewer : length (without (entries m) i) ≤ slots
    fewer = simp (length-append, length-take, length-drop) (omega (arith, p.count-max))

    go : (t : Bool) → sound_member (cond t (holding m m.low (without (entries m) i)) m) ≡ true
    go true = holding_sound m m.low (without (entries m) i) h p.low-max fewer (asc_without 0 (entries m) i p.ascending)
    go false = h

pub append_sound : (m : Member) (r : Row) → sound_member m ≡ true → sound_member (append_of m r) ≡ true
unfolding append_of
append_sound m r h = go (goes_above (entries m) r) refl
  where
    p : SoundParts m
    p = sound_parts m h

    l : List Row
    l = entries m

    go : (t : Bool) → goes_above l r ≡ t → sound_member (cond t (holding m m.low (l ++ (r ∷ []))) m) ≡ true
    go false e = h
    go true e =
        let e₁ = (and-eq-true_iff (ltb (length l) slots) (leb (end_below l (length l)) r.name && in_range r)).0 e in
        let e₂ = (and-eq-true_iff (leb (end_below l (length l)) r.name) (in_range r)).0 e₁.1 in
        let f : length (l ++ (r ∷ [])) ≤ slots = rw (length-append l (r ∷ [])) (omega (arith, ltb-true (length l) slots e₁.0)) in
        holding_sound m m.low (l ++ (r ∷ [])) h p.low-max f
        (asc_snoc 0 l r p.ascending (omega arith) (leb-true (end_below l (length l)) r.name e₂.0) (in_range_lem r e₂.1))

-- a bound in range: a name's version is 1 or more
pub record BoundRange (b : Bound) : Type 0 where
  pub named : 0 < b.end → b.end < high → 1 ≤ b.version
  pub version-max : b.version ≤ largest_version
  pub value-max : b.value ≤ largest_value

module _ (low : ℕ) (l : List Row) (a : Ascends 0 l) where
  asc-from : (p s v x g : ℕ) → EndKind s → p < s → s ≤ high → BoundRange (bound s v x) → g ≤ largest_version → Ascends p (end_row (bound s v x) g ++ drop (past_end l s) l)
  asc-from p _ v x g is_low h k r i = absurd (omega arith)
  asc-from p _ v x g (is_name {n} j) h k r i =
      let w : InRange (row_with n v x g) = record { name-max = j; version-min = r.named (omega arith) (omega arith); version-max = r.version-max; value-max = r.value-max; gap-max = i } in
      rw (row_name n v x g j, past_name l n j) (asc_cons p (row_with n v x g) (drop (next_in l n) l) (omega arith) w (asc_drop 0 l n a))
  asc-from p _ v x g (is_high {e} j) h k r i = rw (row_high e v x g j, past_high l e j, drop-length l) (asc_nil p)

  asc-up_to : (b : List Row) (p v x g : ℕ) → EndKind p → p < high → BoundRange (bound p v x) → g ≤ largest_version → Ascends p b
      → Ascends 0 (take (below_end l p) l ++ (end_row (bound p v x) g ++ b))
  asc-up_to b _ v x g is_low h r i c = rw (below_low l, row_low v x g) c
  asc-up_to b _ v x g (is_name {n} j) h r i c =
      let w : InRange (row_with n v x g) = record { name-max = j; version-min = r.named (omega arith) h; version-max = r.version-max; value-max = r.value-max; gap-max = i } in
      rw (row_name n v x g j, below_name l n j) (asc_take 0 l (row_with n v x g ∷ b) n a (omega arith) (asc_cons n (row_with n v x g) b (omega arith) w (rw (add-one n) c)))
  asc-up_to b _ v x g (is_high j) h r i c = absurd (omega arith)

pub coalesce_sound : (m : Member) (P S : Bound) (g : ℕ) → sound_member m ≡ true → S.end ≤ high → BoundRange P → BoundRange S → g ≤ largest_version
    → sound_member (coalesce_of m P S g) ≡ true
unfolding coalesce_of
coalesce_sound m P S g h k u v i = go (ltb P.end S.end) refl
  where
    l : List Row
    l = entries m

    p : SoundParts m
    p = sound_parts m h

    gs : ℕ
    gs = gap_below m.low l (past_end l S.end)

    lows : (t : Bool) → cond t g m.low ≤ largest_version
    lows true = i
    lows false = p.low-max

    rows : P.end < S.end → Ascends 0 (coalesced m.low l P S g)
    rows e =
        rw (coalesced_is m.low l P S g e)
        (asc-up_to m.low l p.ascending (end_row S gs ++ drop (past_end l S.end) l) P.end P.version P.value g (end_kind P.end) (omega arith) u i
        (asc-from m.low l p.ascending P.end S.end S.version S.value gs (end_kind S.end) e k v (asc_gap 0 m.low l (past_end l S.end) p.ascending p.low-max)))

    go : (t : Bool) → ltb P.end S.end ≡ t → sound_member (cond t (fitting m (low_set m.low P.end g) (coalesced m.low l P S g)) m) ≡ true
    go true e = fitting_sound m (low_set m.low P.end g) (coalesced m.low l P S g) h (lows (eqb P.end 0)) (rows (ltb-true P.end S.end e))
    go false e = h

-- What a sound member shows is in range.
abbrev pub Ranged : Reading → Type 0
Ranged (Entry v x) = (1 ≤ v) × (v ≤ largest_version) × (x ≤ largest_value)
Ranged (Gap v) = v ≤ largest_version

ranged_rows : (x g : ℕ) (l : List Row) (z : ℕ) → Ascends x l → g ≤ largest_version → Ranged (at_place_in g l z)
ranged_rows x g [] z a h = rw (read_nil g z) h
ranged_rows x g (r ∷ l) z a h = let p = asc_parts x r l a in go (order (row_place r) z) p.1 (ranged_rows (r.name + 1) r.gap l z p.2 p.1.gap-max)
  where
    go : Order (row_place r) z → InRange r → Ranged (at_place_in r.gap l z) → Ranged (at_place_in g (r ∷ l) z)
    go (less e) i k = rw (read-less g r l z e) k
    go (same e) i k = rw (read_same g r l z e) (i.version-min, i.version-max, i.value-max)
    go (more e) i k = rw (read_more g r l z e) h

pub shown_ranged : (m : Member) (z : ℕ) → sound_member m ≡ true → 0 < z → z < hi_place → Ranged (at_place m z)
shown_ranged m z h a b = let p = sound_parts m h in rw (at_rows m z a b) (ranged_rows 0 m.low (entries m) z p.ascending p.low-max)

-- so a bound that a sound member shows may be written into another
pub shown-bound : (m : Member) (b : Bound) → sound_member m ≡ true → b.end ≤ high → at_place m (place b.end) ≡ bound_reading b → BoundRange b
shown-bound m b h k s = go (order 0 b.end) (order b.end high)
  where
    zero-bound : (b.end ≡ 0) ⊎ (b.end ≡ high) → Entry 0 0 ≡ bound_reading b → BoundRange b
    zero-bound o e =
        let v : 0 ≡ b.version = cc in
        let x : 0 ≡ b.value = cc in
        record { named = λ a c. absurd (off o a c); version-max = omega arith; value-max = omega arith }
      where
        off : (b.end ≡ 0) ⊎ (b.end ≡ high) → 0 < b.end → b.end < high → ⊥
        off (inl i) a c = omega arith
        off (inr i) a c = omega arith

    go : Order 0 b.end → Order b.end high → BoundRange b
    go (less a) (less c) =
        let r : Ranged (bound_reading b) = subst Ranged s (shown_ranged m (place b.end) h (omega arith) (omega arith)) in
        record { named = λ _ _. r.0; version-max = r.1; value-max = r.2 }
    go (less a) (same c) = zero-bound (inr c) (sym (at_high m (place b.end) (omega arith)) ∙ s)
    go (less a) (more c) = absurd (omega arith)
    go (same a) c = zero-bound (inl (sym a)) (sym (at_low m) ∙ ap (λ e. at_place m (place e)) a ∙ s)
    go (more a) c = absurd (omega arith)
