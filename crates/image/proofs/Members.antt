-- The members that can be written and read back are the sound ones.
-- Assumes nothing.
use Prim.Native.Nat.{ℕ, suc, ◌-◌, ◌^◌, ◌≤◌, ◌<◌}
use native.Mathlib.Omega.{arith}
use mathlib.Core.Bool.{true, ◌&&◌, and-eq-true_iff}
use mathlib.Core.Path.{◌≡◌, refl, sym, ap, ap₂, subst, ◌∙◌}
use mathlib.Core.List.{List, [], ◌∷◌, ◌++◌}
use lib.ListN.{length, replicate, length-append, length-replicate, length-drop, take-append-drop}
use lib.Seq.{length-take-le, take-append_seam, drop-append_seam}
use lib.Dec.{eqb}
use borrow.Author.Tests.{eqb-true}
use Rattle.member.specs.Limits.{largest_name, slots}
use Rattle.member.specs.Tile.{none, entries, unused}
use Rattle.member.specs.Sound.{is_none, all_none, sound_member}
use Rattle.member.specs.AscendLaws.{InRange, Ascends, asc_nil, asc_cons, asc_parts}
use Rattle.member.specs.SoundLaws.{none-replicate, sound_parts, sound_of}
use Rattle.member.specs.declared.Row.{Row}
use Rattle.member.specs.declared.Member.{Member}
use Rattle.image.specs.Layout.{name_width}
use Rattle.image.specs.Reader.{above, tile_with}
use Rattle.image.proofs.Sequence.{Each}
use Rattle.image.proofs.Shapes.{RowFits, MemberFits}

-- ---- places that hold zero

none_is : (r : Row) → is_none r ≡ true → r ≡ none
unfolding is_none
none_is r h =
    let a = eqb r.name 0 in
    let b = eqb r.version 0 in
    let c = eqb r.value 0 in
    let d = eqb r.gap 0 in
    let h₁ = (and-eq-true_iff a (b && (c && d))).0 h in
    let h₂ = (and-eq-true_iff b (c && d)).0 h₁.1 in
    let h₃ = (and-eq-true_iff c d).0 h₂.1 in
    let en = eqb-true r.name 0 h₁.0 in
    let ev = eqb-true r.version 0 h₂.0 in
    let ex = eqb-true r.value 0 h₃.0 in
    let eg = eqb-true r.gap 0 h₃.1 in
    λ j. record { name = en j; version = ev j; value = ex j; gap = eg j }

pub nones : (l : List Row) → all_none l ≡ true → l ≡ replicate (length l) none
unfolding all_none
nones [] h = refl
nones (r ∷ l) h =
    let p = (and-eq-true_iff (is_none r) (all_none l)).0 h in
    ap₂ {C = List Row} (λ (a : Row) (b : List Row). a ∷ b) (none_is r p.0) (nones l p.1)

-- ---- entries

-- the names that fit 20 bits are the names
pub names : 2 ^ name_width ≡ suc largest_name
names = refl

-- the same of any width
module _ (w : ℕ) (names : 2 ^ w ≡ suc largest_name) where
  pub row_in : (x : ℕ) (r : Row) → RowFits w x r → InRange r
  row_in x r h = record {
    name-max = omega (arith, h.name-fits, names);
    version-min = h.version-min;
    version-max = omega (arith, h.version_fits);
    value-max = omega (arith, h.value-fits);
    gap-max = omega (arith, h.gap-fits);
  }

  row_fits : (x : ℕ) (r : Row) → x ≤ r.name → InRange r → RowFits w x r
  row_fits x r k h = record {
    name-fits = omega (arith, h.name-max, names);
    name-above = k;
    version_fits = omega (arith, h.version-max);
    version-min = h.version-min;
    value-fits = omega (arith, h.value-max);
    gap-fits = omega (arith, h.gap-max);
  }

  each-ascends : (x : ℕ) (l : List Row) → Each (RowFits w) above x l → Ascends x l
  unfolding Each
  each-ascends x [] h = asc_nil x
  each-ascends x (r ∷ l) h = asc_cons x r l h.0.name-above (row_in x r h.0) (each-ascends (above r) l h.1)

  ascends-each : (x : ℕ) (l : List Row) → Ascends x l → Each (RowFits w) above x l
  unfolding Each
  ascends-each x [] h = tt
  ascends-each x (r ∷ l) h = let p = asc_parts x r l h in (row_fits x r p.0 p.1, ascends-each (above r) l p.2)

  -- ---- members

  pub member-fits : (m : Member) → sound_member m ≡ true → length m.rows ≡ slots → MemberFits w m
  member-fits m h k =
      let p = sound_parts m h in
      let n : length (entries m) ≡ m.count = length-take-le m.count m.rows (omega (arith, p.count-max)) in
      let u : length (unused m) ≡ slots - length (entries m) = rw (length-drop m.count m.rows, k, n) refl in
      let e : m.rows ≡ entries m ++ replicate (slots - length (entries m)) none =
      sym (take-append-drop m.count m.rows)
      ∙ ap (λ (l : List Row). entries m ++ l) (nones (unused m) p.blank ∙ ap (λ (i : ℕ). replicate i none) u)
      in
      record {
        few = omega (arith, p.count-max);
        low_fits = omega (arith, p.low-max);
        rows_fit = record { many = refl; each = ascends-each 0 (entries m) p.ascending };
        shape = λ j. record { low = m.low; count = sym n j; rows = e j };
      }

  -- a member that was read
  tile-sound : (low : ℕ) (l : List Row) → low < 2 ^ 24 → length l ≤ slots → Each (RowFits w) above 0 l
      → (sound_member (tile_with low l) ≡ true) × (length (tile_with low l).rows ≡ slots)
  tile-sound low l h k r =
      let z = replicate (slots - length l) none in (
        sound_of (tile_with low l)
            record {
              count-max = k;
              low-max = omega arith;
              ascending = rw (take-append_seam l z) (each-ascends 0 l r);
              blank = rw (drop-append_seam l z) (none-replicate (slots - length l));
            },
        length-append l z ∙ rw (length-replicate (slots - length l) none) (omega arith),
      )

  pub member-sound : (m : Member) → MemberFits w m → (sound_member m ≡ true) × (length m.rows ≡ slots)
  member-sound m h =
      subst (λ (t : Member). (sound_member t ≡ true) × (length t.rows ≡ slots)) (sym h.shape)
      (tile-sound m.low (entries m) h.low_fits h.few h.rows_fit.each)
