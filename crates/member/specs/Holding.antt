-- A member that was given other entries: what it holds then, and what becomes of a second change.
use Rattle.std.specs.Prelude.{◌≡◌, refl, List, ◌∷◌, ◌++◌, ℕ, zero, suc, ◌+◌, ◌-◌, ◌≤◌, length, drop, replicate}
use Rattle.std.proofs.Common.{sym, ap, ◌∙◌, arith, length-append, length-drop, take-append-drop, length-take-le, drop-drop}
use Rattle.std.proofs.lemmas.List.{length-replicate}
use Rattle.std.proofs.Math.Seq.{take-append_seam, drop-append_seam, drop-append-add}
use Rattle.member.specs.Tile.{none, entries, unused, holding}
use Rattle.member.specs.declared.Row.{Row}
use Rattle.member.specs.declared.Member.{Member}

pub holding_low : (m : Member) (g : ℕ) (l : List Row) → (holding m g l).low ≡ g
unfolding holding
holding_low m g l = refl

pub holding_count : (m : Member) (g : ℕ) (l : List Row) → (holding m g l).count ≡ length l
unfolding holding
holding_count m g l = refl

pub holding-entries : (m : Member) (g : ℕ) (l : List Row) → entries (holding m g l) ≡ l
unfolding holding
holding-entries m g l = take-append_seam l (drop (length l) (replicate (length (entries m)) none ++ unused m))

pub holding-unused : (m : Member) (g : ℕ) (l : List Row) → unused (holding m g l) ≡ drop (length l) (replicate (length (entries m)) none ++ unused m)
unfolding holding
holding-unused m g l = drop-append_seam l (drop (length l) (replicate (length (entries m)) none ++ unused m))

-- the places stay as many as they were
places_length : (m : Member) → length (replicate (length (entries m)) none ++ unused m) ≡ length m.rows
places_length m =
    length-append (replicate (length (entries m)) none) (unused m)
    ∙ rw (length-replicate (length (entries m)) none) (sym (length-append (entries m) (unused m)) ∙ ap length (take-append-drop m.count m.rows))

pub holding_rows : (m : Member) (g : ℕ) (l : List Row) → length l ≤ length m.rows → length (holding m g l).rows ≡ length m.rows
unfolding holding
holding_rows m g l h =
    rw (
      length-append l (drop (length l) (replicate (length (entries m)) none ++ unused m)),
      length-drop (length l) (replicate (length (entries m)) none ++ unused m),
      places_length m,
    ) (omega arith)

pub holding_self : (m : Member) → m.count ≤ length m.rows → holding m m.low (entries m) ≡ m
unfolding holding
holding_self m h =
    let n : length (entries m) ≡ m.count = length-take-le m.count m.rows h in
    let d : drop (length (entries m)) (replicate (length (entries m)) none ++ unused m) ≡ unused m = blank (length (entries m)) (unused m) in
    let r : entries m ++ drop (length (entries m)) (replicate (length (entries m)) none ++ unused m) ≡ m.rows = rw d (take-append-drop m.count m.rows) in
    λ j. record { low = m.low; count = n j; rows = r j }
  where
    blank : (k : ℕ) (u : List Row) → drop k (replicate k none ++ u) ≡ u
    blank zero u = refl
    blank (suc k) u = blank k u

blanks : (k n : ℕ) (u : List Row) → k ≤ n → replicate k none ++ drop k (replicate n none ++ u) ≡ replicate n none ++ u
blanks zero n u h = refl
blanks (suc k) zero u h = absurd (omega arith)
blanks (suc k) (suc n) u h = ap (λ (t : List Row). none ∷ t) (blanks k n u (omega arith))

blanks_past : (k i : ℕ) (r : List Row) → drop (k + i) (replicate k none ++ drop k r) ≡ drop (k + i) r
blanks_past k i r =
    ap (λ n. drop (n + i) (replicate k none ++ drop k r)) (sym (length-replicate k none))
    ∙ drop-append-add (replicate k none) (drop k r) i
    ∙ drop-drop i k r

-- of the member that is changed, a change keeps the unused places alone
holding_cong : (m m' : Member) (g : ℕ) (l : List Row)
    → drop (length l) (replicate (length (entries m)) none ++ unused m) ≡ drop (length l) (replicate (length (entries m')) none ++ unused m')
    → holding m g l ≡ holding m' g l
unfolding holding
holding_cong m m' g l h = λ j. record { low = g; count = length l; rows = l ++ h j }

-- The second change alone counts, where the first made no more entries than there were, or than the second makes.
pub holding_shrunk : (m : Member) (g g' : ℕ) (l l' : List Row) → length l ≤ length (entries m) → holding (holding m g l) g' l' ≡ holding m g' l'
holding_shrunk m g g' l l' h =
    holding_cong (holding m g l) m g' l' (rw (holding-entries m g l, holding-unused m g l, blanks (length l) (length (entries m)) (unused m) h))

pub holding_grown : (m : Member) (g g' : ℕ) (l l' : List Row) → length l ≤ length l' → holding (holding m g l) g' l' ≡ holding m g' l'
holding_grown m g g' l l' h =
    let e : length l + (length l' - length l) ≡ length l' = omega arith in
    holding_cong (holding m g l) m g' l'
    (rw (holding-entries m g l, holding-unused m g l, ← e) (blanks_past (length l) (length l' - length l) (replicate (length (entries m)) none ++ unused m)))
