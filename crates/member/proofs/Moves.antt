-- Entries moved to another place, and rows put between them and those before.
use mathlib.Core.Path.{◌≡◌, refl, ap, sym, ◌∙◌}
use mathlib.Core.List.{List, [], ◌∷◌, ◌++◌, append_assoc}
use Prim.Native.Nat.{ℕ, suc, ◌+◌, ◌-◌, ◌≤◌, ◌<◌}
use native.Mathlib.Omega.{arith}
use native.Mathlib.Nat.{add-zero}
use borrow.Rule.Slice.PartMut.{put_mid, mid_of}
use Rattle.std.specs.List.{copy_within}
use Rattle.member.proofs.Shift.{end-of-first}
use lib.ListN.{length, take, drop, get_or, set, replicate, length-append, length-take, length-drop, length-replicate, replicate-append-replicate, get_or-append}
use Rattle.member.specs.Tile.{none, entries, unused, holding}
use Rattle.member.specs.Change.{drop_of, inserted_at}
use Rattle.member.specs.Steps.{moved_at}
use Rattle.member.specs.declared.Row.{Row}
use Rattle.member.specs.declared.Member.{Member}
use Rattle.member.proofs.Changes.{member_path, places, drop_within}
use lib.Seq.{take_at, drop_at, take-take, take-append-le, drop-append-add, drop-drop, length-take-le, get_or-append-add, get_or-drop, sets, sets-eq}

-- rows put one after another
pub sets-append : {A : Type 0} (a b l : List A) (i : ℕ) → sets (sets l i a) (i + length a) b ≡ sets l i (a ++ b)
sets-append [] b l i = rw (add-zero i)
sets-append (x ∷ a) b l i =
    let e : i + suc (length a) ≡ suc i + length a = omega arith in
    rw e (sets-append a b (set l i x) (suc i))

module _ {A : Type 0} (d : A) where
  -- where k of n places are taken, the others are free
  free-rest : (k n : ℕ) (u : List A) → k ≤ n → drop k (replicate n d ++ u) ≡ replicate (n - k) d ++ u
  free-rest k n u h =
      let e : k + (n - k) ≡ n = omega arith in
      let f : replicate k d ++ replicate (n - k) d ≡ replicate n d = rw e at (replicate-append-replicate k (n - k) d) in
      rw (← f, append_assoc, drop_at (replicate k d) (replicate (n - k) d ++ u) k (length-replicate k d))

  -- The rows r, which are the entries l and the others u, with the entries from place i on moved to begin at place j.
  abbrev pub moved : List A → List A → List A → ℕ → ℕ → List A
  moved r l u i j = take j r ++ (drop i l ++ drop (j + (length l - i)) (replicate (length l) d ++ u))

  module _ (r l u : List A) (e : l ++ u ≡ r) (i j : ℕ) (h : i ≤ length l) (k : j + (length l - i) ≤ length r) where
    rows-length : length r ≡ length l + length u
    rows-length = ap length (sym e) ∙ length-append l u

    rest : List A
    rest = drop (j + (length l - i)) (replicate (length l) d ++ u)

    first-length : length (take j r) ≡ j
    first-length = length-take-le j r (omega arith)

    pub length_moved : length (moved r l u i j) ≡ length r
    length_moved =
        let n = rows-length in
        simp (length-append, length-take, length-drop, length-replicate) (omega arith)

    moved-below : take j (moved r l u i j) ≡ take j r
    unfolding rest
    moved-below = take_at (take j r) (drop i l ++ rest) j first-length

    pub moved_at_lem : (n : ℕ) → i ≤ n → n < length l → get_or (moved r l u i j) (j + (n - i)) d ≡ get_or r n d
    unfolding rest
    moved_at_lem n p q =
        let f : length (take j r) + (n - i) ≡ j + (n - i) = rw first-length in
        let g : i + (n - i) ≡ n = omega arith in
        let b : n - i < length (drop i l) = rw (length-drop i l) (omega arith) in
        sym (ap (λ (t : ℕ). get_or (moved r l u i j) t d) f)
        ∙ get_or-append-add (take j r) (drop i l ++ rest) (n - i) d
        ∙ get_or-append (drop i l) rest d (n - i) b
        ∙ get_or-drop i l (n - i) d
        ∙ ap (λ (t : ℕ). get_or l t d) g
        ∙ sym (get_or-append l u d n q)
        ∙ ap (λ (t : List A). get_or t n d) e

    moved-past : drop (j + (length l - i)) (moved r l u i j) ≡ rest
    unfolding rest
    moved-past =
        let n : length (take j r ++ drop i l) ≡ j + (length l - i) = simp (length-append, first-length, length-drop) in
        rw (← append_assoc (take j r) (drop i l) rest) (drop_at (take j r ++ drop i l) rest (j + (length l - i)) n)

    -- the entries copied to their place
    pub copied : copy_within r i (length l) j ≡ (take j r ++ drop i l) ++ drop (j + (length l - i)) r
    copied =
        let f : take (length l - i) (drop i r) ≡ drop i l = rw (← e) (end-of-first l u i h) in
        rw (f, append_assoc)

    front-length : length (take j r ++ drop i l) ≡ j + (length l - i)
    front-length = simp (length-append, first-length, length-drop)

    -- where no place falls free
    pub copied-up : length l ≤ j + (length l - i) → copy_within r i (length l) j ≡ moved r l u i j
    copied-up z =
        let n = j + (length l - i) in
        let f : length l + (n - length l) ≡ n = omega arith in
        let x : drop n (replicate (length l) d ++ u) ≡ drop (n - length l) u =
        rw (length-replicate (length l) d, f) at (drop-append-add (replicate (length l) d) u (n - length l)) in
        let y : drop n r ≡ drop (n - length l) u = rw (f, e) at (drop-append-add l u (n - length l)) in
        copied ∙ rw (y, x, append_assoc)

    -- where some do, and hold d then
    pub copied-down : (b : List A) → j + (length l - i) < length l
        → b ≡ replicate (length (take (length l - (j + (length l - i))) (drop (j + (length l - i)) (copy_within r i (length l) j)))) d
        → put_mid (j + (length l - i)) (length l - (j + (length l - i))) (copy_within r i (length l) j) b ≡ moved r l u i j
    copied-down b z q =
        let n = j + (length l - i) in
        let w = take j r ++ drop i l in
        let x : take n (copy_within r i (length l) j) ≡ w = rw (copied, take_at w (drop n r) n front-length) in
        let y : drop n (copy_within r i (length l) j) ≡ drop n r = rw (copied, drop_at w (drop n r) n front-length) in
        let f : n + (length l - n) ≡ length l = omega arith in
        let v : drop (length l - n) (drop n r) ≡ u =
        drop-drop (length l - n) n r ∙ rw (f, ← e) (drop_at l u (length l) refl) in
        let m : length (take (length l - n) (drop n r)) ≡ length l - n =
        omega (arith, length-take (length l - n) (drop n r), length-drop n r, rows-length) in
        let g : b ≡ replicate (length l - n) d = rw (y, m) at q in
        rw (x, y, g, v, free-rest n (length l) u (omega arith), append_assoc)

    -- Rows w put between them and the first b.
    pub put-between : (w : List A) (b : ℕ) → b ≤ length l → b + length w ≡ j
        → let x = take b l ++ (w ++ drop i l) in
        (length x ≡ j + (length l - i)) × (sets (moved r l u i j) b w ≡ x ++ drop (length x) (replicate (length l) d ++ u))
    unfolding rest
    put-between w b p q =
        let t = moved r l u i j in
        let x = take b l ++ (w ++ drop i l) in
        let n : length x ≡ j + (length l - i) = simp (length-append, length-take, length-drop) (omega arith) in
        let low : take b t ≡ take b l =
        take-append-le b (take j r) (drop i l ++ rest) (omega (arith, first-length)) ∙ take-take b j r (omega arith)
        ∙ rw (← e) (take-append-le b l u p) in
        let high : drop (b + length w) t ≡ drop i l ++ rest = rw q (drop_at (take j r) (drop i l ++ rest) j first-length) in
        (n, sets-eq w t b (omega (arith, length_moved)) ∙ rw (low, high, n) (simp append_assoc))

module _ (m : Member) (i j : ℕ) (h : i ≤ length (entries m)) (k : j + (length (entries m) - i) ≤ length m.rows) where
  -- the entries copied to their place, and zero in the places that fall free
  module _ (n : ℕ) (q : n ≡ length (entries m)) (c : List Row) (e : c ≡ copy_within m.rows i n j) where
    pub shifted-up : n ≤ j + (n - i) → record { low = m.low; count = j + (n - i); rows = c } ≡ moved_at m i j
    unfolding moved_at
    shifted-up z =
        rw (e, q) (member_path refl refl (copied-up none m.rows (entries m) (unused m) (places m) i j h k (rw q at z)))

    pub shifted-down : j + (n - i) < n → (b : List Row)
        → b ≡ replicate (length (mid_of (j + (n - i)) (n - (j + (n - i))) c)) none
        → record { low = m.low; count = j + (n - i); rows = put_mid (j + (n - i)) (n - (j + (n - i))) c b } ≡ moved_at m i j
    unfolding moved_at
    shifted-down z b p =
        rw (e, q) (member_path refl refl (copied-down none m.rows (entries m) (unused m) (places m) i j h k b (rw q at z) (rw (e, q) at p)))

  -- rows w put between them and the first f
  pub put-moved : (a : Member) (w : List Row) (f g : ℕ) → a ≡ moved_at m i j → f ≤ length (entries m) → f + length w ≡ j
      → record { low = g; count = a.count; rows = sets a.rows f w } ≡ holding m g (take f (entries m) ++ (w ++ drop i (entries m)))
  unfolding moved_at holding
  put-moved a w f g e p q =
      let b = put-between none m.rows (entries m) (unused m) (places m) i j h k w f p q in
      (λ t. record { low = g; count = (e t).count; rows = sets (e t).rows f w }) ∙ member_path refl (sym b.0) b.1

-- Dropping an entry, with a the member in which the entries past it were moved down over it.
pub drop-done : (m a : Member) (i : ℕ) → i < length (entries m) → length (entries m) ≤ length m.rows → a ≡ moved_at m (i + 1) i → a ≡ drop_of m i
unfolding moved_at
drop-done m a i h k e =
    (λ t. record { low = (e t).low; count = a.count; rows = a.rows })
    ∙ put-moved m (i + 1) i (omega arith) (omega arith) a [] i m.low e (omega arith) (omega arith)
    ∙ sym (drop_within m i h)

-- Putting a row in, with a the member in which the entries from its place on were moved up.
pub insert-done : (m : Member) (r : Row) (a : Member) (i : ℕ) → i ≤ length (entries m) → length (entries m) < length m.rows
    → a ≡ moved_at m i (i + 1) → record { low = a.low; count = a.count; rows = set a.rows i r } ≡ inserted_at m i r
unfolding moved_at inserted_at
insert-done m r a i h k e =
    (λ t. record { low = (e t).low; count = a.count; rows = set a.rows i r })
    ∙ put-moved m i (i + 1) h (omega arith) a (r ∷ []) i m.low e h (omega arith)
