-- Any two outcomes that the contract of a public function allows are equal: a theorem for each, with the contract's own text.
use Rattle.std.specs.Prelude.{◌≡◌, refl, List, [], ◌∷◌, ℕ, zero, suc, ◌*◌, ◌≤◌, min, length, get_or, drop}
use Rattle.std.proofs.Common.{ap, sym, ◌∙◌, arith, length-drop}
use Rattle.member.specs.Tile.{none, fresh_tile, empty_tile, entries, reading_of, row_of}
use Rattle.member.specs.Cells.{row_at, rows_in, tile_in}
use Rattle.member.specs.Search.{end_of}
use Rattle.member.specs.Rounds.{around_of, below_of, above_of, offer_below_of, offer_above_of}
use Rattle.member.specs.Change.{write_of, drop_of, coalesce_of, append_of, fits_write, fits_coalesce}
use Rattle.member.specs.Sound.{in_range, is_none, sound_member}
use Rattle.member.specs.declared.Row.{Row}
use Rattle.member.specs.declared.Bound.{Bound}
use Rattle.member.specs.Steps.{with_row, with_low, with_count}
use Rattle.member.specs.declared.Side.{Side}
use Rattle.member.specs.declared.Offered.{Offered}
use Rattle.member.specs.declared.Member.{Member}

-- a contract allows one outcome at most
abbrev pub Determines : {A : Type 0} → (A → Type 0) → Type 0
Determines {A} allows = (r r' : A) → allows r → allows r' → r ≡ r'

pub same : {A : Type 0} (o : A) → Determines (λ r. r ≡ o)
same o r r' p q = p ∙ sym q

pub fresh_determined : Determines (λ r. r ≡ fresh_tile)
fresh_determined = same fresh_tile

pub empty_determined : (gap : ℕ) → Determines (λ r. r ≡ empty_tile gap)
empty_determined gap = same (empty_tile gap)

pub end_of_determined : (name : ℕ) → Determines (λ r. r ≡ end_of name)
end_of_determined name = same (end_of name)

pub in_range_determined : (row : Row) → Determines (λ r. r ≡ in_range row)
in_range_determined row = same (in_range row)

pub is_none_determined : (row : Row) → Determines (λ r. r ≡ is_none row)
is_none_determined row = same (is_none row)

pub of_determined : (cells : List ℕ) → Determines (λ r. r ≡ tile_in cells)
of_determined cells = same (tile_in cells)

-- a member is all that its fields say
pub one_member : (a b : Member) → a.low ≡ b.low → a.count ≡ b.count → a.rows ≡ b.rows → a ≡ b
one_member a b l c r = λ j. record { low = l j; count = c j; rows = r j }

-- a row's cells, and what follows them
abbrev cells_of : Row → List ℕ → List ℕ
cells_of r l = r.name ∷ (r.version ∷ (r.value ∷ (r.gap ∷ l)))

begins : (l : List ℕ) → 4 ≤ length l → l ≡ cells_of (row_at l) (drop 4 l)
begins [] h = absurd (omega arith)
begins (a ∷ []) h = absurd (omega arith)
begins (a ∷ (b ∷ [])) h = absurd (omega arith)
begins (a ∷ (b ∷ (c ∷ []))) h = absurd (omega arith)
begins (a ∷ (b ∷ (c ∷ (d ∷ l)))) h = refl

no_cells : (l : List ℕ) → length l ≡ 0 → l ≡ []
no_cells [] h = refl
no_cells (a ∷ l) h = absurd (omega arith)

rows_cells : (n : ℕ) (a b : List ℕ) → length a ≡ 4 * n → length b ≡ 4 * n → rows_in n a ≡ rows_in n b → a ≡ b
unfolding rows_in
rows_cells zero a b h k e = no_cells a h ∙ sym (no_cells b k)
rows_cells (suc n) a b h k e =
    let r : row_at a ≡ row_at b = ap (λ (l : List Row). get_or l 0 none) e in
    let t : drop 4 a ≡ drop 4 b =
    rows_cells n (drop 4 a) (drop 4 b) (omega (arith, length-drop 4 a)) (omega (arith, length-drop 4 b)) (ap (λ (l : List Row). drop 1 l) e) in
    begins a (omega arith) ∙ (λ j. cells_of (r j) (t j)) ∙ sym (begins b (omega arith))

-- the count and the lowest gap stand in front of the rows
fronted : (l : List ℕ) → 2 ≤ length l → l ≡ (tile_in l).count ∷ ((tile_in l).low ∷ drop 2 l)
fronted [] h = absurd (omega arith)
fronted (a ∷ []) h = absurd (omega arith)
fronted (a ∷ (b ∷ l)) h = refl

-- no two tiles are one member
pub one_tile : (a b : List ℕ) → tile_in a ≡ tile_in b → length a ≡ 130 → length b ≡ 130 → a ≡ b
one_tile a b e h k =
    let t : drop 2 a ≡ drop 2 b =
    rows_cells 32 (drop 2 a) (drop 2 b) (omega (arith, length-drop 2 a)) (omega (arith, length-drop 2 b)) (ap (λ (m : Member). m.rows) e) in
    fronted a (omega arith) ∙ (λ j. (e j).count ∷ ((e j).low ∷ t j)) ∙ sym (fronted b (omega arith))

module _ (m : Member) where
  pub used-determined : Determines (λ r. (r ≡ length (entries m)) × (r ≤ 32))
  used-determined r r' p q = p.0 ∙ sym q.0

  pub reading-determined : (name : ℕ) → Determines (λ r. r ≡ reading_of m name)
  reading-determined name = same (reading_of m name)

  pub lowest-gap-determined : Determines (λ r. r ≡ m.low)
  lowest-gap-determined = same m.low

  pub around-determined : (name : ℕ) → Determines (λ r. r ≡ around_of m name)
  around-determined name = same (around_of m name)

  pub below-determined : (name : ℕ) → Determines (λ r. r ≡ below_of m name)
  below-determined name = same (below_of m name)

  pub above-determined : (name : ℕ) → Determines (λ r. r ≡ above_of m name)
  above-determined name = same (above_of m name)

  pub offer-below-determined : (name k v : ℕ) → Determines (λ r. r ≡ offer_below_of m name k v)
  offer-below-determined name k v = same (offer_below_of m name k v)

  pub offer-above-determined : (name k v : ℕ) → Determines (λ r. r ≡ offer_above_of m name k v)
  offer-above-determined name k v = same (offer_above_of m name k v)

  pub offers-determined : (name : ℕ) (below above : Side) → Determines (λ (r : Offered). r ≡ record {
    below = offer_below_of m name below.end below.version;
    above = offer_above_of m name above.end above.version;
  })
  offers-determined name below above = same (record {
    below = offer_below_of m name below.end below.version;
    above = offer_above_of m name above.end above.version;
  })

  pub entry-determined : (i : ℕ) → Determines (λ r. r ≡ row_of m i)
  entry-determined i = same (row_of m i)

  pub fits-write-determined : (name : ℕ) → Determines (λ r. r ≡ fits_write m name)
  fits-write-determined name = same (fits_write m name)

  pub fits-coalesce-determined : (p s : ℕ) → Determines (λ r. r ≡ fits_coalesce m p s)
  fits-coalesce-determined p s = same (fits_coalesce m p s)

  pub is_sound_determined : Determines (λ r. r ≡ sound_member m)
  is_sound_determined = same (sound_member m)

  pub put_determined : (name version value : ℕ) → Determines (λ r. r ≡ write_of m name version value)
  put_determined name version value = same (write_of m name version value)

  -- of a member by value the same
  pub write_determined : (name version value : ℕ) → Determines (λ r. r ≡ write_of m name version value)
  write_determined = put_determined

  pub drop-determined : (at : ℕ) → Determines (λ r. r ≡ drop_of m at)
  drop-determined at = same (drop_of m at)

  pub join-determined : (p s : Bound) (gap : ℕ) → Determines (λ r. r ≡ coalesce_of m p s gap)
  join-determined p s gap = same (coalesce_of m p s gap)

  pub coalesce-determined : (p s : Bound) (gap : ℕ) → Determines (λ r. r ≡ coalesce_of m p s gap)
  coalesce-determined = join-determined

  pub append_determined : (row : Row) → Determines (λ r. r ≡ append_of m row)
  append_determined row = same (append_of m row)

  pub set-lowest-determined : (gap : ℕ) → Determines (λ r. r ≡ with_low m gap)
  set-lowest-determined gap = same (with_low m gap)

  pub set-entry-determined : (i : ℕ) (row : Row) → Determines (λ r. r ≡ with_row m i row)
  set-entry-determined i row = same (with_row m i row)

  pub set-size-determined : (n : ℕ) → Determines (λ r. r ≡ with_count m (min n 32))
  set-size-determined n = same (with_count m (min n 32))
