-- Round two on either side of a name: the best offer of a read set is what the theory's round two finds.
use Rattle.std.specs.Prelude.{◌≡◌, refl, ◌⊎◌, List, map, Bool, true, false, ◌&&◌, ◌||◌, ℕ, ◌≤◌, ◌<◌, ltb, eqb, length, Option, Some, None}
use Rattle.std.proofs.Common.{sym, ap, subst, ◌∙◌, inl, inr, true≢false, arith, ltb-true, ltb-false, lt-ltb, le-ltb, eqb-true, eq-eqb, ne_eqb}
use Rattle.std.proofs.lemmas.Bool.{false≢true, eqb-false}
use Rattle.member.specs.Tile.{fresh_tile}
use Rattle.member.specs.Sound.{sound_member}
use Rattle.member.specs.Places.{place, at_place, version, Shown, bound_reading}
use Rattle.member.specs.declared.Member.{Member}
use Rattle.member.specs.declared.Bound.{Bound}
use Rattle.suite.specs.Best.{best}
use Rattle.suite.specs.Sets.{chosen}
use Rattle.suite.specs.Calls.{offered_version, nearer, bound_or}
use Rattle.ideal.specs.Votes.{In}
use Rattle.ideal.specs.Neighbours.{RoundTwo}
use Rattle.history.specs.Asked.{named}
use Rattle.history.specs.Members.{member_at, shown}
use Rattle.history.specs.Picks.{Ranking, Pick, pick}

-- Nearer names first, among the same name the newer version.
module _ (rank : Option Bound → ℕ) where
  abbrev Ahead : Option Bound → Option Bound → Type 0
  Ahead b a = (rank a < rank b) ⊎ ((rank a ≡ rank b) × (offered_version a < offered_version b))

  abbrev Behind : Option Bound → Option Bound → Type 0
  Behind b a = (rank b < rank a) ⊎ ((rank a ≡ rank b) × (offered_version b ≤ offered_version a))

  nearer-true : (b a : Option Bound) → nearer rank b a ≡ true → Ahead b a
  nearer-true b a = go (ltb (rank a) (rank b)) (eqb (rank a) (rank b)) (ltb (offered_version a) (offered_version b)) refl refl refl
    where
      go : (t u v : Bool) → ltb (rank a) (rank b) ≡ t → eqb (rank a) (rank b) ≡ u → ltb (offered_version a) (offered_version b) ≡ v →
          (t || (u && v)) ≡ true → Ahead b a
      go true u v p q r h = inl (ltb-true (rank a) (rank b) p)
      go false true true p q r h = inr (eqb-true (rank a) (rank b) q, ltb-true (offered_version a) (offered_version b) r)
      go false true false p q r h = absurd (false≢true h)
      go false false v p q r h = absurd (false≢true h)

  nearer-false : (b a : Option Bound) → nearer rank b a ≡ false → Behind b a
  nearer-false b a = go (ltb (rank a) (rank b)) (eqb (rank a) (rank b)) (ltb (offered_version a) (offered_version b)) refl refl refl
    where
      go : (t u v : Bool) → ltb (rank a) (rank b) ≡ t → eqb (rank a) (rank b) ≡ u → ltb (offered_version a) (offered_version b) ≡ v →
          (t || (u && v)) ≡ false → Behind b a
      go true u v p q r h = absurd (true≢false h)
      go false true true p q r h = absurd (true≢false h)
      go false true false p q r h = inr (eqb-true (rank a) (rank b) q, ltb-false (offered_version a) (offered_version b) r)
      go false false v p q r h = inl (off (ltb-false (rank a) (rank b) p) (eqb-false (rank a) (rank b) q))
        where
          off : rank b ≤ rank a → (rank a ≡ rank b → ⊥) → rank b < rank a
          off k n = omega arith

  is-ahead : (b a : Option Bound) → Ahead b a → nearer rank b a ≡ true
  is-ahead b a (inl h) = rw (lt-ltb (rank a) (rank b) h)
  is-ahead b a (inr (e, h)) =
      rw (le-ltb (rank a) (rank b) (omega arith), eq-eqb (rank a) (rank b) e, lt-ltb (offered_version a) (offered_version b) h)

  is-behind : (b a : Option Bound) → Behind b a → nearer rank b a ≡ false
  is-behind b a (inl h) = rw (le-ltb (rank a) (rank b) (omega arith), ne_eqb (rank a) (rank b) (λ e. omega arith))
  is-behind b a (inr (e, h)) =
      rw (le-ltb (rank a) (rank b) (omega arith), eq-eqb (rank a) (rank b) e, le-ltb (offered_version a) (offered_version b) h)

  nearer-ranks : Ranking (nearer rank)
  nearer-ranks = record { one_way = λ b a h. is-behind a b (turn b a (nearer-true b a h)); past = λ b a c h k. is-ahead b c (over b a c (nearer-true b a h) (nearer-false c a k)) }
    where
      turn : (b a : Option Bound) → Ahead b a → Behind a b
      turn b a (inl h) = inl h
      turn b a (inr (e, h)) = inr (sym e, omega arith)

      over : (b a c : Option Bound) → Ahead b a → Behind c a → Ahead b c
      over b a c (inl h) (inl k) = inl (omega arith)
      over b a c (inl h) (inr (f, k)) = inl (omega arith)
      over b a c (inr (e, h)) (inl k) = inl (omega arith)
      over b a c (inr (e, h)) (inr (f, k)) = inr (omega arith, omega arith)

-- What a member's answer says of what it shows.
abbrev pub Says : (Shown → ℕ → Type 0) → Shown → Option Bound → Type 0
Says Offered f (Some b) = Offered f (place b.end) × (f (place b.end) ≡ bound_reading b)
Says Offered f None = (y : ℕ) → Offered f y → ⊥

-- One side of a name: how offers rank, who offers what, and what the ranks mean.
pub record Offering (rank : Option Bound → ℕ) (offer : Member → Option Bound) (Offered : Shown → ℕ → Type 0) (Within : ℕ → ℕ → Type 0) : Type 0 where
  pub says : (m : Member) → sound_member m ≡ true → Says Offered (at_place m) (offer m)
  pub alone : (f : Shown) (y z : ℕ) → Offered f y → Offered f z → y ≡ z
  pub nothing : rank None ≡ 0
  pub counts : (f : Shown) (b : Bound) → Offered f (place b.end) → 0 < rank (Some b)
  pub order : (f g : Shown) (b c : Bound) → Offered f (place b.end) → Offered g (place c.end) → rank (Some c) ≤ rank (Some b) →
      Within (place c.end) (place b.end)
  pub ends : (b c : Bound) → c.end ≡ b.end → rank (Some c) ≡ rank (Some b)

-- what is found: the member, its offer, and that it is round two's
pub record FoundTwo (l : List Member) (set n : ℕ) (Offered : Shown → ℕ → Type 0) (Within : ℕ → ℕ → Type 0) (b : Bound) (j : ℕ) : Type 0 where
  pub two : RoundTwo n (shown l) (named set) Offered Within (place b.end) j
  pub shows : shown l j (place b.end) ≡ bound_reading b

module _ {rank : Option Bound → ℕ} {offer : Member → Option Bound} {Offered : Shown → ℕ → Type 0} {Within : ℕ → ℕ → Type 0}
    (F : Offering rank offer Offered Within) (l : List Member) (set : ℕ) (sound : (i : ℕ) → i < length l → sound_member (member_at l i) ≡ true) where
  abbrev given : ℕ → Option Bound
  given i = offer (member_at l i)

  -- a member that offers a place answers with it
  answers : (i y : ℕ) → i < length l → Offered (shown l i) y → (c : Bound) × (given i ≡ Some c) × (place c.end ≡ y) × (shown l i (place c.end) ≡ bound_reading c)
  answers i y k o = go (given i) refl (F.says (member_at l i) (sound i k))
    where
      go : (a : Option Bound) → given i ≡ a → Says Offered (shown l i) a → (c : Bound) × (given i ≡ Some c) × (place c.end ≡ y) × (shown l i (place c.end) ≡ bound_reading c)
      go (Some c) e t = (c, e, F.alone (shown l i) (place c.end) y t.0 o, t.1)
      go None e t = absurd (t y o)

  rank-le : (i j : ℕ) → nearer rank (given i) (given j) ≡ false → rank (given i) ≤ rank (given j)
  rank-le i j h = go (nearer-false rank (given i) (given j) h)
    where
      go : Behind rank (given i) (given j) → rank (given i) ≤ rank (given j)
      go (inl k) = omega arith
      go (inr (e, k)) = omega arith

  -- the pick's offer, once it is one
  module _ (j : ℕ) (p : Pick (nearer rank) offer fresh_tile l set j) (b : Bound) (is : given j ≡ Some b) where
    own : Says Offered (shown l j) (Some b)
    own = subst (Says Offered (shown l j)) is (F.says (member_at l j) (sound j p.exists))

    -- who offers the same place: its rank is the same, and its version is the one it shows
    level : (i : ℕ) → i < length l → Offered (shown l i) (place b.end) →
        (rank (given j) ≡ rank (given i)) × (offered_version (given i) ≡ version (shown l i (place b.end)))
    level i k o = go (answers i (place b.end) k o)
      where
        go : (c : Bound) × (given i ≡ Some c) × (place c.end ≡ place b.end) × (shown l i (place c.end) ≡ bound_reading c) →
            (rank (given j) ≡ rank (given i)) × (offered_version (given i) ≡ version (shown l i (place b.end)))
        go (c, e, q, t) = (
          ap rank is ∙ (sym (F.ends b c (omega arith)) ∙ ap rank (sym e)),
          ap offered_version e ∙ (sym (ap version t) ∙ ap (λ y. version (shown l i y)) q),
        )

    mine : offered_version (given j) ≡ version (shown l j (place b.end))
    mine = (level j p.exists own.0).1

    greatest : (i : ℕ) → i < length l → In (named set) i × Offered (shown l i) (place b.end) →
        version (shown l i (place b.end)) ≤ version (shown l j (place b.end))
    greatest i k o = go (nearer-false rank (given i) (given j) (p.greatest i k o.0)) (level i k o.1)
      where
        go : Behind rank (given i) (given j) → (rank (given j) ≡ rank (given i)) × (offered_version (given i) ≡ version (shown l i (place b.end))) →
            version (shown l i (place b.end)) ≤ version (shown l j (place b.end))
        go (inl h) (e, v) = absurd (omega arith)
        go (inr (h, w)) (e, v) = omega (arith, mine)

    lowest : (i : ℕ) → i < j → In (named set) i × Offered (shown l i) (place b.end) →
        version (shown l i (place b.end)) < version (shown l j (place b.end))
    lowest i k o = go (nearer-true rank (given j) (given i) (p.lowest i k o.0)) (level i (omega (arith, p.exists)) o.1)
      where
        go : Ahead rank (given j) (given i) → (rank (given j) ≡ rank (given i)) × (offered_version (given i) ≡ version (shown l i (place b.end))) →
            version (shown l i (place b.end)) < version (shown l j (place b.end))
        go (inl h) (e, v) = absurd (omega arith)
        go (inr (h, w)) (e, v) = omega (arith, mine)

    nearest : (i y : ℕ) → i < length l → In (named set) i → Offered (shown l i) y → Within y (place b.end)
    nearest i y k n o = go (answers i y k o)
      where
        go : (c : Bound) × (given i ≡ Some c) × (place c.end ≡ y) × (shown l i (place c.end) ≡ bound_reading c) → Within y (place b.end)
        go (c, e, q, t) =
            let le = rank-le i j (p.greatest i k n) in
            subst (λ z. Within z (place b.end)) q
            (F.order (shown l j) (shown l i) b c own.0 (subst (Offered (shown l i)) (sym q) o) (omega (arith, ap rank e, ap rank is)))

    found : FoundTwo l set (length l) Offered Within b j
    found =
        record {
          two = record { chosen = record { exists = p.exists; chosen = (p.chosen, own.0); greatest = greatest; lowest = lowest }; nearest = nearest };
          shows = own.1;
        }

  -- The best offer of a set in which someone offers.
  pub round-two : (i y : ℕ) → i < length l → named set i ≡ true → Offered (shown l i) y →
      (j : ℕ) × FoundTwo l set (length l) Offered Within (bound_or (best (nearer rank) None (map offer (chosen l set)))) j
  round-two i y k n o = go (pick (nearer-ranks rank) offer fresh_tile None l set i k n)
    where
      Found : Option Bound → ℕ → Type 0
      Found a j = FoundTwo l set (length l) Offered Within (bound_or a) j

      some : (j : ℕ) → rank (given i) ≤ rank (given j) → 0 < rank (given j)
      some j le = on (answers i y k o)
        where
          on : (c : Bound) × (given i ≡ Some c) × (place c.end ≡ y) × (shown l i (place c.end) ≡ bound_reading c) → 0 < rank (given j)
          on (c, e, q, t) = omega (arith, ap rank e, F.counts (shown l i) c (subst (Offered (shown l i)) (sym q) o))

      on : (j : ℕ) → Pick (nearer rank) offer fresh_tile l set j → (a : Option Bound) → given j ≡ a → Found a j
      on j p (Some b) e = found j p b e
      on j p None e = absurd (omega (arith, some j (rank-le i j (p.greatest i k n)), ap rank e, F.nothing))

      go : (j : ℕ) × Pick (nearer rank) offer fresh_tile l set j × (best (nearer rank) None (map offer (chosen l set)) ≡ given j) →
          (j : ℕ) × Found (best (nearer rank) None (map offer (chosen l set))) j
      go (j, p, e) = (j, subst (λ a. Found a j) (sym e) (on j p (given j) refl))
