-- What the two rounds find in a sound suite: bounds in range, the predecessor below x and the successor above it.
use Rattle.member.specs.declared.Bound.{Bound}
use Rattle.std.specs.Prelude.{Option, Some, None}
use Rattle.std.specs.Prelude.{◌≡◌, refl, Bool, true, false, ◌&&◌, ◌||◌, ℕ, ◌+◌, ◌≤◌, ◌<◌, length, ltb, eqb}
use Rattle.std.proofs.Math.Path.{ap}
use Rattle.std.proofs.Common.{◌∙◌, ltb-true, ltb-false, eqb-true}
use mathlib.Core.List.{List, [], ◌∷◌, map}
use Rattle.std.proofs.Math.Bool.{cond, and-eq-true_iff}
use native.Mathlib.Omega.{arith}
use Rattle.std.specs.Int.Count.{ones}
use Rattle.member.specs.Limits.{largest_name, high}
use Rattle.member.specs.Rounds.{below_of, above_of, offer_below_of, offer_above_of}
use Rattle.member.specs.Sound.{sound_member}
use Rattle.member.specs.OfferLaws.{Within, OfferWithin, IsOffer, below_end, above-end, offer-below, offer-above, own_below, own-above}
use Rattle.member.specs.declared.Member.{Member}
use Rattle.member.specs.declared.Side.{Side}
use Rattle.suite.specs.Best.{best, best_from}
use Rattle.suite.specs.BestLaws.{best-map, best-each}
use Rattle.suite.specs.Sets.{chosen, exists, total, votes_of, all}
use Rattle.suite.specs.SetLaws.{exists_lt, length-chosen, Each, each_chosen}
use Rattle.suite.specs.Suite.{tiles, ballots, sound_suite}
use Rattle.suite.specs.SuiteLaws.{suite_parts, quorum_parts}
use Rattle.suite.specs.Calls.{Answer, Marked, answer_to, asked_of, picked, its_below, its_above, its_offer_below, its_offer_above, higher, no_side, gap_below_in, gap_above_in, rank_below, rank_above, nearer, offered_version, bound_or, predecessor, successor, round_one, rounds}
use Rattle.suite.specs.AnswerLaws.{picked_one, skip_first}
use Rattle.suite.specs.declared.Suite.{Suite}
use Rattle.suite.specs.Question as question

each_mapped : {A B : Type 0} (Q : A → Type 0) (P : B → Type 0) (f : A → B) → ((a : A) → Q a → P (f a)) → (l : List A) → Each Q l → Each P (map f l)
each_mapped Q P f h [] k = tt
each_mapped Q P f h (a ∷ l) k = (h a k.0, each_mapped Q P f h l k.1)

each_unmap : {A B : Type 0} (P : B → Type 0) (f : A → B) (l : List A) → Each P (map f l) → Each (λ a. P (f a)) l
each_unmap P f [] h = tt
each_unmap P f (a ∷ l) h = (h.0, each_unmap P f l h.1)

all-each : {A : Type 0} (good : A → Bool) (l : List A) → all good l ≡ true → Each (λ a. good a ≡ true) l
unfolding all
all-each good [] h = tt
all-each good (a ∷ l) h = let p = (and-eq-true_iff (good a) (all good l)).0 h in (p.0, all-each good l p.1)

abbrev Sound : Member → Type 0
Sound m = sound_member m ≡ true

-- One side of x: what a member answers of it in the two rounds, and from where to where its offers may lie.
pub record Facing (x : ℕ) : Type 0 where
  pub least : ℕ
  pub limit : ℕ
  pub its_side : Answer → List Side
  pub its_offer : Answer → List (Option Bound)
  pub rank : Option Bound → ℕ
  pub side : Member → Side
  pub offer : Side → Member → Option Bound
  pub of_both : Side → Side → Side
  pub gives-side : (m : Member) → its_side (answer_to (question.Around x) m) ≡ side m ∷ []
  pub gives_none : (m : Member) → its_offer (answer_to (question.Around x) m) ≡ []
  pub gives-offer : (b a : Side) (m : Member) → its_offer (answer_to (question.Offers x b a) m) ≡ offer (of_both b a) m ∷ []
  pub of-both : (l : List Marked) → of_both (gap_below_in l) (gap_above_in l) ≡ best higher no_side (picked its_side l)
  pub ranks-none : rank None ≡ 0
  pub ranks : (o : Option Bound) → IsOffer o → OfferWithin least limit o → 1 ≤ rank o
  pub fits : (m : Member) → Sound m → (side m).end ≤ high
  pub own : (m : Member) → Sound m → IsOffer (offer (side m) m)
  pub within : (b : Side) → b.end ≤ high → (m : Member) → Sound m → OfferWithin least limit (offer b m)

abbrev pub facing_below : (x : ℕ) → x ≤ largest_name → Facing x
facing_below x h =
    record {
      least = 0;
      limit = x + 1;
      its_side = its_below;
      its_offer = its_offer_below;
      rank = rank_below;
      side = λ m. below_of m x;
      offer = λ b m. offer_below_of m x b.end b.version;
      of_both = λ b a. b;
      gives-side = λ m. refl;
      gives_none = λ m. refl;
      gives-offer = λ b a m. refl;
      of-both = λ l. refl;
      ranks-none = refl;
      ranks = ranks;
      fits = λ m e. below_end m x e h;
      own = λ m e. own_below m x e h (below_of m x).version;
      within = λ b k m e. offer-below m x e h b.end b.version;
    }
  where
    ranks : (o : Option Bound) → IsOffer o → OfferWithin 0 (x + 1) o → 1 ≤ rank_below o
    ranks (Some b) t w = omega arith
    ranks None t w = absurd t

abbrev pub facing_above : (x : ℕ) → x ≤ largest_name → Facing x
facing_above x h =
    record {
      least = x + 2;
      limit = high + 1;
      its_side = its_above;
      its_offer = its_offer_above;
      rank = rank_above;
      side = λ m. above_of m x;
      offer = λ a m. offer_above_of m x a.end a.version;
      of_both = λ b a. a;
      gives-side = λ m. refl;
      gives_none = λ m. refl;
      gives-offer = λ b a m. refl;
      of-both = λ l. refl;
      ranks-none = refl;
      ranks = ranks;
      fits = λ m e. above-end m x e h;
      own = λ m e. own-above m x e h (above_of m x).version;
      within = λ a k m e. offer-above m x e h a.end a.version k;
    }
  where
    ranks : (o : Option Bound) → IsOffer o → OfferWithin (x + 2) (high + 1) o → 1 ≤ rank_above o
    ranks (Some b) t w = omega (arith, w.to)
    ranks None t w = absurd t

-- The best offer ranks as high as each of them.
module _ (rank : Option Bound → ℕ) where
  nearer-up : (a b : Option Bound) → (rank a ≤ rank (cond (nearer rank b a) b a)) × (rank b ≤ rank (cond (nearer rank b a) b a))
  nearer-up a b = go (ltb (rank a) (rank b)) (eqb (rank a) (rank b)) (ltb (offered_version a) (offered_version b)) refl refl
    where
      go : (t u v : Bool) → ltb (rank a) (rank b) ≡ t → eqb (rank a) (rank b) ≡ u
          → (rank a ≤ rank (cond (t || (u && v)) b a)) × (rank b ≤ rank (cond (t || (u && v)) b a))
      go true u v p q = omega (arith, ltb-true (rank a) (rank b) p)
      go false true true p q = omega (arith, eqb-true (rank a) (rank b) q)
      go false true false p q = omega (arith, ltb-false (rank a) (rank b) p)
      go false false v p q = omega (arith, ltb-false (rank a) (rank b) p)

  highest : (a : Option Bound) (l : List (Option Bound)) → Each (λ o. rank o ≤ rank (best (nearer rank) None (a ∷ l))) (a ∷ l)
  unfolding best best_from
  highest a [] = (omega arith, tt)
  highest a (b ∷ l) =
      let c = cond (nearer rank b a) b a in
      let h = highest c l in
      let u = nearer-up a b in
      (omega (arith, h.0, u.0), (omega (arith, h.0, u.1), h.1))

module _ {x : ℕ} (F : Facing x) where
  -- the side that is best in round one, and the best offer of round two, of the members asked
  abbrev pub best_side : List Member → Side
  best_side l = best higher no_side (map F.side l)

  abbrev pub best_offer : List Member → Option Bound
  best_offer l = best (nearer F.rank) None (map (F.offer (best_side l)) l)

  -- the member whose side is best
  abbrev winner : Member → List Member → Member
  winner m l = best (λ b a. higher (F.side b) (F.side a)) m (m ∷ l)

  winner-side : (m : Member) (l : List Member) → best_side (m ∷ l) ≡ F.side (winner m l)
  unfolding best
  winner-side m l = best-map higher F.side m (m ∷ l)

  winner-is : (P : Member → Type 0) (m : Member) (l : List Member) → Each P (m ∷ l) → P (winner m l)
  winner-is P m l h = best-each P (λ b a. higher (F.side b) (F.side a)) m (m ∷ l) h.0 h

  pub offer-within : (l : List Member) → Each Sound l → OfferWithin F.least F.limit (best_offer l)
  unfolding best
  offer-within [] h = tt
  offer-within (m ∷ l) h =
      let P = OfferWithin F.least F.limit in
      let b = best_side (m ∷ l) in
      let k : b.end ≤ high = rw (winner-side m l) (F.fits (winner m l) (winner-is Sound m l h)) in
      best-each P (nearer F.rank) None (map (F.offer b) (m ∷ l)) tt (each_mapped Sound P (F.offer b) (F.within b k) (m ∷ l) h)

  -- the winner offers the end that it gave, so there is an offer
  pub offer-there : (l : List Member) → 1 ≤ length l → Each Sound l → 1 ≤ F.rank (best_offer l)
  offer-there [] n h = absurd (omega arith)
  offer-there (m ∷ l) n h =
      let b = best_side (m ∷ l) in
      let w = winner m l in
      let e = winner-is Sound m l h in
      let r = F.rank (best_offer (m ∷ l)) in
      let each : Each (λ c. F.rank (F.offer b c) ≤ r) (m ∷ l) = each_unmap (λ o. F.rank o ≤ r) (F.offer b) (m ∷ l) (highest F.rank (F.offer b m) (map (F.offer b) l)) in
      let k : F.rank (F.offer b w) ≤ r = winner-is (λ c. F.rank (F.offer b c) ≤ r) m l each in
      let o : 1 ≤ F.rank (F.offer b w) = rw (winner-side m l) (F.ranks (F.offer (F.side w) w) (F.own w e) (F.within (F.side w) (F.fits w e) w e)) in
      omega arith

  -- the offers of the two rounds
  pub offers-are : (s : Suite) (set : ℕ)
      → picked F.its_offer (rounds s set x) ≡ map (F.offer (best_side (chosen (tiles s) set))) (chosen (tiles s) set)
  unfolding rounds
  offers-are s set =
      let one = round_one s set x in
      let b = gap_below_in one in
      let a = gap_above_in one in
      let q = question.Offers x b a in
      let l = chosen (tiles s) set in
      let side = F.of-both one ∙ ap (best higher no_side) (picked_one F.its_side F.side (question.Around x) F.gives-side 0 (tiles s) set) in
      skip_first s set (question.Around x) F.its_offer F.gives_none (asked_of s set q)
      ∙ picked_one F.its_offer (F.offer (F.of_both b a)) q (F.gives-offer b a) 0 (tiles s) set
      ∙ ap (λ (t : Side). map (F.offer t) l) side

  pub found-offer : (s : Suite) (set : ℕ) → sound_suite s ≡ true
      → OfferWithin F.least F.limit (best (nearer F.rank) None (picked F.its_offer (rounds s set x)))
  found-offer s set h =
      let l = tiles s in
      rw (offers-are s set) (offer-within (chosen l set) (each_chosen Sound l set (all-each sound_member l (suite_parts s h).sound-members)))

is_there : (rank : Option Bound → ℕ) → rank None ≡ 0 → (a c : ℕ) (o : Option Bound) → 1 ≤ rank o → OfferWithin a c o → Within a c (bound_or o)
is_there rank e a c (Some b) h w = w
is_there rank e a c None h w = absurd (omega arith)

-- a set with a vote names a member
named : (s : Suite) (set : ℕ) → length (tiles s) ≡ length (ballots s) → exists (ballots s) set ≡ true → 1 ≤ votes_of (ballots s) set
    → 1 ≤ length (chosen (tiles s) set)
unfolding total
named s set e h k =
    let n = exists_lt (ballots s) set h in
    let p : length (chosen (tiles s) set) ≡ ones set = length-chosen (tiles s) set (rw e n) in
    let q : length (chosen (ballots s) set) ≡ ones set = length-chosen (ballots s) set n in
    omega (arith, some (chosen (ballots s) set) k)
  where
    some : (l : List ℕ) → 1 ≤ total l → 1 ≤ length l
    some [] h = h
    some (a ∷ l) h = omega arith

-- In a sound suite there is always an offer: a read set finds a predecessor below x and a successor above it.
module _ (s : Suite) (each : length (tiles s) ≡ length (ballots s)) (sound : sound_suite s ≡ true) (set x : ℕ) (name : x ≤ largest_name)
    (reads : exists (ballots s) set ≡ true) (votes : s.read ≤ votes_of (ballots s) set) where
  found : (F : Facing x) → Within F.least F.limit (bound_or (best (nearer F.rank) None (picked F.its_offer (rounds s set x))))
  found F =
      let l = chosen (tiles s) set in
      let p = suite_parts s sound in
      let q = quorum_parts s.read s.write (total (ballots s)) p.quorum-holds in
      let n : 1 ≤ length l = named s set each reads (omega (arith, q.read_some)) in
      let o = best (nearer F.rank) None (picked F.its_offer (rounds s set x)) in
      is_there F.rank F.ranks-none F.least F.limit o
      (rw (offers-are F s set) (offer-there F l n (each_chosen Sound (tiles s) set (all-each sound_member (tiles s) p.sound-members))))
      (found-offer F s set sound)

  pub predecessor-within : Within 0 (x + 1) (predecessor (rounds s set x))
  predecessor-within = found (facing_below x name)

  pub successor-within : Within (x + 2) (high + 1) (successor (rounds s set x))
  successor-within = found (facing_above x name)

  pub apart : (predecessor (rounds s set x)).end < (successor (rounds s set x)).end
  apart = omega (arith, predecessor-within.to, successor-within.from)
