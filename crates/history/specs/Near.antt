-- Neighbours: what the two rounds of a read set find is the ideal tile's. One proof for either side of the name.
use Rattle.std.specs.Prelude.{◌≡◌, refl, Bool, true, ℕ, suc, ◌≤◌, ◌<◌, length, Option, Some, None}
use Rattle.std.proofs.Common.{sym, ap, ◌∙◌, arith}
use Rattle.std.proofs.Math.Path.{subst, subst₂}
use mathlib.Core.List.{List, [], ◌∷◌, map}
use Rattle.member.specs.Limits.{largest_name, high}
use Rattle.member.specs.Tile.{fresh_tile, reading_of}
use Rattle.member.specs.Rounds.{below_of, above_of, offer_below_of, offer_above_of}
use Rattle.member.specs.Sound.{sound_member}
use Rattle.member.specs.Places.{place, space_above, hi_place, at_place, version, Shown, bound_reading, BareEnd, LowerEnd, UpperEnd, OffersBelow, OffersAbove, AnswersBelow, AnswersAbove}
use Rattle.member.specs.ReadingLaws.{shown-bare}
use Rattle.member.specs.RoundOneLaws.{below_gap, lower_end, above-gap, upper-end}
use Rattle.member.specs.RoundTwoLaws.{none_below, none_above}
use Rattle.member.specs.RoundTwoBelow.{answers-below}
use Rattle.member.specs.RoundTwoAbove.{answers-above}
use Rattle.member.specs.declared.Member.{Member}
use Rattle.member.specs.declared.Side.{Side}
use Rattle.member.specs.declared.Bound.{Bound}
use Rattle.suite.specs.Best.{best}
use Rattle.suite.specs.Sets.{chosen, votes_of}
use Rattle.suite.specs.Suite.{tiles, ballots}
use Rattle.suite.specs.SuiteLaws.{suite_parts}
use Rattle.suite.specs.AnswerLaws.{picked_one, skip-last}
use Rattle.suite.specs.Neighbours.{Facing, facing_below, facing_above, best_side, best_offer, offers-are}
use Rattle.suite.specs.Calls.{Answer, answer_to, picked, its_reading, its_below, its_above, higher, no_side, gap_below_in, gap_above_in, nearer, rank_below, rank_above, bound_or, predecessor, successor, round_one, rounds}
use Rattle.suite.specs.declared.Suite.{Suite}
use Rattle.suite.specs.Question as question
use Rattle.ideal.specs.Votes.{In, Voting, Reads}
use Rattle.ideal.specs.Best.{Best, best-same}
use Rattle.ideal.specs.Invariant.{Inv}
use Rattle.ideal.specs.Ends.{offers_unique}
use Rattle.ideal.specs.Neighbours.{RoundOne, RoundTwo, Found}
use Rattle.ideal.proofs.Neighbours.{offers_end, below}
use Rattle.ideal.proofs.Mirror.{offers_above_unique, offers_upper_end, above}
use Rattle.history.specs.Directory.{Directory}
use Rattle.history.specs.Asked.{named}
use Rattle.history.specs.NamedLaws.{all-each}
use Rattle.history.specs.Members.{member_at, shown}
use Rattle.history.specs.Held.{Held, reads, won}
use Rattle.history.specs.RoundTwo.{Says, Offering, FoundTwo, round-two}

abbrev Sound : Member → Type 0
Sound m = sound_member m ≡ true

-- One side of x as the theory sees it: z is the space next to x, and `finds` is the theory's own result there.
record Way {x : ℕ} (F : Facing x) : Type 1 where
  z : ℕ
  End : Shown → ℕ → Type 0
  Offered : Side → Shown → ℕ → Type 0
  Within : ℕ → ℕ → Type 0
  gap : (m : Member) → Sound m → version (at_place m z) ≡ (F.side m).version
  end : (m : Member) → Sound m → End (at_place m) (place (F.side m).end)
  own : (m : Member) → Sound m → Offered (F.side m) (at_place m) (place (F.side m).end)
  offering : (m : Member) → Sound m → Offering F.rank (F.offer (F.side m)) (Offered (F.side m)) Within
  finds : {q : Voting} {M : ℕ → Shown} {A : Shown} → Inv q hi_place M A → (read : ℕ → Bool) → Reads q read → (b : Side) → {i p j : ℕ} →
      RoundOne q.members M read z End i b.version (place b.end) → RoundTwo q.members M read (Offered b) Within p j →
      Found A z End b.version p (M j p)

module _ (x : ℕ) (name : x ≤ largest_name) where
  way_below : Way (facing_below x name)
  way_below =
      record {
        z = space_above x;
        End = λ f. LowerEnd f (place (suc x));
        Offered = λ b f. OffersBelow f (place b.end) b.version (place (suc x));
        Within = ◌≤◌;
        gap = λ m h. ap version (below_gap m x name);
        end = λ m h. lower_end m x h name;
        own = λ m h. offers_end (below_of m x).version (lower_end m x h name);
        offering = λ m h. from (below_of m x);
        finds = λ inv read r b one two. below inv read r (space_above x) (place (suc x)) (omega arith) (omega arith) one two;
      }
    where
      says : (f : Shown) (k v : ℕ) (o : Option Bound) → AnswersBelow f k v (place (suc x)) o → Says (λ g. OffersBelow g (place k) v (place (suc x))) f o
      says f k v (Some b) a = a
      says f k v None a = none_below f k v (place (suc x)) a

      from : (b : Side) → Offering rank_below (λ m. offer_below_of m x b.end b.version) (λ f. OffersBelow f (place b.end) b.version (place (suc x))) ◌≤◌
      from b =
          record {
            says = λ m h. says (at_place m) b.end b.version (offer_below_of m x b.end b.version) (answers-below m x h name b.end b.version);
            alone = λ f y z o p. offers_unique o p;
            nothing = refl;
            counts = λ f c o. omega arith;
            order = λ f g c e o p h. omega arith;
            ends = λ c e q. omega arith;
          }

  way_above : Way (facing_above x name)
  way_above =
      record {
        z = space_above (suc x);
        End = λ f. UpperEnd hi_place f (place (suc x));
        Offered = λ b f. OffersAbove f (place b.end) b.version (place (suc x));
        Within = λ y z. z ≤ y;
        gap = λ m h. ap version (above-gap m x h name);
        end = λ m h. upper-end m x h name;
        own = λ m h. offers_upper_end (above_of m x).version (upper-end m x h name);
        offering = λ m h. from (above_of m x) (omega (arith, (upper-end m x h name).fits));
        finds = λ inv read r b one two. above inv read r (place (suc x)) (omega arith) one two;
      }
    where
      says : (f : Shown) (k v : ℕ) (o : Option Bound) → AnswersAbove f k v (place (suc x)) o → Says (λ g. OffersAbove g (place k) v (place (suc x))) f o
      says f k v (Some b) a = a
      says f k v None a = none_above f k v (place (suc x)) a

      from : (b : Side) → b.end ≤ high →
          Offering rank_above (λ m. offer_above_of m x b.end b.version) (λ f. OffersAbove f (place b.end) b.version (place (suc x))) (λ y z. z ≤ y)
      from b fits =
          record {
            says = λ m h. says (at_place m) b.end b.version (offer_above_of m x b.end b.version) (answers-above m x h name b.end b.version fits);
            alone = λ f y z o p. offers_above_unique o p;
            nothing = refl;
            counts = λ f c o. omega (arith, o.reach);
            order = λ f g c e o p h. omega (arith, o.reach, p.reach);
            ends = λ c e q. omega arith;
          }

-- what is found on one side, with the bound that says it
pub record FoundEnd (A : Shown) (z : ℕ) (End : Shown → ℕ → Type 0) (v : ℕ) (b : Bound) : Type 0 where
  pub found : Found A z End v (place b.end) (bound_reading b)
  pub plain : BareEnd b

module _ {s : Suite} {d : Directory} (h : Held s d) (set : ℕ) (enough : s.read ≤ votes_of (ballots s) set) where
  sound-at : (i : ℕ) → i < length (tiles s) → Sound (member_at (tiles s) i)
  sound-at i l = all-each sound_member fresh_tile (tiles s) i (suite_parts s h.sound).sound-members l

  -- The side that is best in round one and the best offer of round two are found.
  module _ {x : ℕ} (F : Facing x) (W : Way F) where
    abbrev At : ℕ → Side
    At i = F.side (member_at (tiles s) i)

    -- the best offer, where member i gave the best side
    module _ (i : ℕ) (best-at : Best (λ j. (At j).version) (In (named set)) (length (ballots s)) i) where
      here : i < length (tiles s)
      here = omega (arith, best-at.exists, h.each)

      one : RoundOne (length (ballots s)) (shown (tiles s)) (named set) W.z W.End i (At i).version (place (At i).end)
      one =
          record {
            winner = best-same (λ j m. (λ t. t, λ t. t)) (λ j m n. sym (W.gap (member_at (tiles s) j) (sound-at j (omega (arith, h.each))))) best-at;
            says = W.gap (member_at (tiles s) i) (sound-at i here);
            end = W.end (member_at (tiles s) i) (sound-at i here);
          }

      offered : Bound
      offered = bound_or (best (nearer F.rank) None (map (F.offer (At i)) (chosen (tiles s) set)))

      two : (j : ℕ) × FoundTwo (tiles s) set (length (tiles s)) (W.Offered (At i)) W.Within offered j
      unfolding offered
      two =
          let m = member_at (tiles s) i in
          round-two (W.offering m (sound-at i here)) (tiles s) set sound-at i (place (At i).end) here best-at.chosen (W.own m (sound-at i here))

      finished : FoundEnd h.ideal W.z W.End (At i).version offered
      finished = go two
        where
          go : (j : ℕ) × FoundTwo (tiles s) set (length (tiles s)) (W.Offered (At i)) W.Within offered j →
              FoundEnd h.ideal W.z W.End (At i).version offered
          go (j, t) =
              let T = subst (λ n. FoundTwo (tiles s) set n (W.Offered (At i)) W.Within offered j) h.each t in
              let f = W.finds h.inv (named set) (reads h set enough) (At i) one T.two in
              record {
                found = subst (Found h.ideal W.z W.End (At i).version (place offered.end)) T.shows f;
                plain = shown-bare (member_at (tiles s) j) offered T.shows;
              }

    side-found : FoundEnd h.ideal W.z W.End (best_side F (chosen (tiles s) set)).version (bound_or (best_offer F (chosen (tiles s) set)))
    unfolding offered
    side-found =
        let w = won h set enough (λ (b : Side). b.version) F.side no_side in
        subst (λ (b : Side). FoundEnd h.ideal W.z W.End b.version (bound_or (best (nearer F.rank) None (map (F.offer b) (chosen (tiles s) set)))))
        (sym w.2) (finished w.0 w.1)

  module _ (x : ℕ) (name : x ≤ largest_name) where
    -- what the answers of the rounds say of one kind, round two saying nothing of it
    of_round_one : {A : Type 0} (f : Answer → List A) (g : Member → A) → ((m : Member) → f (answer_to (question.Around x) m) ≡ g m ∷ []) →
        ((b a : Side) (m : Member) → f (answer_to (question.Offers x b a) m) ≡ []) →
        picked f (rounds s set x) ≡ map g (chosen (tiles s) set)
    unfolding rounds
    of_round_one f g one two =
        let l = round_one s set x in
        skip-last s set (question.Offers x (gap_below_in l) (gap_above_in l)) f (two (gap_below_in l) (gap_above_in l)) l
        ∙ picked_one f g (question.Around x) one 0 (tiles s) set

    pub readings : picked its_reading (rounds s set x) ≡ map (λ m. reading_of m x) (chosen (tiles s) set)
    readings = of_round_one its_reading (λ m. reading_of m x) (λ m. refl) (λ b a m. refl)

    pub near-below : FoundEnd h.ideal (space_above x) (λ f. LowerEnd f (place (suc x))) (gap_below_in (rounds s set x)).version (predecessor (rounds s set x))
    unfolding way_below
    near-below =
        let F = facing_below x name in
        subst₂ (λ (b : List Side) (o : List (Option Bound)). FoundEnd h.ideal (space_above x) (λ f. LowerEnd f (place (suc x))) (best higher no_side b).version (bound_or (best (nearer rank_below) None o)))
        (sym (of_round_one its_below (λ m. below_of m x) (λ m. refl) (λ b a m. refl))) (sym (offers-are F s set)) (side-found F (way_below x name))

    pub near-above : FoundEnd h.ideal (space_above (suc x)) (λ f. UpperEnd hi_place f (place (suc x))) (gap_above_in (rounds s set x)).version (successor (rounds s set x))
    unfolding way_above
    near-above =
        let F = facing_above x name in
        subst₂ (λ (b : List Side) (o : List (Option Bound)). FoundEnd h.ideal (space_above (suc x)) (λ f. UpperEnd hi_place f (place (suc x))) (best higher no_side b).version (bound_or (best (nearer rank_above) None o)))
        (sym (of_round_one its_above (λ m. above_of m x) (λ m. refl) (λ b a m. refl))) (sym (offers-are F s set)) (side-found F (way_above x name))
