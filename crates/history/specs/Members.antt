-- The members of a suite as the theory sees them: what each shows, its votes, and the weight of a set.
use Rattle.std.specs.Prelude.{◌≡◌, refl, List, [], ◌∷◌, Bool, true, false, cond, ℕ, zero, suc, ◌+◌, ◌/◌, ◌%◌, ◌<◌, eqb, length, get_or}
use Rattle.std.proofs.Common.{ap, ◌∙◌, arith}
use Rattle.member.specs.Tile.{fresh_tile}
use Rattle.member.specs.Places.{at_place, Shown}
use Rattle.member.specs.declared.Member.{Member}
use Rattle.suite.specs.Sets.{chosen, total}
use Rattle.ideal.specs.Votes.{Voting, share, weight, everyone}
use Rattle.history.specs.Asked.{named}

-- member i of a list
abbrev pub member_at : List Member → ℕ → Member
member_at l i = get_or l i fresh_tile

-- and what it shows
abbrev pub shown : List Member → ℕ → Shown
shown l i = at_place (member_at l i)

abbrev pub vote_at : List ℕ → ℕ → ℕ
vote_at votes i = get_or votes i 0

-- The weight of a set is the sum of the votes that it names.
first-weight : (votes : ℕ → ℕ) (s : ℕ → Bool) (n : ℕ) →
    weight votes s (suc n) ≡ share votes s 0 + weight (λ i. votes (suc i)) (λ i. s (suc i)) n
unfolding weight
first-weight votes s zero = omega arith
first-weight votes s (suc n) = omega (arith, first-weight votes s n)

pub weight_set : (votes : List ℕ) (set : ℕ) → weight (vote_at votes) (named set) (length votes) ≡ total (chosen votes set)
unfolding weight total chosen named
weight_set [] set = refl
weight_set (v ∷ l) set = first-weight (vote_at (v ∷ l)) (named set) (length l) ∙ go (eqb (set % 2) 1) (weight_set l (set / 2))
  where
    go : (t : Bool) → weight (vote_at l) (named (set / 2)) (length l) ≡ total (chosen l (set / 2)) →
        cond t v 0 + weight (vote_at l) (named (set / 2)) (length l) ≡ total (cond t (v ∷ chosen l (set / 2)) (chosen l (set / 2)))
    go true e = ap (λ n. v + n) e
    go false e = omega arith

pub weight-all : (votes : List ℕ) → weight (vote_at votes) everyone (length votes) ≡ total votes
unfolding weight total
weight-all [] = refl
weight-all (v ∷ l) = first-weight (vote_at (v ∷ l)) everyone (length l) ∙ ap (λ n. v + n) (weight-all l)

-- a suite's votes, R and W
abbrev pub voting_of : (votes : List ℕ) (r w : ℕ) → total votes < r + w → Voting
voting_of votes r w h =
    record { members = length votes; votes = vote_at votes; R = r; W = w; overlap = omega (arith, weight-all votes) }
