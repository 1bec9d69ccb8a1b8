-- After the last vote: what the frame's soundness says of R, W and V is what the reader judges, and beside the members that are read
-- next into fresh tiles the frame is the suite that was read.
-- Assumes nothing.
use Prim.Native.Nat.{ℕ, ◌-◌, ◌^◌, ◌≤◌, ◌<◌}
use native.Mathlib.Omega.{arith}
use mathlib.Core.Bool.{Bool, true, false}
use mathlib.Core.Path.{◌≡◌, refl, sym, ap, ◌∙◌}
use mathlib.Core.List.{List, ◌++◌}
use lib.ListN.{length, take, drop, replicate}
use lib.Seq.{take_at, drop_at}
use borrow.Author.Tests.{eq-eqb, le-leb}
use Rattle.std.specs.Prelude.{Result, Ok, Err}
use Rattle.member.specs.Tile.{fresh_tile}
use Rattle.member.specs.declared.Member.{Member}
use Rattle.suite.specs.Sets.{total, all}
use Rattle.suite.specs.Suite.{quorum, small_vote, no_vote, sound_frame}
use Rattle.suite.specs.Create.{fresh_suite}
use Rattle.suite.specs.declared.Frame.{Frame}
use Rattle.suite.specs.declared.Suite.{Suite}
use Rattle.suite.specs.declared.Refusal.{Refusal}
use Rattle.image.specs.Reader.{Taken, took, fault, field, then, judged, each, with_members, read_member, read_members, read_voted}
use Rattle.image.specs.Steps.{placed_of, ends_by}
use Rattle.image.proofs.All.{each_all, all_replicate}
use Rattle.image.proofs.Reading.{drop-same}
use Rattle.image.proofs.Sequence.{Severally}
use Rattle.image.proofs.Shapes.{votes-match}

-- a place that is at most bit m is at most a greater bit n
pub ends_le : (p : Result ℕ Refusal) (m n : ℕ) → m ≤ n → ends_by p m → ends_by p n
ends_le (Ok k) m n h e = omega arith
ends_le (Err f) m n h e = tt

-- what is made of all that was read up to a place
placed-made : {A B : Type 0} (p : Result ℕ Refusal) (f : A → B) (a : A) → placed_of p (f a) ≡ then (placed_of p a) (λ x n. took (f x) n)
unfolding then
placed-made (Ok n) f a = refl
placed-made (Err r) f a = refl

-- a vote was not there
pub voted_fault : (image : List ℕ) (n r u f : ℕ) → fault f ≡ each (field image 4) n 21 → fault f ≡ read_voted image 20 n r u 21
unfolding read_voted then
voted_fault image n r u f e = rw (← e)

abbrev frame_with : ℕ → ℕ → ℕ → List ℕ → Frame
frame_with n r u votes = record { votes = votes; read = r; write = u; count = n }

-- eight votes, of which the first n were read
abbrev eight_votes : ℕ → List ℕ → List ℕ
eight_votes n votes = votes ++ drop n (replicate 8 0)

module _ (image : List ℕ) (n r u next : ℕ) (votes : List ℕ) (some : 1 ≤ n) (few : n ≤ 8) (many : length votes ≡ n)
    (e : took votes next ≡ each (field image 4) n 21) where
  votes-ok : Severally (λ x v. v < 2 ^ 4) (λ v. 0) n 0 votes
  votes-ok = ((votes-match image 20 (omega arith) n).only votes 21 next (sym e)).0

  counted : take n (eight_votes n votes) ≡ votes
  counted = take_at votes (drop n (replicate 8 0)) n many

  free : drop n (eight_votes n votes) ≡ replicate (8 - n) 0
  free = drop_at votes (drop n (replicate 8 0)) n many ∙ drop-same 0 n 8

  small : all small_vote (take n (eight_votes n votes)) ≡ true
  small =
      ap (all small_vote) counted
      ∙ each_all small_vote (λ v. v < 2 ^ 4) (λ v. 0) (λ v h. le-leb v 15 (omega arith)) 0 votes votes-ok.each

  unused : all no_vote (drop n (eight_votes n votes)) ≡ true
  unused = ap (all no_vote) free ∙ all_replicate no_vote (8 - n) 0 (eq-eqb 0 0 refl)

  sound-is : sound_frame (frame_with n r u (eight_votes n votes)) ≡ quorum r u (total votes)
  unfolding sound_frame
  sound-is = rw (le-leb 1 n some, le-leb n 8 few, small, unused, counted)

  judged-is : (b : Bool) → sound_frame (frame_with n r u (eight_votes n votes)) ≡ b
      → read_voted image 20 n r u 21 ≡ judged b 17 (read_members image 20 (fresh_suite r u votes) next)
  unfolding read_voted then
  judged-is b q = rw (← e, sym sound-is ∙ q)

  -- the suite of these votes and members, of which the first n were read
  abbrev suite_of : List Member → Suite
  suite_of members = record { members = members; votes = eight_votes n votes; read = r; write = u; count = n }

  filled : (fresh members : List Member) → fresh ≡ replicate 8 fresh_tile → length members ≡ n
      → suite_of (members ++ drop n fresh) ≡ with_members (fresh_suite r u votes) members
  unfolding fresh_suite
  filled fresh members h k =
      let others : members ++ drop n fresh ≡ members ++ replicate (8 - length members) fresh_tile =
      ap (λ (l : List Member). members ++ l)
      (ap (drop n) h
      ∙ drop-same fresh_tile n 8
      ∙ ap (λ (i : ℕ). replicate (8 - i) fresh_tile) (sym k))
      in
      let ballots : eight_votes n votes ≡ votes ++ replicate (8 - length votes) 0 =
      ap (λ (l : List ℕ). votes ++ l) (drop-same 0 n 8 ∙ ap (λ (i : ℕ). replicate (8 - i) 0) (sym many))
      in
      λ j. record { members = others j; votes = ballots j; read = r; write = u; count = sym many j }

  -- p is where the members end
  pub voted-sound : (fresh members : List Member) (p : Result ℕ Refusal) → fresh ≡ replicate 8 fresh_tile → length members ≡ n
      → sound_frame (frame_with n r u (eight_votes n votes)) ≡ true
      → placed_of p members ≡ each (read_member image 20) n next
      → placed_of p (suite_of (members ++ drop n fresh)) ≡ read_voted image 20 n r u 21
  unfolding judged read_members fresh_suite
  voted-sound fresh members p h k q t =
      ap (placed_of p) (filled fresh members h k)
      ∙ placed-made p (with_members (fresh_suite r u votes)) members
      ∙ ap (λ (x : Taken (List Member)). then x (λ l m. took (with_members (fresh_suite r u votes) l) m))
      (t ∙ ap (λ (i : ℕ). each (read_member image 20) i next) (sym many))
      ∙ sym (judged-is true q)

  pub voted-not : sound_frame (frame_with n r u (eight_votes n votes)) ≡ false → fault 17 ≡ read_voted image 20 n r u 21
  unfolding judged
  voted-not q = sym (judged-is false q)
