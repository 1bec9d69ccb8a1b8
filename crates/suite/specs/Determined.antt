-- Any two outcomes that the contract of a public function allows are equal: a theorem for each.
use Rattle.member.specs.declared.Bound.{Bound}
use Rattle.std.specs.Prelude.{Option}
use Rattle.std.specs.Prelude as prelude
use Rattle.std.specs.Prelude.{Ok, Err, ◌≡◌, refl, List, [], ◌∷◌, cond, ℕ, ◌-◌, ◌^◌, ◌≤◌, ◌<◌, length, get_or}
use Rattle.std.proofs.Common.{sym, ap, ◌∙◌, arith, ext_get_or}
use Rattle.std.proofs.Math.ListN.{get_or-map}
use Rattle.member.specs.Cells.{tile_in}
use Rattle.member.specs.Determined.{Determines, same, one_tile}
use Rattle.member.specs.declared.Reading.{Reading}
use Rattle.member.specs.declared.Reading.TheVariants.{Entry, Gap}
use Rattle.member.specs.declared.Around.{Around}
use Rattle.suite.specs.Suite.{tiles, ballots, frame_of, ballots_in, sound_frame, sound_suite}
use Rattle.suite.specs.Cells.{suite_in}
use Rattle.suite.specs.Rows.{row_reading, around_row, offers_row}
use Rattle.suite.specs.Outcome.{answered, number_of, reading_values, looked_of, near_of, change_of, judged_of}
use Rattle.suite.specs.OutcomeLaws.{refused_is, not_both}
use Rattle.suite.specs.Calls.{Call, lookup, neighbours, insert, update, remove, Result, result_of}
use Rattle.suite.specs.Calls as calls
use Rattle.suite.specs.Create.{blank, create_of, created_of}
use Rattle.suite.specs.declared.Suite.{Suite}
use Rattle.suite.specs.declared.Frame.{Frame}
use Rattle.suite.specs.declared.Refusal.{Refusal}
use Rattle.suite.specs.declared.Refusal.TheVariants.{Unsound, Members, Vote, Quorum, Name, Value, NoMember, ReadVotes, WriteVotes, Present, Absent, Version, Full, NotUnderstood, Short, Edition, Field, Padding, Buffer}
use Rattle.suite.specs.declared.Done.{Done}

-- a result is told by the paper's numbers for it
abbrev pub Tells : {A B : Type 0} → (A → B) → Type 0
Tells {A} f = (a b : A) → f a ≡ f b → a ≡ b

told : {A B : Type 0} (f : A → B) → Tells f → (o : B) → Determines (λ r. f r ≡ o)
told f inj o r r' p q = inj r r' (p ∙ sym q)

-- What judging comes to, in the order of the numbers.
judgings : List (prelude.Result Unit Refusal)
judgings =
    Ok tt
    ∷ Err Unsound
    ∷ Err Members
    ∷ Err Vote
    ∷ Err Quorum
    ∷ Err Name
    ∷ Err Value
    ∷ Err NoMember
    ∷ Err ReadVotes
    ∷ Err WriteVotes
    ∷ Err Present
    ∷ Err Absent
    ∷ Err Version
    ∷ Err Full
    ∷ Err NotUnderstood
    ∷ Err Short
    ∷ Err Edition
    ∷ Err Field
    ∷ Err Padding
    ∷ Err Buffer
    ∷ []

numbered : (j : prelude.Result Unit Refusal) → get_or judgings (judged_of j) (Ok tt) ≡ j
unfolding judgings
numbered (Ok tt) = refl
numbered (Err Unsound) = refl
numbered (Err Members) = refl
numbered (Err Vote) = refl
numbered (Err Quorum) = refl
numbered (Err Name) = refl
numbered (Err Value) = refl
numbered (Err NoMember) = refl
numbered (Err ReadVotes) = refl
numbered (Err WriteVotes) = refl
numbered (Err Present) = refl
numbered (Err Absent) = refl
numbered (Err Version) = refl
numbered (Err Full) = refl
numbered (Err NotUnderstood) = refl
numbered (Err Short) = refl
numbered (Err Edition) = refl
numbered (Err Field) = refl
numbered (Err Padding) = refl
numbered (Err Buffer) = refl

pub judged-tells : Tells judged_of
judged-tells a b e = sym (numbered a) ∙ ap (λ n. get_or judgings n (Ok tt)) e ∙ numbered b

pub number_tells : Tells number_of
number_tells a b e = let h = judged-tells (Err a) (Err b) e in cc

reading-tells : (r r' : Reading) (q q' : ℕ) → answered (reading_values r q) ≡ answered (reading_values r' q') → (r ≡ r') × (q ≡ q')
reading-tells (Entry v x) (Entry v' x') q q' e = (cc, cc)
reading-tells (Entry v x) (Gap v') q q' e = (cc, cc)
reading-tells (Gap v) (Entry v' x') q q' e = (cc, cc)
reading-tells (Gap v) (Gap v') q q' e = (cc, cc)

pub looked_tells : Tells looked_of
looked_tells (Ok a) (Ok b) e =
    let h = reading-tells a.reading b.reading a.requests b.requests e in
    λ j. Ok (record { reading = h.0 j; requests = h.1 j })
looked_tells (Ok a) (Err r) e = not_both (reading_values a.reading a.requests) (number_of r) e
looked_tells (Err r) (Ok a) e = not_both (reading_values a.reading a.requests) (number_of r) (sym e)
looked_tells (Err a) (Err b) e = ap Err (number_tells a b (refused_is (number_of a) (number_of b) e))

pub near-tells : Tells near_of
near-tells (Ok a) (Ok b) e =
    let h : a.below ≡ b.below = cc in
    let k : a.above ≡ b.above = cc in
    let q : a.requests ≡ b.requests = cc in
    λ j. Ok (record { below = h j; above = k j; requests = q j })
near-tells (Ok a) (Err r) e = not_both (a.below ∷ a.above ∷ a.requests ∷ []) (number_of r) e
near-tells (Err r) (Ok a) e = not_both (a.below ∷ a.above ∷ a.requests ∷ []) (number_of r) (sym e)
near-tells (Err a) (Err b) e = ap Err (number_tells a b (refused_is (number_of a) (number_of b) e))

done_tells : (a b : Done) → answered (a.version ∷ a.requests ∷ []) ≡ answered (b.version ∷ b.requests ∷ []) → a ≡ b
done_tells a b e =
    let h : a.version ≡ b.version = cc in
    let q : a.requests ≡ b.requests = cc in
    λ j. record { version = h j; requests = q j }

pub change_tells : Tells change_of
change_tells (Ok a) (Ok b) e = ap Ok (done_tells a b e)
change_tells (Ok a) (Err r) e = not_both (a.version ∷ a.requests ∷ []) (number_of r) e
change_tells (Err r) (Ok a) e = not_both (a.version ∷ a.requests ∷ []) (number_of r) (sym e)
change_tells (Err a) (Err b) e = ap Err (number_tells a b (refused_is (number_of a) (number_of b) e))

-- the outcomes of equal results are equal
outcomes : {a b : Result} → a ≡ b → a.outcome ≡ b.outcome
outcomes e = ap (λ (r : Result). r.outcome) e

-- a contract allows one answer at most, and the suite that a call leaves to be one at most
abbrev pub Leaves : (prelude.Result Done Refusal → Suite → Type 0) → Type 0
Leaves allows = (r r' : prelude.Result Done Refusal) (s s' : Suite) → allows r s → allows r' s' → (r ≡ r') × (s ≡ s')

left : (o : Result) → Leaves (λ r exit. result_of r exit ≡ o)
left o r r' s s' p q =
    let e = p ∙ sym q in
    (change_tells r r' (outcomes e), ap (λ (x : Result). x.suite) e)

pub created-tells : Tells created_of
created-tells (Ok a) (Ok b) e = λ j. Ok (e j).suite
created-tells (Ok a) (Err r) e = not_both [] (number_of r) (outcomes e)
created-tells (Err r) (Ok a) e = not_both [] (number_of r) (sym (outcomes e))
created-tells (Err a) (Err b) e = ap Err (number_tells a b (refused_is (number_of a) (number_of b) (outcomes e)))

-- no two suites have one frame and the same members
pub whole_suite : (s t : Suite) → frame_of s ≡ frame_of t → s.members ≡ t.members → s ≡ t
whole_suite s t f m = λ j. record { members = m j; votes = (f j).votes; read = (f j).read; write = (f j).write; count = (f j).count }

-- what `[[u32; 130]; 8]` says of a list
pub record Tiles (l : List (List ℕ)) : Type 0 where
  pub eight : length l ≡ 8
  pub cells : (i : ℕ) → i < 8 → length (get_or l i []) ≡ 130

-- no two lists of eight tiles are one suite
pub one_suite : (f : Frame) (a b : List (List ℕ)) → Tiles a → Tiles b → suite_in f a ≡ suite_in f b → a ≡ b
one_suite f a b h k e =
    ext_get_or [] a b (h.eight ∙ sym k.eight)
    (λ i n.
    let m : i < 8 = omega (arith, h.eight) in
    let t : tile_in (get_or a i []) ≡ tile_in (get_or b i []) =
    sym (get_or-map tile_in a i []) ∙ ap (λ (s : Suite). get_or s.members i (tile_in [])) e ∙ get_or-map tile_in b i [] in
    one_tile (get_or a i []) (get_or b i []) t (h.cells i m) (k.cells i m))

-- The public functions. A call and its unchecked form have one contract each: `run` is `call_of` for the one and `step_of` for the other.
pub of_determined : (f : Frame) (lent : List (List ℕ)) → Determines (λ r. r ≡ suite_in f lent)
of_determined f lent = same (suite_in f lent)

module _ (run : Suite → Call → Result) (s : Suite) where
  pub lookup-determined : (set name : ℕ) → Determines (λ r. looked_of r ≡ (run s (lookup set name)).outcome)
  lookup-determined set name = told looked_of looked_tells (run s (lookup set name)).outcome

  pub neighbours-determined : (set name : ℕ) → Determines (λ r. near_of r ≡ (run s (neighbours set name)).outcome)
  neighbours-determined set name = told near_of near-tells (run s (neighbours set name)).outcome

  pub insert-determined : (read write name value : ℕ) → Leaves (λ r exit. result_of r exit ≡ run s (insert read write name value))
  insert-determined read write name value = left (run s (insert read write name value))

  pub update-determined : (read write name value : ℕ) → Leaves (λ r exit. result_of r exit ≡ run s (update read write name value))
  update-determined read write name value = left (run s (update read write name value))

  pub remove-determined : (read write name : ℕ) → Leaves (λ r exit. result_of r exit ≡ run s (remove read write name))
  remove-determined read write name = left (run s (remove read write name))

pub create_determined : (read write : ℕ) (votes : List ℕ) → Determines (λ r. created_of r ≡ create_of read write votes)
create_determined read write votes = told created_of created-tells (create_of read write votes)

pub blank_determined : Determines (λ r. r ≡ blank)
blank_determined = same blank

pub is_sound_determined : (s : Suite) → Determines (λ r. r ≡ sound_suite s)
is_sound_determined s = same (sound_suite s)

pub must_be_sound_determined : (s : Suite) → Determines (λ r. judged_of r ≡ cond (sound_suite s) 0 1)
must_be_sound_determined s = told judged_of judged-tells (cond (sound_suite s) 0 1)

pub size_determined : (s : Suite) → Determines (λ r. (r ≡ length (tiles s)) × ((r ≡ length (ballots s)) × (r ≤ 8)))
size_determined s r r' p q = same (length (tiles s)) r r' p.0 q.0

pub everyone_determined : (s : Suite) → Determines (λ r. r ≡ 2 ^ length (tiles s) - 1)
everyone_determined s = same (2 ^ length (tiles s) - 1)

pub number_determined : (k : Refusal) → Determines (λ r. r ≡ number_of k)
number_determined k = same (number_of k)

-- what a suite's frame says
module _ (f : Frame) where
  pub frame-size-determined : Determines (λ r. (r ≡ length (ballots_in f)) × (r ≤ 8))
  frame-size-determined r r' p q = same (length (ballots_in f)) r r' p.0 q.0

  pub frame-everyone-determined : Determines (λ r. r ≡ 2 ^ length (ballots_in f) - 1)
  frame-everyone-determined = same (2 ^ length (ballots_in f) - 1)

  pub frame-sound-determined : Determines (λ r. r ≡ sound_frame f)
  frame-sound-determined = same (sound_frame f)

  pub judge-determined : (name value read write needed : ℕ) → Determines (λ r. judged_of r ≡ calls.judged (ballots_in f) f.read needed name value read write)
  judge-determined name value read write needed = told judged_of judged-tells (calls.judged (ballots_in f) f.read needed name value read write)

pub frame_determined : (s : Suite) → Determines (λ r. r ≡ frame_of s)
frame_determined s = same (frame_of s)

-- the rows of a round's table
pub row_reading_determined : (row : List ℕ) → Determines (λ r. r ≡ row_reading row)
row_reading_determined row = same (row_reading row)

pub around_row_determined : (a : Around) → Determines (λ r. r ≡ around_row a)
around_row_determined a = same (around_row a)

pub offers_row_determined : (below above : Option Bound) → Determines (λ r. r ≡ offers_row below above)
offers_row_determined below above = same (offers_row below above)
