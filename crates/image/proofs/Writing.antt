-- The writer as a whole: every field of a suite, appended from the first bit on, and the image copied into the lent bytes.
-- Assumes nothing.
use Prim.Native.Nat.{ℕ, zero, suc, ◌+◌, ◌-◌, ◌*◌, ◌/◌, ◌≤◌, ◌<◌}
use native.Mathlib.Omega.{arith}
use mathlib.Core.Path.{◌≡◌, refl, sym, ap, subst, ◌∙◌}
use mathlib.Core.List.{List, [], ◌∷◌, ◌++◌, flat_map}
use lib.ListN.{length, take, drop, replicate, length-replicate}
use borrow.Author.Tests.{le-leb, lt-leb}
use Rattle.fields.specs.Bits.{bytes_for}
use Rattle.fields.specs.Field.{append_of}
use Rattle.fields.proofs.Below.{below_zeros}
use Rattle.fields.proofs.Answers.{length-append_of}
use Rattle.fields.proofs.Filling.{filled_none, filled-packed}
use Rattle.suite.specs.Suite.{tiles, ballots}
use Rattle.suite.specs.Outcome.{answered}
use Rattle.suite.specs.declared.Suite.{Suite}
use Rattle.image.specs.Layout.{Piece, vote_pieces, member_pieces, suite_pieces, bits_in, widths, image_of}
use Rattle.image.specs.Writer.{Holds, Appended, untouched, fill_of}
use Rattle.image.proofs.Lengths.{length-bits_in, widths-append}
use Rattle.image.proofs.Putting.{appended_field, appended_both}

-- ---- the fields of a suite, in their places

take_used : {A : Type 0} (n k : ℕ) (l : List A) → k ≡ length (take n l) → take k l ≡ take n l
take_used n k l e = ap (λ (i : ℕ). take i l) e ∙ go n l
  where
    go : {A : Type 0} (m : ℕ) (b : List A) → take (length (take m b)) b ≡ take m b
    go zero b = refl
    go (suc m) [] = refl
    go (suc m) (x ∷ b) = ap (λ t. x ∷ t) (go m b)

pub suite_put : (s : Suite) (bytes b₁ b₂ b₃ head after done : List ℕ) (n less next end : ℕ) → 128 ≤ 8 * length bytes → n ≡ length (tiles s)
    → n ≡ length (ballots s)
    → less ≡ s.count - 1
    → b₁ ≡ append_of bytes 0 4 1
    → b₂ ≡ append_of b₁ 4 3 less
    → b₃ ≡ append_of b₂ 7 7 s.read
    → head ≡ append_of b₃ 14 7 s.write
    → next ≡ 21 + widths (flat_map vote_pieces (take n s.votes)) → Appended head 21 (flat_map vote_pieces (take n s.votes)) after
    → end ≡ next + widths (flat_map (member_pieces 20) (take n s.members))
    → Appended after next (flat_map (member_pieces 20) (take n s.members)) done
    → (end ≡ widths (suite_pieces 20 s)) × Appended bytes 0 (suite_pieces 20 s) done
unfolding suite_pieces widths
suite_put s bytes b₁ b₂ b₃ head after done n less next end room et eb el e₁ e₂ e₃ eh en ea ee ed =
    let votes = flat_map vote_pieces (ballots s) in
    let members = flat_map (member_pieces 20) (tiles s) in
    let fv : flat_map vote_pieces (take n s.votes) ≡ votes = ap (flat_map vote_pieces) (take_used s.count n s.votes eb) in
    let fm : flat_map (member_pieces 20) (take n s.members) ≡ members = ap (flat_map (member_pieces 20)) (take_used s.count n s.members et) in
    let nv : next ≡ 21 + widths votes = en ∙ ap (λ (l : List Piece). 21 + widths l) fv in
    let nm : end ≡ next + widths members = ee ∙ ap (λ (l : List Piece). next + widths l) fm in
    let low : b₂ ≡ append_of b₁ 4 3 (s.count - 1) = e₂ ∙ ap (append_of b₁ 4 3) el in
    let l₁ : length b₁ ≡ length bytes = ap length e₁ ∙ length-append_of bytes 0 4 1 in
    let l₂ : length b₂ ≡ length b₁ = ap length low ∙ length-append_of b₁ 4 3 (s.count - 1) in
    let l₃ : length b₃ ≡ length b₂ = ap length e₃ ∙ length-append_of b₂ 7 7 s.read in
    let av : Appended head 21 votes after = subst (λ (l : List Piece). Appended head 21 l after) fv ea in
    let am : Appended after next members done = subst (λ (l : List Piece). Appended after next l done) fm ed in (
      rw (widths-append votes members) (omega arith),
      appended_both ((4, 1) ∷ []) _ bytes b₁ done 0 4 (appended_field bytes b₁ 0 4 1 (omega arith) (omega arith) e₁) refl
          (appended_both ((3, s.count - 1) ∷ []) _ b₁ b₂ done 4 7 (appended_field b₁ b₂ 4 3 (s.count - 1) (omega arith) (omega arith) low) refl
          (appended_both ((7, s.read) ∷ []) _ b₂ b₃ done 7 14 (appended_field b₂ b₃ 7 7 s.read (omega arith) (omega arith) e₃) refl
          (appended_both ((7, s.write) ∷ []) _ b₃ head done 14 21 (appended_field b₃ head 14 7 s.write (omega arith) (omega arith) eh) refl
          (appended_both votes members head after done 21 next av nv am)))),
    )

-- ---- the image

-- the bytes that the code writes into: the longest image, and eight more
abbrev pub scratch : ℕ
scratch = 2733

pub record Whole (s : Suite) (buffer : List ℕ) (n : ℕ) : Type 0 where
  pub image : take ((n + 7) / 8) buffer ≡ image_of s
  pub places : length buffer ≡ scratch

zeros_hold : (n : ℕ) → Holds (replicate n 0) []
unfolding bits_in widths
zeros_hold n =
    let e : 8 * n ≡ 8 * length {A = ℕ} (replicate n 0) - 0 = rw (length-replicate {A = ℕ} n 0) (omega arith) in
    (filled_none n ∙ ap (λ (i : ℕ). replicate i 0) e, below_zeros 255 n)

pub whole : (s : Suite) (buffer : List ℕ) (n : ℕ) → n ≡ widths (suite_pieces 20 s) → Appended (replicate scratch 0) 0 (suite_pieces 20 s) buffer
    → Whole s buffer n
unfolding image_of bytes_for widths
whole s buffer n e b =
    let l = suite_pieces 20 s in
    let h : Holds buffer l = b.holds [] refl (zeros_hold scratch) in
    let k : length (bits_in l) ≡ n = length-bits_in l ∙ sym e in
    record {
      image = ap (λ (i : ℕ). take ((i + 7) / 8) buffer) (sym k) ∙ filled-packed buffer (bits_in l) (8 * length buffer - widths l) h.1 h.0;
      places = b.same_length ∙ length-replicate {A = ℕ} scratch 0;
    }

pub fill_short : (image out : List ℕ) → length out < length image → fill_of image out ≡ untouched 19 out
unfolding fill_of
fill_short image out h = rw (lt-leb (length image) (length out) h)

pub fill_fits : (image out : List ℕ) → length image ≤ length out
    → fill_of image out ≡ record { outcome = answered (length image ∷ []); bytes = image ++ drop (length image) out }
unfolding fill_of
fill_fits image out h = rw (le-leb (length image) (length out) h)
