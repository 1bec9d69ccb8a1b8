-- The command word: the letters that the line begins with. Assumes nothing.
use mathlib.Core.Path.{◌≡◌, refl, sym, ◌∙◌, ap}
use Prim.Native.Nat.{ℕ, suc, ◌+◌, ◌≤◌, ◌<◌}
use native.Mathlib.Nat.{not-suc-le-zero}
use native.Mathlib.Numerals.{one-add}
use native.Mathlib.Omega.{arith}
use mathlib.Core.List.{List, [], ◌∷◌}
use mathlib.Core.Bool.{Bool, true, false, cond, ◌&&◌}
use lib.ListN.{length, get_or, take}
use lib.Seq.{length-take-le}
use lib.Dec.{leb, eqb}
use Rattle.std.specs.Prelude.{Option, None}
use Rattle.std.specs.List.{prefix_len}
use borrow.Author.Tests.{le-leb, lt-leb, ne_eqb, eqb-true}
use Rattle.text.specs.Words.{ascii, words, same}
use Rattle.text.specs.Line.{command_in, ballots_in, given_with, given_of, command_of, ballots_of, longest_line, reading, changing, removing, creating, with_word}
use Rattle.text.specs.Scan.{is_letter, first, words_from, Worded, Wordless}
use Rattle.text.proofs.Places.{others, others_are, words_are}
use Rattle.text.specs.declared.Command.{Command}
use Rattle.text.specs.declared.Creation.{Creation}
use Rattle.text.proofs.Numbers.{first_more, first_space, and_false}

pub letter_within : (b : ℕ) → 97 ≤ b → b < 123 → is_letter b ≡ true
unfolding is_letter
letter_within b h k = rw (le-leb 97 b h, le-leb b 122 (omega arith))

pub no_letter_below : (b : ℕ) → b < 97 → is_letter b ≡ false
unfolding is_letter
no_letter_below b h = rw (lt-leb 97 b h)

pub no_letter_above : (b : ℕ) → 123 ≤ b → is_letter b ≡ false
unfolding is_letter
no_letter_above b h = rw (lt-leb b 122 h, and_false (leb 97 b))

no_space : (b : ℕ) → is_letter b ≡ true → b ≡ 32 → ⊥
no_space b e q = let z : true ≡ false = sym e ∙ no_letter_below b (omega arith) in absurd (let n : ◌≡◌ {A = ℕ} 0 1 = cc in omega arith)

-- how many letters a line begins with
abbrev letters_of : List ℕ → ℕ
letters_of = prefix_len is_letter

-- letters and then a space: they are the first word
word_is : (l : List ℕ) → letters_of l < length l → get_or l (letters_of l) 0 ≡ 32 → first l ≡ take (letters_of l) l
word_is [] h e = absurd (not-suc-le-zero h)
word_is (b ∷ l) h e = go (is_letter b) refl (word_is l) h e
  where
    go : (t : Bool) → is_letter b ≡ t → (letters_of l < length l → get_or l (letters_of l) 0 ≡ 32 → first l ≡ take (letters_of l) l)
        → cond t (1 + letters_of l) 0 < suc (length l) → get_or (b ∷ l) (cond t (1 + letters_of l) 0) 0 ≡ 32
        → first (b ∷ l) ≡ take (cond t (1 + letters_of l) 0) (b ∷ l)
    go true q ih k p = rw one-add (first_more b l (no_space b q) ∙ ap (λ (w : List ℕ). b ∷ w) (ih (omega arith) (rw one-add at p)))
    go false q ih k p = rw p (first_space l)

pub word_split : (l : List ℕ) → letters_of l < length l → get_or l (letters_of l) 0 ≡ 32
    → words l ≡ take (letters_of l) l ∷ words_from l (letters_of l + 1)
word_split l h e =
    let w = word_is l h e in
    let n : length (first l) ≡ letters_of l = ap length w ∙ length-take-le (letters_of l) l (omega arith) in
    words_are l ∙ rw (others_are l, n, w)

-- nothing but letters: no word follows
letters_alone : (l : List ℕ) → length l ≤ letters_of l → others l ≡ []
unfolding others
letters_alone [] h = refl
letters_alone (b ∷ l) h = go (is_letter b) refl (letters_alone l) h
  where
    go : (t : Bool) → is_letter b ≡ t → (length l ≤ letters_of l → others l ≡ []) → suc (length l) ≤ cond t (1 + letters_of l) 0
        → cond (eqb b 32) (words l) (others l) ≡ []
    go true q ih k = rw (ne_eqb b 32 (no_space b q)) (ih (omega arith))
    go false q ih k = absurd (not-suc-le-zero k)

-- a first word of letters only
unfoldable lettered : List ℕ → Bool
lettered [] = true
lettered (b ∷ w) = is_letter b && lettered w

-- letters and then another byte: the first word has more than letters
unlettered : (l : List ℕ) → letters_of l < length l → (get_or l (letters_of l) 0 ≡ 32 → ⊥) → lettered (first l) ≡ false
unfolding lettered
unlettered [] h e = absurd (not-suc-le-zero h)
unlettered (b ∷ l) h e = go (is_letter b) refl (unlettered l) h e
  where
    go : (t : Bool) → is_letter b ≡ t → (letters_of l < length l → (get_or l (letters_of l) 0 ≡ 32 → ⊥) → lettered (first l) ≡ false)
        → cond t (1 + letters_of l) 0 < suc (length l) → (get_or (b ∷ l) (cond t (1 + letters_of l) 0) 0 ≡ 32 → ⊥)
        → lettered (first (b ∷ l)) ≡ false
    go true q ih k p = rw (first_more b l (no_space b q), q) (ih (omega arith) (rw one-add at p))
    go false q ih k p = rw (first_more b l p, q)

-- so it is none of the commands' words
differs : (w v : List ℕ) → lettered w ≡ false → lettered v ≡ true → same w v ≡ false
unfolding lettered same
differs [] v h k = absurd (let z : ◌≡◌ {A = ℕ} 0 1 = cc in omega arith)
differs (b ∷ w) [] h k = refl
differs (b ∷ w) (c ∷ v) h k = go (eqb b c) refl (differs w v)
  where
    tail : (s t u : Bool) → s && t ≡ false → s && u ≡ true → (t ≡ false) × (u ≡ true)
    tail true t u p q = (p, q)
    tail false t u p q = absurd (let z : ◌≡◌ {A = ℕ} 0 1 = cc in omega arith)

    go : (t : Bool) → eqb b c ≡ t → (lettered w ≡ false → lettered v ≡ true → same w v ≡ false) → t && same w v ≡ false
    go true q ih =
        let r = tail (is_letter b) (lettered w) (lettered v) h (rw (eqb-true b c q) k) in
        ih r.0 r.1
    go false q ih = refl

no_command : (w : List ℕ) (ws : List (List ℕ)) → lettered w ≡ false → command_in w ws ≡ None
unfolding command_in lettered is_letter ascii
no_command w ws h =
    rw (
      differs w (ascii "look") h refl,
      differs w (ascii "near") h refl,
      differs w (ascii "ins") h refl,
      differs w (ascii "upd") h refl,
      differs w (ascii "del") h refl,
      differs w (ascii "suite") h refl,
    )

no_ballots : (w : List ℕ) (ws : List (List ℕ)) → lettered w ≡ false → ballots_in w ws ≡ None
unfolding ballots_in lettered is_letter ascii
no_ballots w ws h = rw (differs w (ascii "suite") h refl)

-- every command has arguments
bare_command : (w : List ℕ) → command_in w [] ≡ None
unfolding command_in reading changing removing creating with_word
bare_command w = six (same w (ascii "look")) (same w (ascii "near")) (same w (ascii "ins")) (same w (ascii "upd")) (same w (ascii "del")) (same w (ascii "suite"))
  where
    n : Option Command
    n = None

    six : (a b c d e f : Bool) → cond a n (cond b n (cond c n (cond d n (cond e n (cond f n n))))) ≡ n
    six true b c d e f = refl
    six false true c d e f = refl
    six false false true d e f = refl
    six false false false true e f = refl
    six false false false false true f = refl
    six false false false false false true = refl
    six false false false false false false = refl

bare_ballots : (w : List ℕ) → ballots_in w [] ≡ None
unfolding ballots_in creating with_word
bare_ballots w = two (same w (ascii "suite"))
  where
    n : Option Creation
    n = None

    two : (a : Bool) → cond a n n ≡ n
    two true = refl
    two false = refl

-- what a line gives, by the ways in which its word ends
module _ {R : Type 0} (give : List ℕ → List (List ℕ) → Option R) (l : List ℕ) where
  given-long : longest_line < length l → given_of give l ≡ None
  unfolding given_of
  given-long h = rw (lt-leb (length l) longest_line h)

  module _ (short : length l ≤ longest_line) where
    given-bare : ((w : List ℕ) → give w [] ≡ None) → length l ≤ letters_of l → given_of give l ≡ None
    unfolding given_of given_with
    given-bare b h = rw (le-leb (length l) longest_line short, words_are l, letters_alone l h) (b (first l))

    given-odd : ((w : List ℕ) (ws : List (List ℕ)) → lettered w ≡ false → give w ws ≡ None)
        → letters_of l < length l → (get_or l (letters_of l) 0 ≡ 32 → ⊥) → given_of give l ≡ None
    unfolding given_of given_with
    given-odd n h e = rw (le-leb (length l) longest_line short, words_are l) (n (first l) (others l) (unlettered l h e))

    given-word : letters_of l < length l → get_or l (letters_of l) 0 ≡ 32
        → given_of give l ≡ give (take (letters_of l) l) (words_from l (letters_of l + 1))
    unfolding given_of given_with
    given-word h e = rw (le-leb (length l) longest_line short, word_split l h e)

-- the four ends of `word_end`
pub too_long : (l : List ℕ) → longest_line < length l → Wordless l
unfolding command_of ballots_of
too_long l h = record { command = given-long command_in l h; ballots = given-long ballots_in l h }

module _ (l : List ℕ) (short : length l ≤ longest_line) {n : ℕ} (letters : n ≡ letters_of l) where
  pub no_word : length l ≤ n → Wordless l
  unfolding command_of ballots_of
  no_word h =
      let k = rw letters at h in
      record { command = given-bare command_in l short bare_command k; ballots = given-bare ballots_in l short bare_ballots k }

  -- a byte b behind them
  module _ (within : n < length l) {b : ℕ} (byte : b ≡ get_or l n 0) where
    pub odd-word : (b ≡ 32 → ⊥) → Wordless l
    unfolding command_of ballots_of
    odd-word h =
        let k = rw letters at within in
        let e = rw (byte, letters) at h in
        record { command = given-odd command_in l short no_command k e; ballots = given-odd ballots_in l short no_ballots k e }

    pub some_word : b ≡ 32 → Worded l n
    unfolding command_of ballots_of
    some_word h =
        let k = rw letters at within in
        let e = rw (byte, letters) at h in
        record {
          within = omega arith;
          command = rw letters (given-word command_in l short k e);
          ballots = rw letters (given-word ballots_in l short k e);
        }
