-- A line asks for a suite exactly where its command is `suite`: both are read from the same words. Here, that its command is the suite
-- that it asks for, and that it asks for none under another command; that it does ask where its command is one, `asks`, is in proofs/Asked.
use Rattle.std.specs.Prelude.{◌≡◌, refl, ℕ, List, [], ◌∷◌, Bool, true, false, Option, None, Some, cond, length, leb, eqb}
use Rattle.std.proofs.Common.{ap₂, eqb-true}
use Rattle.std.proofs.Math.Bool.{and-eq-true_iff}
use Rattle.text.specs.Words.{ascii, words, same}
use Rattle.text.specs.Line.{creating, suite_asked, command_in, ballots_in, given_with, longest_line, given_of, command_of, ballots_of}
use Rattle.text.specs.declared.Command.TheVariants.{Suite}
use Rattle.text.specs.declared.Creation.{Creation}

same_is : (w v : List ℕ) → same w v ≡ true → w ≡ v
unfolding same
same_is [] [] h = refl
same_is [] (c ∷ v) h = cc
same_is (b ∷ w) [] h = cc
same_is (b ∷ w) (c ∷ v) h =
    let both = (and-eq-true_iff (eqb b c) (same w v)).0 h in
    ap₂ (λ (x : ℕ) (l : List ℕ). x ∷ l) (eqb-true b c both.0) (same_is w v both.1)

word_is : (w : List ℕ) (ws : List (List ℕ)) (b : Creation) → ballots_in w ws ≡ Some b → command_in w ws ≡ Some (suite_asked b)
unfolding ballots_in command_in same ascii
word_is w ws b = go (same w (ascii "suite")) refl
  where
    go : (t : Bool) → same w (ascii "suite") ≡ t → cond t (creating ws) None ≡ Some b → command_in w ws ≡ Some (suite_asked b)
    go true e k = rw (same_is w (ascii "suite") e, k)
    go false e k = cc

words_are : (l : List (List ℕ)) (b : Creation) → given_with ballots_in l ≡ Some b → given_with command_in l ≡ Some (suite_asked b)
unfolding given_with
words_are [] b h = cc
words_are (w ∷ ws) b h = word_is w ws b h

pub asked_is : (line : List ℕ) (b : Creation) → ballots_of line ≡ Some b → command_of line ≡ Some (suite_asked b)
unfolding ballots_of command_of given_of
asked_is line b = go (leb (length line) longest_line)
  where
    go : (t : Bool) → cond t (given_with ballots_in (words line)) None ≡ Some b
        → cond t (given_with command_in (words line)) None ≡ Some (suite_asked b)
    go true h = words_are (words line) b h
    go false h = cc

-- a line of another command asks for none
pub not_suite : (line : List ℕ) → ((r w : ℕ) → command_of line ≡ Some (Suite r w) → ⊥) → ballots_of line ≡ None
unfolding suite_asked
not_suite line none = go (ballots_of line) refl
  where
    go : (o : Option Creation) → ballots_of line ≡ o → o ≡ None
    go None e = refl
    go (Some b) e = absurd (none b.read b.write (asked_is line b e))
