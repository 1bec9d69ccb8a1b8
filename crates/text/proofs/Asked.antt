-- Where its command is `suite`, a line asks for that suite: the other way round of specs/Asked, so that a line asks for a suite exactly
-- where its command is one.
use Rattle.std.specs.Prelude.{◌≡◌, refl, ℕ, List, [], ◌∷◌, Bool, true, false, Option, None, Some, cond, length, leb}
use Rattle.std.specs.Option.{option_map}
use Rattle.text.specs.Words.{ascii, words, same, numeral, argument}
use Rattle.text.specs.Line.{given, with_word, with_nothing, reading, changing, removing, creating, suite_asked, command_in, ballots_in, given_with, longest_line, given_of, command_of, ballots_of}
use Rattle.text.specs.declared.Members.{Members}
use Rattle.text.specs.declared.Command.TheVariants.{Suite, Look, Near, Insert, Update, Remove}
use Rattle.text.specs.declared.Creation.{Creation}

-- Where words give something, the first of them was read and the others gave it. So a branch before `suite` gives its own command, which
-- is another one.
given_gives : {A R P : Type 0} (o : Option A) (f : A → Option R) (c : R) → ((a : A) → f a ≡ Some c → P) → given o f ≡ Some c → P
unfolding given
given_gives None f c p h = absurd (cc)
given_gives (Some a) f c p h = p a h

word_gives : {A R P : Type 0} (read : List ℕ → Option A) (ws : List (List ℕ)) (f : A → List (List ℕ) → Option R) (c : R)
    → ((a : A) (v : List (List ℕ)) → f a v ≡ Some c → P) → with_word read ws f ≡ Some c → P
unfolding with_word
word_gives read [] f c p h = absurd (cc)
word_gives read (w ∷ ws) f c p h = given_gives (read w) (λ a. f a ws) c (λ a. p a ws) h

end_gives : {R : Type 0} (ws : List (List ℕ)) (r c : R) → with_nothing ws r ≡ Some c → r ≡ c
unfolding with_nothing
end_gives [] r c h = cc
end_gives (w ∷ ws) r c h = cc

reading_gives : {R P : Type 0} (make : Members → ℕ → R) (ws : List (List ℕ)) (c : R)
    → ((s : Members) (k : ℕ) → make s k ≡ c → P) → reading make ws ≡ Some c → P
unfolding reading
reading_gives make ws c p =
    word_gives argument ws _ c λ s v. word_gives numeral v _ c λ k u h. p s k (end_gives u (make s k) c h)

changing_gives : {R P : Type 0} (make : Members → Members → ℕ → ℕ → R) (ws : List (List ℕ)) (c : R)
    → ((s t : Members) (k v : ℕ) → make s t k v ≡ c → P) → changing make ws ≡ Some c → P
unfolding changing
changing_gives make ws c p =
    word_gives argument ws _ c λ s a. word_gives argument a _ c λ t b. word_gives numeral b _ c λ k d. word_gives numeral d _ c
    λ v e h. p s t k v (end_gives e (make s t k v) c h)

removing_gives : {R P : Type 0} (make : Members → Members → ℕ → R) (ws : List (List ℕ)) (c : R)
    → ((s t : Members) (k : ℕ) → make s t k ≡ c → P) → removing make ws ≡ Some c → P
unfolding removing
removing_gives make ws c p =
    word_gives argument ws _ c λ s a. word_gives argument a _ c λ t b. word_gives numeral b _ c
    λ k d h. p s t k (end_gives d (make s t k) c h)

-- a branch that never gives the result is passed over
passed : {R : Type 0} (s : Bool) {x y : Option R} {c : R} → (x ≡ Some c → ⊥) → cond s x y ≡ Some c → y ≡ Some c
passed true never h = absurd (never h)
passed false never h = h

word_asks : (w : List ℕ) (ws : List (List ℕ)) (r t : ℕ) → command_in w ws ≡ Some (Suite r t)
    → (b : Creation) × (ballots_in w ws ≡ Some b) × (suite_asked b ≡ Suite r t)
unfolding command_in ballots_in
word_asks w ws r t h =
    go (same w (ascii "suite")) (creating ws)
    (passed (same w (ascii "del")) (removing_gives Remove ws (Suite r t) λ s t k e. cc)
    (passed (same w (ascii "upd")) (changing_gives Update ws (Suite r t) λ s t k v e. cc)
    (passed (same w (ascii "ins")) (changing_gives Insert ws (Suite r t) λ s t k v e. cc)
    (passed (same w (ascii "near")) (reading_gives Near ws (Suite r t) λ s k e. cc)
    (passed (same w (ascii "look")) (reading_gives Look ws (Suite r t) λ s k e. cc) h)))))
  where
    go : (s : Bool) (o : Option Creation) → cond s (option_map suite_asked o) None ≡ Some (Suite r t)
        → (b : Creation) × (cond s o None ≡ Some b) × (suite_asked b ≡ Suite r t)
    go true (Some b) k = (b, refl, cc)
    go true None k = absurd (cc)
    go false o k = absurd (cc)

words_ask : (l : List (List ℕ)) (r t : ℕ) → given_with command_in l ≡ Some (Suite r t)
    → (b : Creation) × (given_with ballots_in l ≡ Some b) × (suite_asked b ≡ Suite r t)
unfolding given_with
words_ask [] r t h = absurd (cc)
words_ask (w ∷ ws) r t h = word_asks w ws r t h

pub asks : (line : List ℕ) (r w : ℕ) → command_of line ≡ Some (Suite r w)
    → (b : Creation) × (ballots_of line ≡ Some b) × (suite_asked b ≡ Suite r w)
unfolding ballots_of command_of given_of
asks line r w = go (leb (length line) longest_line)
  where
    go : (t : Bool) → cond t (given_with command_in (words line)) None ≡ Some (Suite r w)
        → (b : Creation) × (cond t (given_with ballots_in (words line)) None ≡ Some b) × (suite_asked b ≡ Suite r w)
    go true h = words_ask (words line) r w h
    go false h = absurd (cc)
