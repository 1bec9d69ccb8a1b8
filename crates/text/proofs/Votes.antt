-- The votes are taken one after another into eight places. Assumes nothing.
use mathlib.Core.Path.{◌≡◌, refl, ◌∙◌, ap}
use Prim.Native.Nat.{ℕ, zero, suc, ◌+◌, ◌≤◌, ◌<◌}
use native.Mathlib.Nat.{add-zero, add-suc}
use native.Mathlib.Numerals.{add-one}
use mathlib.Core.List.{List, [], ◌∷◌, ◌++◌, append-nil}
use Rattle.std.specs.Prelude.{Option, None, Some}
use lib.ListN.{length, set, length-append}
use lib.Seq.{append_snoc}
use Rattle.text.specs.Words.{numeral}
use Rattle.text.specs.Line.{padded, given, joined, numbers, created, voting, with_word, with_number}
use Rattle.text.specs.Scan.{words_from}
use Rattle.text.specs.declared.Creation.{Creation}
use Rattle.text.proofs.Places.{Step, goes, from_past, from_within}

-- one more goes to the place behind them, or nowhere
padded_more : (n : ℕ) (l : List ℕ) (v : ℕ) → set (padded n l) (length l) v ≡ padded n (l ++ v ∷ [])
unfolding padded
padded_more zero l v = refl
padded_more (suc n) [] v = refl
padded_more (suc n) (w ∷ l) v = ap (λ (r : List ℕ). w ∷ r) (padded_more n l v)

-- the words ahead, with the votes so far
unfoldable pub collected : ℕ → ℕ → List ℕ → ℕ → List (List ℕ) → Option Creation
collected r w votes count [] = Some (record { read = r; write = w; votes = votes; count = count })
collected r w votes count (v ∷ ws) = given (numeral v) (λ n. collected r w (set votes count n) (suc count) ws)

snoc_length : (l : List ℕ) (v : ℕ) → length (l ++ v ∷ []) ≡ suc (length l)
snoc_length l v = length-append l (v ∷ []) ∙ (add-suc (length l) 0 ∙ ap suc (add-zero (length l)))

collects : (r w : ℕ) (vs : List ℕ) (ws : List (List ℕ))
    → collected r w (padded 8 vs) (length vs) ws ≡ given (numbers ws) (λ l. Some (created r w (vs ++ l)))
unfolding collected numbers given created joined
collects r w vs [] = rw append-nil
collects r w vs (v ∷ ws) = go (numeral v) (λ n. collects r w (vs ++ n ∷ []) ws)
  where
    last : (n : ℕ) (o : Option (List ℕ))
        → given o (λ l. Some (created r w (vs ++ n ∷ [] ++ l))) ≡ given (joined (Some n) o) (λ l. Some (created r w (vs ++ l)))
    last n None = refl
    last n (Some l) = rw (append_snoc vs n l)

    go : (o : Option ℕ)
        → ((n : ℕ) → collected r w (padded 8 (vs ++ n ∷ [])) (length (vs ++ n ∷ [])) ws ≡ given (numbers ws) (λ l. Some (created r w (vs ++ n ∷ [] ++ l))))
        → given o (λ n. collected r w (set (padded 8 vs) (length vs) n) (suc (length vs)) ws)
        ≡ given (joined o (numbers ws)) (λ l. Some (created r w (vs ++ l)))
    go None ih = refl
    go (Some n) ih = rw (padded_more 8 vs n, ← snoc_length vs n) (ih n ∙ last n (numbers ws))

pub votes_begin : (r w : ℕ) (ws : List (List ℕ)) → collected r w (padded 8 []) 0 ws ≡ voting r w ws
unfolding voting
votes_begin r w ws = collects r w [] ws

module _ (r w : ℕ) (line votes : List ℕ) (count next : ℕ) where
  votes-word : next ≤ length line → collected r w votes count (words_from line next)
      ≡ with_number (words_from line next) (λ n ws. collected r w (set votes count n) (suc count) ws)
  unfolding collected with_word
  votes-word h = rw (from_within line next h)

  pub votes-go : next ≤ length line → {n end : ℕ} → Step numeral line next n end
      → collected r w votes count (words_from line next) ≡ collected r w (set votes count n) (count + 1) (words_from line (end + 1))
  votes-go h s = votes-word h ∙ rw (add-one count) (goes numeral line next s (λ n ws. collected r w (set votes count n) (suc count) ws))

  pub votes_stop : next ≤ length line
      → ((f : ℕ → List (List ℕ) → Option Creation) → with_number (words_from line next) f ≡ None)
      → collected r w votes count (words_from line next) ≡ None
  votes_stop h s = votes-word h ∙ s (λ n ws. collected r w (set votes count n) (suc count) ws)

  pub votes-end : length line < next
      → collected r w votes count (words_from line next) ≡ Some (record { read = r; write = w; votes = votes; count = count })
  unfolding collected
  votes-end h = rw (from_past line next h)
