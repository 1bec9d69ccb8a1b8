-- `fields::last_word` meets its contract: zeros stand behind the bytes that are there.
-- Assumes nothing.
use Rattle.std.proofs.Common.{◌≡◌, ◌+◌, ◌-◌, ◌*◌, ◌^◌, ◌≤◌, ◌<◌, ◌∙◌, refl, sym, ap, ℕ, length, get_or, take, drop, replicate, ◌++◌, List, arith}
use Rattle.std.specs.Int.{w64, from_be_bytes}
use Rattle.std.proofs.lemmas.List.{places}
use Rattle.fields.specs.Word.{word_at}
use Rattle.fields.proofs.last_word.Goals as goal

-- eight bytes that are those of the image from byte i on are its word there
word_of_eight : (l eight : List ℕ) (i : ℕ) → ((k j : ℕ) → j ≡ i + k → get_or eight k 0 ≡ get_or l j 0)
    → from_be_bytes w64 eight ≡ word_at l i
word_of_eight l eight i h =
    let b : ℕ → ℕ = λ (k : ℕ). get_or eight k 0 in
    let spelt : from_be_bytes w64 eight ≡ b 0 * 256 ^ 7 + b 1 * 256 ^ 6 + b 2 * 256 ^ 5 + b 3 * 256 ^ 4 + b 4 * 256 ^ 3 + b 5 * 256 ^ 2 + b 6 * 256 + b 7 = refl in
    spelt
    ∙ omega (arith, h 0 i (omega arith), h 1 (i + 1) refl, h 2 (i + 2) refl, h 3 (i + 3) refl, h 4 (i + 4) refl, h 5 (i + 5) refl, h 6 (i + 6) refl, h 7 (i + 7) refl)

there : (l ys : List ℕ) (i n k j : ℕ) → i ≤ length l → length l < i + 8 → ys ≡ take (length l - i) (drop i l)
    → n ≡ length ys → j ≡ i + k → get_or (ys ++ drop n (replicate 8 0)) k 0 ≡ get_or l j 0
there l ys i n k j a b e d f = grind (arith, places)

pub returns : goal.returns
returns c =
    let l = c.args.bytes.now in
    let i = c.args.first in
    let copied = c.copy_from_slice.ensures in
    c.from_be_bytes.ensures
    ∙ word_of_eight l _ i (λ k j e. there l c.copy_from_slice.new.self i (length (take (length l - i) (drop i l))) k j c.requires.0 c.requires.1 copied.after (sym (ap length copied.after)) e)
