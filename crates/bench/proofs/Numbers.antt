-- The four numbers of the answer, put into its first bytes one after another.
-- Assumes nothing.
use Rattle.std.proofs.Common.{◌≡◌, refl, sym, ap, ◌∙◌, ℕ, ◌+◌, ◌-◌, ◌*◌, ◌<◌, arith, w32, List, [], ◌∷◌, ◌++◌, append_assoc, length, get_or, take, drop}
use Rattle.std.specs.Int.{to_be_bytes}
use Rattle.std.proofs.lemmas.List.{take_at, drop_at, drop-drop, length-take-le, take_more}
use borrow.Rule.Slice.PartMut.{put_mid}
use Rattle.bench.specs.Bench.{bytes_of}

length_bytes : (l : List ℕ) → length (bytes_of l) ≡ 4 * length l
unfolding bytes_of
length_bytes [] = refl
length_bytes (n ∷ l) = let e = length_bytes l in omega arith

bytes_push : (l : List ℕ) (n : ℕ) → bytes_of (l ++ n ∷ []) ≡ bytes_of l ++ to_be_bytes w32 n
unfolding bytes_of
bytes_push [] n = refl
bytes_push (m ∷ l) n = rw (bytes_push l n)

-- one number more
pub one_more : (numbers before now part : List ℕ) (i : ℕ) → i < length numbers
    → now ≡ bytes_of (take i numbers) ++ drop (4 * i) before
    → part ≡ to_be_bytes w32 (get_or numbers i 0)
    → put_mid (4 * i) (4 * i + 4 - 4 * i) now part ≡ bytes_of (take (i + 1) numbers) ++ drop (4 * (i + 1)) before
one_more numbers before now part i h e f =
    let b = bytes_of (take i numbers) in
    let d = drop (4 * i) before in
    let n : length b ≡ 4 * i = omega (arith, length_bytes (take i numbers), length-take-le i numbers (omega arith)) in
    let four : 4 * i + 4 - 4 * i ≡ 4 = omega arith in
    let next : 4 * i + 4 ≡ 4 * (i + 1) = omega arith in
    let rest : drop 4 d ≡ drop (4 * (i + 1)) before = drop-drop 4 (4 * i) before ∙ ap (λ (k : ℕ). drop k before) next in
    let more : b ++ part ≡ bytes_of (take (i + 1) numbers) =
    ap (λ (l : List ℕ). b ++ l) f ∙ sym (bytes_push (take i numbers) (get_or numbers i 0)) ∙ ap bytes_of (sym (take_more numbers i 0 h)) in
    rw (e, four, take_at b d (4 * i) n, drop_at b d (4 * i) n, rest)
    (sym (append_assoc b part (drop (4 * (i + 1)) before)) ∙ ap (λ (l : List ℕ). l ++ drop (4 * (i + 1)) before) more)
