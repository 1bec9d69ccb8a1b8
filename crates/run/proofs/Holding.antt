-- More bytes of a line join those that are held, and zeros stand behind them. Assumes nothing.
use Rattle.std.proofs.Common.{◌≡◌, refl, sym, ◌∙◌, ap, ℕ, zero, suc, ◌+◌, ◌-◌, ◌≤◌, min, arith, List, [], ◌∷◌, ◌++◌, append_assoc, length, take, drop, replicate, length-append, length-drop, append-nil}
use Rattle.std.proofs.Math.Seq.{take-append-add}
use Rattle.std.specs.Prelude.{Option}
use Rattle.std.proofs.lemmas.List.{drop_all, drop-replicate, take_min, take_at, drop_at, drop-drop, length-take-le}
use borrow.Rule.Slice.PartMut.{put_mid}
use Rattle.text.specs.Line.{padded}
use Rattle.suite.specs.declared.Suite.{Suite}
use Rattle.run.specs.Lent.{session_of}

-- the first n of a list and its continuation
take-onto : {A : Type 0} (a b : List A) (n : ℕ) → length a ≤ n → take n (a ++ b) ≡ a ++ take (n - length a) b
take-onto a b n h =
    let e : n ≡ length a + (n - length a) = omega arith in
    ap (λ (k : ℕ). take k (a ++ b)) e ∙ take-append-add a b (n - length a)

-- zeros behind a list
pub padded_is : (n : ℕ) (h : List ℕ) → length h ≤ n → padded n h ≡ h ++ drop (length h) (replicate n 0)
unfolding padded
padded_is zero [] k = refl
padded_is zero (x ∷ h) k = absurd (omega arith)
padded_is (suc n) [] k = ap (λ (l : List ℕ). 0 ∷ l) (padded_is n [] (omega arith))
padded_is (suc n) (x ∷ h) k = ap (λ (l : List ℕ). x ∷ l) (padded_is n h (omega arith))

module _ (old more : List ℕ) (count at kept : ℕ) (long : length old ≡ 81) (place : at ≡ min count 81) (most : kept ≡ min (length more) (81 - at)) where
  front-size : length (take at old) ≡ at
  front-size = length-take-le at old (omega arith)

  back-size : length (take kept more) ≡ kept
  back-size = length-take-le kept more (omega arith)

  -- what is kept of the line so far
  kept-is : take 81 (take count old ++ more) ≡ take at old ++ take kept more
  kept-is =
      let front : take count old ≡ take at old = sym (rw (place, ← long) (take_min count old)) in
      let most' : kept ≡ min (81 - at) (length more) = omega arith in
      let back : take (81 - at) more ≡ take kept more = sym (ap (λ (n : ℕ). take n more) most' ∙ take_min (81 - at) more) in
      ap (λ (l : List ℕ). take 81 (l ++ more)) front
      ∙ take-onto (take at old) more 81 (omega (arith, front-size))
      ∙ ap (λ (n : ℕ). take at old ++ take (81 - n) more) front-size
      ∙ ap (λ (l : List ℕ). take at old ++ l) back

  kept-size : length (take at old ++ take kept more) ≡ at + kept
  kept-size = rw length-append (omega (arith, front-size, back-size))

  -- zeros are put behind what was held, and the bytes over them
  module _ (zeros : List ℕ) (z : zeros ≡ replicate (81 - at) 0) where
    begun-is : take at old ++ (zeros ++ drop (81 - at) (drop at old)) ≡ take at old ++ drop at (replicate 81 0)
    begun-is =
        let none : drop (81 - at) (drop at old) ≡ [] = drop_all (81 - at) (drop at old) (omega (arith, length-drop at old)) in
        rw (z, none, append-nil, drop-replicate {X = ℕ} at 81 0)

    line-is : put_mid at (at + kept - at) (take at old ++ (zeros ++ drop (81 - at) (drop at old))) (take kept more)
        ≡ padded 81 (take 81 (take count old ++ more))
    line-is =
        let behind : List ℕ = drop at (replicate 81 0) in
        let width : at + kept - at ≡ kept = omega arith in
        ap (λ (l : List ℕ). put_mid at (at + kept - at) l (take kept more)) begun-is
        ∙ (λ j. take_at (take at old) behind at front-size j ++ (take kept more ++ drop (width j) (drop_at (take at old) behind at front-size j)))
        ∙ ap (λ (l : List ℕ). take at old ++ (take kept more ++ l)) (drop-drop kept at (replicate 81 0))
        ∙ sym (append_assoc (take at old) (take kept more) (drop (at + kept) (replicate 81 0)))
        ∙ ap (λ (n : ℕ). (take at old ++ take kept more) ++ drop n (replicate 81 0)) (sym kept-size)
        ∙ sym (padded_is 81 (take at old ++ take kept more) (omega (arith, kept-size)))
        ∙ ap (padded 81) (sym kept-is)

    pub holds : (standing : Option Suite) (back : List ℕ) → back ≡ take kept more
        → record { standing = standing; line = put_mid at (at + kept - at) (take at old ++ (zeros ++ drop (81 - at) (drop at old))) back; held = at + kept }
        ≡ session_of standing (take 81 (take count old ++ more))
    holds standing back b =
        let n : at + kept ≡ length (take 81 (take count old ++ more)) = sym (ap length kept-is ∙ kept-size) in
        ap (λ (l : List ℕ). record { standing = standing; line = put_mid at (at + kept - at) (take at old ++ (zeros ++ drop (81 - at) (drop at old))) l; held = at + kept }) b
        ∙ (λ j. record { standing = standing; line = line-is j; held = n j })
