-- 81 bytes of a line are enough: a longer line is answered as its first 81 bytes are, since both are not understood.
use Rattle.std.specs.Prelude.{◌≡◌, refl, ℕ, ◌<◌, List, Bool, true, false, None, length, take, leb}
use Rattle.std.proofs.Common.{sym, ◌∙◌, arith, length-take, take_all, leb-true, leb-false}
use Rattle.text.specs.Line.{command_of, ballots_of}
use Rattle.line.specs.Standing.{Standing, answer_of}
use Rattle.line.specs.Laws.{long_command, long_ballots}
use Rattle.run.specs.Course.{most_held}

-- of a line only what it gives counts: its command, and what a `suite` line asks for
pub same_command : (s : Standing) (l m : List ℕ) → command_of l ≡ command_of m → ballots_of l ≡ ballots_of m → answer_of s l ≡ answer_of s m
unfolding answer_of
same_command s l m e f = rw (e, f)

-- "A line over 80 bytes is 14"
pub over_long : (l : List ℕ) → 80 < length l → command_of l ≡ None
over_long = long_command

-- two lines over 80 bytes have one answer
pub both_long : (s : Standing) (l m : List ℕ) → 80 < length l → 80 < length m → answer_of s l ≡ answer_of s m
both_long s l m h k =
    same_command s l m (over_long l h ∙ sym (over_long m k)) (long_ballots l h ∙ sym (long_ballots m k))

pub long_line : (s : Standing) (l : List ℕ) → answer_of s (take most_held l) ≡ answer_of s l
long_line s l = go (leb (length l) 81) refl
  where
    go : (t : Bool) → leb (length l) 81 ≡ t → answer_of s (take most_held l) ≡ answer_of s l
    go true t = rw (take_all 81 l (leb-true (length l) 81 t))
    go false t =
        let h : 81 < length l = leb-false (length l) 81 t in
        both_long s (take 81 l) l (omega (arith, length-take 81 l)) (omega arith)
