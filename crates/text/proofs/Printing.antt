-- An answer goes to its place whole, or not at all. Assumes nothing.
use mathlib.Core.Path.{◌≡◌, sym, ◌∙◌}
use Prim.Native.Nat.{ℕ, ◌+◌, ◌≤◌, ◌<◌}
use native.Mathlib.Omega.{arith}
use mathlib.Core.List.{List}
use lib.ListN.{length, take-append-drop}
use borrow.Author.Tests.{le-leb, lt-leb}
use Rattle.text.specs.Answer.{text_of, fits_at, place_after, printed, Written}
use Rattle.text.specs.declared.Reply.{Reply}

module _ (reply : Reply) (out : List ℕ) (at : ℕ) {size : ℕ} (e : size ≡ length (text_of reply)) where
  pub no_room : length out < at + size
      → (at ≡ place_after (length out) at (text_of reply)) × (out ≡ printed out at (text_of reply))
  unfolding place_after printed fits_at
  no_room h =
      let t = lt-leb (at + length (text_of reply)) (length out) (omega arith) in
      (rw t, rw t)

  pub fits : at + size ≤ length out → {new : List ℕ} {from : ℕ} → Written out (at + size) new from (text_of reply)
      → (at + size ≡ place_after (length out) at (text_of reply)) × (new ≡ printed out at (text_of reply))
  unfolding place_after printed fits_at
  fits h {new} {from} w =
      let t = le-leb (at + length (text_of reply)) (length out) (omega arith) in
      let p : from ≡ at = omega (arith, w.place) in
      (rw (t, e), rw t (sym (take-append-drop from new) ∙ (rw (w.front, w.bytes, p, e))))
