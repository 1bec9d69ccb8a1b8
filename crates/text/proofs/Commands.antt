-- The words of the commands, in the order in which the code tries them. Assumes nothing.
use mathlib.Core.Path.{◌≡◌}
use Prim.Native.Nat.{ℕ}
use mathlib.Core.List.{List}
use mathlib.Core.Bool.{true, false}
use Rattle.std.specs.Prelude.{None}
use Rattle.std.specs.Option.{option_map}
use Rattle.text.specs.Words.{ascii, same}
use Rattle.text.specs.Line.{command_in, ballots_in, reading, changing, removing, creating, suite_asked}
use Rattle.text.specs.Scan.{change_in}
use Rattle.text.specs.declared.Command.TheVariants.{Look, Near, Insert, Update, Remove}

module _ (w : List ℕ) (ws : List (List ℕ)) where
  pub is-look : same w (ascii "look") ≡ true → command_in w ws ≡ reading Look ws
  unfolding command_in
  is-look a = rw a

  module _ (a : same w (ascii "look") ≡ false) where
    pub is-near : same w (ascii "near") ≡ true → command_in w ws ≡ reading Near ws
    unfolding command_in
    is-near b = rw (a, b)

    pub is-change : same w (ascii "near") ≡ false → command_in w ws ≡ change_in w ws
    unfolding command_in change_in
    is-change b = rw (a, b)

  pub is-insert : same w (ascii "ins") ≡ true → change_in w ws ≡ changing Insert ws
  unfolding change_in
  is-insert a = rw a

  module _ (a : same w (ascii "ins") ≡ false) where
    pub is-update : same w (ascii "upd") ≡ true → change_in w ws ≡ changing Update ws
    unfolding change_in
    is-update b = rw (a, b)

    module _ (b : same w (ascii "upd") ≡ false) where
      pub is-remove : same w (ascii "del") ≡ true → change_in w ws ≡ removing Remove ws
      unfolding change_in
      is-remove d = rw (a, b, d)

      module _ (d : same w (ascii "del") ≡ false) where
        pub is-suite : same w (ascii "suite") ≡ true → change_in w ws ≡ option_map suite_asked (creating ws)
        unfolding change_in
        is-suite e = rw (a, b, d, e)

        pub is-other : same w (ascii "suite") ≡ false → change_in w ws ≡ None
        unfolding change_in
        is-other e = rw (a, b, d, e)

  pub suite-word : same w (ascii "suite") ≡ true → ballots_in w ws ≡ creating ws
  unfolding ballots_in
  suite-word e = rw e

  pub other_word : same w (ascii "suite") ≡ false → ballots_in w ws ≡ None
  unfolding ballots_in
  other_word e = rw e
