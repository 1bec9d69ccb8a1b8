-- The rules paper, "Suite image": the reader goes in field order and its first fault decides.
use Rattle.std.specs.Prelude as prelude
use Rattle.std.specs.Prelude.{Option, Some, None, Ok, Err, List, [], ◌∷◌, ◌++◌, Bool, true, false, cond, ◌&&◌, ℕ, zero, suc, ◌+◌, ◌-◌, length, drop, replicate, leb, ltb, eqb}
use Rattle.fields.specs.Bits.{bits_of}
use Rattle.fields.specs.Field.{read_of}
use Rattle.member.specs.Limits.{slots}
use Rattle.member.specs.Tile.{none, fresh_tile}
use Rattle.member.specs.Change.{row_with}
use Rattle.member.specs.declared.Row.{Row}
use Rattle.member.specs.declared.Member.{Member}
use Rattle.suite.specs.Sets.{total, all}
use Rattle.suite.specs.Suite.{quorum}
use Rattle.suite.specs.Outcome.{Outcome, answered, refused, number_of}
use Rattle.suite.specs.Calls.{Result}
use Rattle.suite.specs.Create.{fresh_suite, blank}
use Rattle.suite.specs.declared.Suite.{Suite}
use Rattle.suite.specs.declared.Refusal.{Refusal}
use Rattle.suite.specs.declared.Suite.{Suite}
use Rattle.image.specs.Layout.{edition, name_width}

-- what was read, and the bit at which the next field starts; or the number of the first fault
pub data Taken (A : Type 0) : Type 0 where
  took : A → ℕ → Taken A
  fault : ℕ → Taken A

-- the field of w bits at a bit of the image. 15: the image ends inside or before a field it must have.
unfoldable pub field : List ℕ → ℕ → ℕ → Taken ℕ
field image w at = given (read_of image at w)
  where
    given : Option ℕ → Taken ℕ
    given (Some v) = took v (at + w)
    given None = fault 15

-- what follows is read from there on, unless there was a fault
unfoldable pub then : {A B : Type 0} → Taken A → (A → ℕ → Taken B) → Taken B
then (took a at) f = f a at
then (fault n) f = fault n

-- what was read has to pass a test; n is the fault where it does not
unfoldable pub judged : {A : Type 0} → Bool → ℕ → Taken A → Taken A
judged true n t = t
judged false n t = fault n

-- k things one after another. Each is read with a number that the one before it gives, the first with x.
unfoldable pub several : {A : Type 0} → (ℕ → ℕ → Taken A) → (A → ℕ) → ℕ → ℕ → ℕ → Taken (List A)
several read next zero x at = took [] at
several read next (suc k) x at =
    then (read x at) (λ a at'. then (several read next k (next a) at') (λ l at''. took (a ∷ l) at''))

-- k things of which none depends on the one before
unfoldable pub each : {A : Type 0} → (ℕ → Taken A) → ℕ → ℕ → Taken (List A)
each read k at = several (λ x. read) (λ a. 0) k 0 at

-- An entry, whose name is x or greater. 17: a name not above the one before, or a version of 0.
unfoldable pub read_row : List ℕ → ℕ → ℕ → ℕ → Taken Row
read_row image w x at =
    then (field image w at)
    (λ name at₁. judged (leb x name) 17
    (then (field image 24 at₁)
    (λ version at₂. judged (leb 1 version) 17
    (then (field image 16 at₂)
    (λ value at₃.
    then (field image 24 at₃) (λ gap at₄. took (row_with name version value gap) at₄))))))

-- a member of these entries; an unused place holds zero
abbrev pub tile_with : ℕ → List Row → Member
tile_with low rows =
    record { low = low; count = length rows; rows = rows ++ replicate (slots - length rows) none }

abbrev pub above : Row → ℕ
above r = r.name + 1

-- count entries, ascending
unfoldable pub read_rows : List ℕ → ℕ → ℕ → ℕ → ℕ → Taken Member
read_rows image w count low at =
    then (several (read_row image w) above count 0 at) (λ rows at₁. took (tile_with low rows) at₁)

-- A member. 17: over 32 entries.
unfoldable pub read_member : List ℕ → ℕ → ℕ → Taken Member
read_member image w at =
    then (field image 6 at)
    (λ count at₁. judged (leb count slots) 17
    (then (field image 24 at₁) (λ low at₂. read_rows image w count low at₂)))

-- a suite with these members; the places of the others hold zero
abbrev pub with_members : Suite → List Member → Suite
with_members s members =
    record {
      members = members ++ replicate (8 - length members) fresh_tile;
      votes = s.votes;
      read = s.read;
      write = s.write;
      count = s.count;
    }

-- as many members as the suite has
unfoldable pub read_members : List ℕ → ℕ → Suite → ℕ → Taken Suite
read_members image w s at =
    then (each (read_member image w) s.count at) (λ members at₁. took (with_members s members) at₁)

-- n votes, and the members. 17: R, W and V, judged after the last vote. The suite is as it was created, but for its members.
unfoldable pub read_voted : List ℕ → ℕ → ℕ → ℕ → ℕ → ℕ → Taken Suite
read_voted image w n r u at =
    then (each (field image 4) n at)
    (λ votes at₁. judged (quorum r u (total votes)) 17 (read_members image w (fresh_suite r u votes) at₁))

-- A suite. 16: the edition isn't 1.
unfoldable pub read_suite : List ℕ → ℕ → ℕ → Taken Suite
read_suite image w at =
    then (field image 4 at)
    (λ number at₁. judged (eqb number edition) 16
    (then (field image 3 at₁)
    (λ less at₂.
    then (field image 7 at₂)
    (λ r at₃. then (field image 7 at₃) (λ u at₄. read_voted image w (less + 1) r u at₄)))))

-- Zero bits fill the last byte: what is left past the last field is fewer bits than a byte, all of them 0.
abbrev pub unset : ℕ → Bool
unset b = eqb b 0

unfoldable pub only_padding : List ℕ → Bool
only_padding l = ltb (length l) 8 && all unset l

abbrev pub loaded : Suite → Result
loaded s = record { outcome = answered []; suite = s }

abbrev pub not_loaded : ℕ → Result
not_loaded n = record { outcome = refused n; suite = blank }

-- 18: a padding bit is set, or bytes follow
unfoldable pub ended : List ℕ → Taken Suite → Result
ended image (took s at) = cond (only_padding (drop at (bits_of image))) (loaded s) (not_loaded 18)
ended image (fault n) = not_loaded n

-- the suite that an image holds, or the refusal
unfoldable pub read_image : List ℕ → Result
read_image image = ended image (read_suite image name_width 0)

abbrev pub loading_of : prelude.Result Unit Refusal → Outcome
loading_of (Ok u) = answered []
loading_of (Err r) = refused (number_of r)

-- Loading replaces the whole suite; a refusal leaves it as it was.
unfoldable pub load_of : List ℕ → Suite → Result
load_of image before = loads (read_image image).outcome (read_image image).suite
  where
    loads : Outcome → Suite → Result
    loads (answered vs) s = record { outcome = answered vs; suite = s }
    loads (refused n) s = record { outcome = refused n; suite = before }

-- what loading answers, with the suite that the directory holds afterwards
abbrev pub loaded_in : prelude.Result Unit Refusal → Suite → Result
loaded_in r d = record { outcome = loading_of r; suite = d }
