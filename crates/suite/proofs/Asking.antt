-- The loops over a set: the table of answers filled, and the members changed, place by place.
use mathlib.Core.Path.{◌≡◌, refl, sym, ap, ◌∙◌}
use mathlib.Core.List.{List, ◌∷◌, ◌++◌}
use Prim.Native.Nat.{ℕ, ◌+◌, ◌-◌, ◌/◌, ◌%◌, ◌≤◌, ◌<◌}
use native.Mathlib.Omega.{arith}
use lib.ListN.{length, take, drop, get_or, set, replicate, length-take, length-drop, length-replicate, get_or-replicate, drop_of_length-le}
use lib.Seq.{get_or-drop, ext_get_or}
use Rattle.std.proofs.lemmas.List.{get_or_default, take_min, drop_min}
use Rattle.member.proofs.Shift.{over-above}
use Rattle.member.specs.declared.Member.{Member}
use Rattle.suite.specs.Sets.{changed}
use Rattle.suite.specs.Kept.{length-changed}
use Rattle.suite.specs.Rows.{tabled, table_of, no_row}
use Rattle.suite.proofs.Filling.{over-next, over-rest, over-same, over_end, tabled-named, tabled-passed, tabled_past, changed-named, changed-passed, changed_past}

abbrev empty : List (List ℕ)
empty = replicate 8 no_row

drop-replicate : {A : Type 0} (n i : ℕ) (a : A) → drop i (replicate n a) ≡ replicate (n - i) a
drop-replicate n i a = ext_get_or a (drop i (replicate n a)) (replicate (n - i) a)
    (length-drop i (replicate n a) ∙ ap (λ m. m - i) (length-replicate n a) ∙ sym (length-replicate (n - i) a))
    (λ j b.
    let c : i + j < n = omega (arith, length-drop i (replicate n a), length-replicate n a) in
    get_or-drop i (replicate n a) j a ∙ get_or-replicate n (i + j) a a c
    ∙ sym (get_or-replicate (n - i) j a a (omega arith)))

-- a count past the end of a list counts all of it
module _ {A : Type 0} (k n : ℕ) (l : List A) (e : n ≡ length (take k l)) where
  pub counted : take n l ≡ take k l
  counted = ap (λ m. take m l) (e ∙ length-take k l) ∙ take_min k l

  pub uncounted : drop n l ≡ drop k l
  uncounted = ap (λ m. drop m l) (e ∙ length-take k l) ∙ drop_min k l

-- up to place i the table has the answers; those of the members from there on are still to come
pub record Asked (f : Member → List ℕ) (ms : List Member) (names : ℕ) (table : List (List ℕ)) (left i : ℕ) : Type 0 where
  pub done : table ≡ take i (table_of f ms names) ++ drop i empty
  pub rest : drop i (table_of f ms names) ≡ tabled f (drop i ms) left ++ replicate (8 - length ms) no_row

module _ (f : Member → List ℕ) (ms : List Member) (names : ℕ) where
  pub asked-start : Asked f ms names empty names 0
  asked-start = record { done = refl; rest = refl }

  module _ (table : List (List ℕ)) (left i : ℕ) (h : i < length ms) (k : i < 8) (inv : Asked f ms names table left i) (table' : List (List ℕ)) where
    abbrev t : List (List ℕ)
    t = table_of f ms names

    abbrev pad : List (List ℕ)
    pad = replicate (8 - length ms) no_row

    pub asked-named : (d : Member) (row : List ℕ) → left % 2 ≡ 1 → row ≡ f (get_or ms i d) → table' ≡ set table i row
        → Asked f ms names table' (left / 2) (i + 1)
    asked-named d row e r q =
        let more = tabled f (drop (i + 1) ms) (left / 2) ++ pad in
        let n : drop i t ≡ row ∷ more =
        inv.rest ∙ ap (λ l. l ++ pad) (tabled-named f ms i d left h e) ∙ ap (λ x. x ∷ more) (sym r) in
        record {
          done = q ∙ ap (λ l. set l i row) inv.done ∙ over-next t empty i row more k n;
          rest = over-rest t empty i row more k n;
        }

    empty-at : (j : ℕ) → j < 8 → get_or empty j no_row ≡ no_row
    empty-at j b = get_or-replicate 8 j no_row no_row b

    pub asked-passed : (d : Member) → (left % 2 ≡ 1 → ⊥) → table' ≡ table → Asked f ms names table' (left / 2) (i + 1)
    asked-passed d e q =
        let more = tabled f (drop (i + 1) ms) (left / 2) ++ pad in
        let n : drop i t ≡ no_row ∷ more = inv.rest ∙ ap (λ l. l ++ pad) (tabled-passed f ms i d left h e) in
        record {
          done = q ∙ inv.done ∙ over-same t empty i no_row more k n (empty-at i k);
          rest = over-rest t empty i no_row more k n;
        }

  pub asked-end : (table : List (List ℕ)) (left i : ℕ) → i ≡ length ms → Asked f ms names table left i → table ≡ table_of f ms names
  asked-end table left i e inv =
      let t = table_of f ms names in
      let n : drop i t ≡ drop i empty =
      inv.rest ∙ ap (λ l. l ++ replicate (8 - length ms) no_row) (tabled_past f ms i left (omega arith))
      ∙ ap (λ m. replicate (8 - m) no_row) (sym e) ∙ sym (drop-replicate 8 i no_row) in
      inv.done ∙ over_end t empty i n

-- up to place i the members are changed; those from there on are still to come
pub record Done (g : Member → Member) (ms : List Member) (names : ℕ) (now : List Member) (left i : ℕ) : Type 0 where
  pub done : now ≡ take i (changed g ms names) ++ drop i ms
  pub rest : drop i (changed g ms names) ≡ changed g (drop i ms) left

module _ (g : Member → Member) (ms : List Member) (names : ℕ) where
  pub done-start : Done g ms names ms names 0
  done-start = record { done = refl; rest = refl }

  module _ (now : List Member) (left i : ℕ) (h : i < length ms) (inv : Done g ms names now left i) (now' : List Member) where
    abbrev c : List Member
    c = changed g ms names

    -- the member in place i is still as it was
    still : (d : Member) → get_or now i d ≡ get_or ms i d
    still d =
        let b : i ≤ length c = omega (arith, length-changed g ms names) in
        ap (λ (l : List Member). get_or l i d) inv.done ∙ over-above c ms i i d b (omega arith)

    pub done-named : (d m : Member) → left % 2 ≡ 1 → m ≡ g (get_or now i d) → now' ≡ set now i m → Done g ms names now' (left / 2) (i + 1)
    done-named d m e r q =
        let more = changed g (drop (i + 1) ms) (left / 2) in
        let v : m ≡ g (get_or ms i d) = r ∙ ap g (still d) in
        let n : drop i c ≡ m ∷ more = inv.rest ∙ changed-named g ms i d left h e ∙ ap (λ x. x ∷ more) (sym v) in
        record {
          done = q ∙ ap (λ l. set l i m) inv.done ∙ over-next c ms i m more h n;
          rest = over-rest c ms i m more h n;
        }

    pub done-passed : (d : Member) → (left % 2 ≡ 1 → ⊥) → now' ≡ now → Done g ms names now' (left / 2) (i + 1)
    done-passed d e q =
        let more = changed g (drop (i + 1) ms) (left / 2) in
        let a = get_or ms i d in
        let n : drop i c ≡ a ∷ more = inv.rest ∙ changed-passed g ms i d left h e in
        record {
          done = q ∙ inv.done ∙ over-same c ms i a more h n (get_or_default ms i a d h);
          rest = over-rest c ms i a more h n;
        }

  pub done_end : (now : List Member) (left i : ℕ) → i ≡ length ms → Done g ms names now left i → now ≡ changed g ms names
  done_end now left i e inv =
      let n : drop i (changed g ms names) ≡ drop i ms =
      inv.rest ∙ changed_past g ms i left (omega arith) ∙ sym (drop_of_length-le ms {i = i} (omega arith)) in
      inv.done ∙ over_end (changed g ms names) ms i n
