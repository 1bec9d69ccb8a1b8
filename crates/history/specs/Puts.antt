-- Insert and update keep the invariant.
use Rattle.std.specs.Prelude.{◌≡◌, ◌⊎◌, List, map, Bool, true, false, cond, ℕ, suc, ◌+◌, ◌≤◌, ◌<◌, length}
use Rattle.std.proofs.Common.{sym, ◌∙◌, inl, inr}
use Rattle.std.proofs.Math.Path.{ap, subst}
use native.Mathlib.Omega.{arith}
use Rattle.member.specs.Limits.{largest_name}
use Rattle.member.specs.Tile.{fresh_tile, reading_of}
use Rattle.member.specs.Change.{write_of, fits_write}
use Rattle.member.specs.Places.{place, hi_place, at_place, version, Shown}
use Rattle.member.specs.WriteLaws.{write_shows}
use Rattle.member.specs.declared.Member.{Member}
use Rattle.member.specs.declared.Reading.TheVariants.{Entry}
use Rattle.suite.specs.Sets.{chosen, changed, votes_of, all}
use Rattle.suite.specs.Suite.{tiles, ballots, with_tiles, sound_suite}
use Rattle.suite.specs.Calls.{Marked, picked, its_reading, version_of, newest}
use Rattle.suite.specs.Kept.{tiles_with, length-changed}
use Rattle.suite.specs.declared.Suite.{Suite}
use Rattle.ideal.specs.Invariant.{Inv}
use Rattle.ideal.specs.Region.{Patched, patched, patched_is, Written, Outside}
use Rattle.ideal.proofs.Calls.{enter}
use Rattle.ideal.specs.Forget.{present, value_at, is_entry, entry_here, entry_elsewhere}
use Rattle.ideal.specs.Forget as forget
use Rattle.history.specs.Directory.{Directory}
use Rattle.history.specs.Directory as plain
use Rattle.history.specs.DirectoryLaws.{same_or, Same, There}
use Rattle.history.specs.Asked.{named}
use Rattle.history.specs.NamedLaws.{changed_at, all_at}
use Rattle.history.specs.Members.{member_at, shown}
use Rattle.history.specs.Held.{Held, voting_in, version_is, writes, reads, newest-won}

-- f done to each member of the write set
abbrev pub after : Suite → (Member → Member) → ℕ → Suite
after s f ws = with_tiles s (changed f (tiles s) ws)

-- The theory's change, where f changes what each written member shows so.
pub written_by : {s : Suite} {d : Directory} (h : Held s d) (f : Member → Member) (ws lo up : ℕ) (N : Shown) →
    ((i : ℕ) → i < length (tiles s) → named ws i ≡ true → Patched hi_place lo up N (shown (tiles s) i) (at_place (f (member_at (tiles s) i)))) →
    Written (length (ballots s)) hi_place lo up N (named ws) (shown (tiles s)) (shown (changed f (tiles s) ws))
written_by {s} h f ws lo up N p = record { members = got; others = left }
  where
    is : (i : ℕ) → i < length (tiles s) → (t : Bool) → named ws i ≡ t →
        shown (changed f (tiles s) ws) i ≡ at_place (cond t (f (member_at (tiles s) i)) (member_at (tiles s) i))
    is i l t e = ap at_place (changed_at f fresh_tile (tiles s) ws i l) ∙ ap (λ t. at_place (cond t (f (member_at (tiles s) i)) (member_at (tiles s) i))) e

    got : (i : ℕ) → i < length (ballots s) → named ws i ≡ true → Patched hi_place lo up N (shown (tiles s) i) (shown (changed f (tiles s) ws) i)
    got i l e =
        let k : i < length (tiles s) = omega (arith, h.each) in
        subst (λ g. Patched hi_place lo up N (shown (tiles s) i) g) (sym (is i k true e)) (p i k e)

    left : (i : ℕ) → i < length (ballots s) → named ws i ≡ false → (z : ℕ) → z ≤ hi_place → shown (changed f (tiles s) ws) i z ≡ shown (tiles s) i z
    left i l e z b = let k : i < length (tiles s) = omega (arith, h.each) in ap (λ (g : Shown). g z) (is i k false e)

-- The invariant of the suite so changed, from the theory's.
pub held_after : {s : Suite} {d d' : Directory} (h : Held s d) (f : Member → Member) (ws : ℕ) → sound_suite (after s f ws) ≡ true →
    (A : Shown) → Inv (voting_in h) hi_place (shown (changed f (tiles s) ws)) A → ((n : ℕ) → n ≤ largest_name → present A n ≡ plain.present d' n) →
    ((n : ℕ) → n ≤ largest_name → value_at A n ≡ plain.value_of d' n) → Held (after s f ws) d'
held_after {s} h f ws sound A inv p v =
    let n = length-changed f (tiles s) ws in
    let t = tiles_with s (changed f (tiles s) ws) n in
    record {
      sound = sound;
      each = ap length t ∙ (n ∙ h.each);
      overlap = h.overlap;
      ideal = A;
      inv = subst (λ l. Inv (voting_in h) hi_place (shown l) A) (sym t) inv;
      presence = p;
      value = v;
    }

-- An entry of the next version, at a name, in each member of the write set.
module _ {s : Suite} {d : Directory} (h : Held s d) (rs ws x v : ℕ) (name : x ≤ largest_name) (r : s.read ≤ votes_of (ballots s) rs)
    (w : s.write ≤ votes_of (ballots s) ws) (l : List Marked) (are : picked its_reading l ≡ map (λ m. reading_of m x) (chosen (tiles s) rs))
    (fit : all (λ m. fits_write m x) (chosen (tiles s) ws) ≡ true) where
  g : ℕ
  g = version_of (newest l) + 1

  put : Member → Member
  put m = write_of m x g v

  A' : Shown
  A' = patched (place (suc x)) (place (suc x)) (λ _. Entry g v) h.ideal

  wrote : (i : ℕ) → i < length (tiles s) → named ws i ≡ true →
      Patched hi_place (place (suc x)) (place (suc x)) (λ _. Entry g v) (shown (tiles s) i) (at_place (put (member_at (tiles s) i)))
  unfolding put
  wrote i b e =
      let m = member_at (tiles s) i in
      let shows = write_shows m x g v name (all_at (λ m. fits_write m x) fresh_tile (tiles s) ws i fit b e) in
      record {
        inside = λ z k. let at : place (suc x) ≡ z = omega (arith, k.0, k.1) in subst (λ y. at_place (write_of m x g v) y ≡ Entry g v) at shows.here;
        outside = λ z k o. shows.elsewhere z (off z o);
      }
    where
      off : (z : ℕ) → Outside (place (suc x)) (place (suc x)) z → z ≡ place (suc x) → ⊥
      off z (inl a) e = omega arith
      off z (inr a) e = omega arith

  inv' : Inv (voting_in h) hi_place (shown (changed put (tiles s) ws)) A'
  unfolding A' g
  inv' =
      let c = newest-won h rs r x name l are in
      let above = version_is (newest l) ∙ ap version c.2 in
      enter h.inv (named rs) (reads h rs r) (writes h ws w) (suc x) (omega arith) (omega arith) c.0 c.1 (Entry g v) tt (omega (arith, above))
      (written_by h put ws (place (suc x)) (place (suc x)) (λ _. Entry g v) wrote)

  patch : Patched hi_place (place (suc x)) (place (suc x)) (λ _. Entry g v) h.ideal A'
  unfolding A'
  patch = patched_is hi_place (place (suc x)) (place (suc x)) (λ _. Entry g v) h.ideal

  -- what the new ideal tile says, for a directory that has x with v and is the same elsewhere
  module _ {d' : Directory} (there : There d' x v) (same : (n : ℕ) → (n ≡ x → ⊥) → Same d d' n) where
    here-is : A' (place (suc x)) ≡ Entry g v
    here-is = entry_here x patch

    presence' : (n : ℕ) → n ≤ largest_name → present A' n ≡ plain.present d' n
    presence' n b = go (same_or n x)
      where
        go : (n ≡ x) ⊎ (n ≡ x → ⊥) → present A' n ≡ plain.present d' n
        go (inl e) = subst (λ y. present A' y ≡ plain.present d' y) (sym e) (ap is_entry here-is ∙ sym there.presence)
        go (inr a) = (entry_elsewhere x n patch (omega arith) a).presence ∙ (h.presence n b ∙ sym (same n a).presence)

    value' : (n : ℕ) → n ≤ largest_name → value_at A' n ≡ plain.value_of d' n
    value' n b = go (same_or n x)
      where
        go : (n ≡ x) ⊎ (n ≡ x → ⊥) → value_at A' n ≡ plain.value_of d' n
        go (inl e) = subst (λ y. value_at A' y ≡ plain.value_of d' y) (sym e) (ap forget.value_of here-is ∙ sym there.value)
        go (inr a) = (entry_elsewhere x n patch (omega arith) a).value ∙ (h.value n b ∙ sym (same n a).value)

    pub put-held : sound_suite (after s (λ m. write_of m x (version_of (newest l) + 1) v) ws) ≡ true →
        Held (after s (λ m. write_of m x (version_of (newest l) + 1) v) ws) d'
    unfolding put g
    put-held sound = held_after h put ws sound A' inv' presence' value'
