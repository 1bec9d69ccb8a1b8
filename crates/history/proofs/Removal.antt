-- Remove keeps the invariant: coalescing between the neighbours found takes out one name.
use Rattle.std.specs.Prelude.{◌≡◌, ◌⊎◌, true, false, ℕ, suc, ◌+◌, max, ◌≤◌, ◌<◌, length}
use Rattle.std.proofs.Math.Path.{refl, sym, ap, subst, subst₂}
use Rattle.std.proofs.Common.{◌∙◌, inl, inr, arith}
use Rattle.member.specs.Limits.{largest_name, high}
use Rattle.member.specs.Tile.{fresh_tile}
use Rattle.member.specs.Change.{coalesce_of, fits_coalesce}
use Rattle.member.specs.Places.{place, hi_place, at_place, version, Shown, bound_reading}
use Rattle.member.specs.CoalesceLaws.{coalesce_shows}
use Rattle.member.specs.declared.Member.{Member}
use Rattle.member.specs.declared.Reading.{Reading}
use Rattle.member.specs.declared.Reading.TheVariants.{Entry, Gap}
use Rattle.suite.specs.Sets.{chosen, changed, votes_of, all}
use Rattle.suite.specs.Suite.{tiles, ballots, sound_suite}
use Rattle.suite.specs.Calls.{version_of}
use Rattle.suite.specs.declared.Suite.{Suite}
use Rattle.suite.specs.declared.rounds.Survey.{Survey}
use Rattle.ideal.specs.Invariant.{Inv}
use Rattle.ideal.specs.Region.{Patched, patched, patched_is}
use Rattle.ideal.specs.Remove.{joined, coalesced}
use Rattle.ideal.proofs.Calls.{delete}
use Rattle.ideal.specs.Forget.{is_entry, present, value_at, before, after, removed-here, removed-elsewhere}
use Rattle.ideal.specs.Forget as forget
use Rattle.history.specs.Directory.{Directory}
use Rattle.history.specs.Directory as plain
use Rattle.history.specs.DirectoryLaws.{same_or, remove_here, remove_other, no_value}
use Rattle.history.proofs.DirectoryLaws.{predecessor_is, successor_is}
use Rattle.history.specs.Asked.{named}
use Rattle.history.specs.NamedLaws.{all_at}
use Rattle.history.specs.Members.{member_at, shown}
use Rattle.history.specs.Held.{Held, voting_in, version_is, writes, reads}
use Rattle.history.specs.Puts.{written_by, held_after}
use Rattle.history.specs.Puts as puts
use Rattle.history.specs.Removal.{Surveyed}

-- The ends found are the plain directory's neighbours.
module _ {s : Suite} {d : Directory} (h : Held s d) (set x : ℕ) (name : x ≤ largest_name) (t : Survey) (f : Surveyed h set x t) where
  pub true-predecessor : plain.predecessor d x ≡ t.below.end
  true-predecessor =
      let b = before {A = h.ideal} x t.below.end f.low.found.end in
      predecessor_is d x t.below.end (omega (arith, b.under)) (λ n e. sym (h.presence n (omega (arith, b.under))) ∙ b.there n e)
      (λ m a k. sym (h.presence m (omega arith)) ∙ b.none m (omega arith) k)

  pub true-successor : plain.successor d x ≡ t.above.end
  true-successor =
      let a = after {A = h.ideal} x t.above.end f.up.found.end in
      let fits : t.above.end ≤ high = omega (arith, f.up.found.end.fits) in
      successor_is d x t.above.end a.over fits (λ n e l. sym (h.presence n l) ∙ a.there n e)
      (λ m k e. sym (h.presence m (omega arith)) ∙ a.none m k e)

absent_value : (r : Reading) → is_entry r ≡ false → forget.value_of r ≡ 0
absent_value (Entry v x) e = let z : ◌≡◌ {A = ℕ} 0 1 = cc in absurd (omega arith)
absent_value (Gap v) e = refl

module _ {s : Suite} {d : Directory} (h : Held s d) (rs ws x : ℕ) (name : x ≤ largest_name) (r : s.read ≤ votes_of (ballots s) rs)
    (w : s.write ≤ votes_of (ballots s) ws) (t : Survey) (f : Surveyed h rs x t)
    (fit : all (λ m. fits_coalesce m t.below.end t.above.end) (chosen (tiles s) ws) ≡ true) where
  p : ℕ
  p = place t.below.end

  n : ℕ
  n = place t.above.end

  g : ℕ
  g = max (version_of t.reading) (max t.lower t.upper) + 1

  join : Member → Member
  join m = coalesce_of m t.below t.above g

  N : Shown
  N = joined p n (bound_reading t.below) (bound_reading t.above) g

  A' : Shown
  A' = patched p n N h.ideal

  apart : t.below.end < t.above.end
  apart = omega (arith, f.low.found.end.under, f.up.found.end.over)

  wrote : (i : ℕ) → i < length (tiles s) → named ws i ≡ true → Patched hi_place p n N (shown (tiles s) i) (at_place (join (member_at (tiles s) i)))
  unfolding join N p n
  wrote i b e =
      let m = member_at (tiles s) i in
      let fits = all_at (λ m. fits_coalesce m t.below.end t.above.end) fresh_tile (tiles s) ws i fit b e in
      let shows = coalesce_shows m t.below t.above g apart (omega (arith, f.up.found.end.fits)) f.low.plain f.up.plain fits in
      coalesced (place t.below.end) (place t.above.end) (bound_reading t.below) (bound_reading t.above) g (at_place m) (at_place (coalesce_of m t.below t.above g))
      (omega (arith, apart)) shows.lower shows.upper shows.between (λ z l o. shows.outside z o)

  inv' : Inv (voting_in h) hi_place (shown (changed join (tiles s) ws)) A'
  unfolding A' N p n g
  inv' =
      let here = version_is t.reading ∙ ap version f.reading in
      delete h.inv (named rs) (reads h rs r) (writes h ws w) (omega arith) f.low.found f.up.found f.winner f.best
      (omega (arith, here)) (omega arith) (omega arith) (written_by h join ws p n N wrote)

  patch : Patched hi_place p n (joined p n (h.ideal p) (h.ideal n) g) h.ideal A'
  unfolding A' N p n
  patch =
      subst₂ (λ a b. Patched hi_place p n (joined p n a b g) h.ideal A') f.low.found.reading f.up.found.reading
      (patched_is hi_place p n N h.ideal)

  gone : present A' x ≡ false
  unfolding p n
  gone = removed-here g f.low.found.end f.up.found.end patch x refl

  presence' : (m : ℕ) → m ≤ largest_name → present A' m ≡ plain.present (plain.remove d x) m
  unfolding p n
  presence' m b = go (same_or m x)
    where
      go : (m ≡ x) ⊎ (m ≡ x → ⊥) → present A' m ≡ plain.present (plain.remove d x) m
      go (inl e) = subst (λ y. present A' y ≡ plain.present (plain.remove d x) y) (sym e) (gone ∙ sym (remove_here d x))
      go (inr a) = (removed-elsewhere g f.low.found.end f.up.found.end patch x m refl (omega arith) a).presence ∙ (h.presence m b ∙ sym (remove_other d x m a).presence)

  value' : (m : ℕ) → m ≤ largest_name → value_at A' m ≡ plain.value_of (plain.remove d x) m
  unfolding p n
  value' m b = go (same_or m x)
    where
      go : (m ≡ x) ⊎ (m ≡ x → ⊥) → value_at A' m ≡ plain.value_of (plain.remove d x) m
      go (inl e) =
          subst (λ y. value_at A' y ≡ plain.value_of (plain.remove d x) y) (sym e)
          (absent_value (A' (place (suc x))) gone ∙ sym (no_value (plain.remove d x) x (remove_here d x)))
      go (inr a) = (removed-elsewhere g f.low.found.end f.up.found.end patch x m refl (omega arith) a).value ∙ (h.value m b ∙ sym (remove_other d x m a).value)

  pub removal-held : sound_suite (puts.after s (λ m. coalesce_of m t.below t.above (max (version_of t.reading) (max t.lower t.upper) + 1)) ws) ≡ true →
      Held (puts.after s (λ m. coalesce_of m t.below t.above (max (version_of t.reading) (max t.lower t.upper) + 1)) ws) (plain.remove d x)
  unfolding join g
  removal-held sound = held_after h join ws sound A' inv' presence' value'
