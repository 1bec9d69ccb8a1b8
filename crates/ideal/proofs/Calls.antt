-- The calls that change the directory, from what they read to what they write, in the members' own readings.
use Rattle.std.specs.Prelude.{ℕ, suc, ◌<◌, ◌≡◌, Bool}
use Rattle.std.proofs.Common.{sym, ap, subst₂, arith}
use Rattle.member.specs.declared.Reading.{Reading}
use Rattle.ideal.specs.Places.{place}
use Rattle.ideal.specs.Tiles.{version, IsEntry, Tile}
use Rattle.ideal.specs.Votes.{In, Voting, Reads, Writes}
use Rattle.ideal.specs.Best.{Best}
use Rattle.ideal.specs.Invariant.{Inv}
use Rattle.ideal.proofs.Lookup.{lookup}
use Rattle.ideal.specs.Region.{Written, patched, patched_is}
use Rattle.ideal.proofs.Insert.{written_entry}
use Rattle.ideal.specs.Ends.{LowerEnd, UpperEnd}
use Rattle.ideal.specs.Neighbours.{Found}
use Rattle.ideal.specs.Remove.{joined}
use Rattle.ideal.proofs.Remove.{removed}

module _ {q : Voting} {hi : ℕ} {M : ℕ → Tile} {A : Tile} (inv : Inv q hi M A) (read : ℕ → Bool) (r : Reads q read)
    {w : ℕ → Bool} (enough : Writes q w) {M' : ℕ → Tile} where
  -- Insert and update at the end e of a name: h is the member whose reading lookup takes, and `entry` is newer.
  pub enter : (e : ℕ) → 0 < e → place e < hi → (h : ℕ) → Best (λ m. version (M m (place e))) (In read) q.members h →
      (entry : Reading) → IsEntry entry → version (M h (place e)) < version entry →
      Written q.members hi (place e) (place e) (λ _. entry) w M M' → Inv q hi M' (patched (place e) (place e) (λ _. entry) A)
  enter e low high h best entry is newer written =
      let shown = lookup inv read r (place e) (omega arith) best in
      written_entry inv enough e entry low high is (omega (arith, ap version shown)) written (patched_is hi (place e) (place e) (λ _. entry) A)

  -- Remove at x, between the spaces b and suc x: v and u are the gap versions found, lp and us the readings found at p and s,
  -- h is the member whose reading at x counts, and the new gap's version g is above all three.
  pub delete : {b x v u p s g : ℕ} {lp us : Reading} → x ≡ suc b → Found A b (λ f. LowerEnd f x) v p lp →
      Found A (suc x) (λ f. UpperEnd hi f x) u s us → (h : ℕ) → Best (λ m. version (M m x)) (In read) q.members h →
      version (M h x) < g → v < g → u < g → Written q.members hi p s (joined p s lp us g) w M M' →
      Inv q hi M' (patched p s (joined p s lp us g) A)
  delete {b} {x} {v} {u} {p} {s} {g} {lp} {us} e low up h best here under over =
      subst₂ (λ a c. Written q.members hi p s (joined p s a c g) w M M' → Inv q hi M' (patched p s (joined p s a c g) A)) (sym low.reading) (sym up.reading) done
    where
      done : Written q.members hi p s (joined p s (A p) (A s) g) w M M' → Inv q hi M' (patched p s (joined p s (A p) (A s) g) A)
      done written =
          let shown = lookup inv read r x (omega (arith, up.end.over, up.end.fits)) best in
          removed inv enough e low.end up.end (omega (arith, ap version shown)) (omega (arith, low.gap)) (omega (arith, up.gap)) written (patched_is hi p s (joined p s (A p) (A s) g) A)
