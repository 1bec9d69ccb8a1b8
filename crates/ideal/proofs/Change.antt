-- Every change keeps the invariant: the theorem.
use Rattle.std.specs.Prelude.{ℕ, suc, ◌≤◌, ◌<◌, ◌≡◌, ◌↔◌, Bool}
use Rattle.std.proofs.Common.{sym, ap, subst, ◌∙◌, inl, inr, eqb-true, eq-eqb, arith, le_trans}
use Rattle.ideal.specs.Tiles.{version, IsGap, Tile, TileRules}
use Rattle.ideal.specs.Votes.{In, Voting, Writes, weight_mono}
use Rattle.ideal.specs.Invariant.{Current, current, Inv}
use Rattle.ideal.specs.Change.{Kept, Moved, Shown, MovedAlike, ShownAlike, Change}

module _ {q : Voting} {hi : ℕ} {w : ℕ → Bool} {M : ℕ → Tile} {A : Tile} {M' : ℕ → Tile} {A' : Tile} where
  behind-after : Inv q hi M A → Change q.members hi w M A M' A' → (i z : ℕ) → i < q.members → z ≤ hi →
      version (M' i z) ≤ version (A' z)
  behind-after v c i z m l = go (c.member i z m l) (c.cell z l)
    where
      go : Shown A' (M i) (M' i) z → Moved A A' z → version (M' i z) ≤ version (A' z)
      go (inl e) k = omega (arith, ap version e)
      go (inr e) (inl k) = omega (arith, ap version e, ap version k, v.behind i z m l)
      go (inr e) (inr k) = omega (arith, ap version e, v.behind i z m l)

  same_after : Inv q hi M A → Change q.members hi w M A M' A' → (i z : ℕ) → i < q.members → z ≤ hi → Current M' A' z i →
      M' i z ≡ A' z
  same_after v c i z m l h = go (c.member i z m l) (c.cell z l)
    where
      go : Shown A' (M i) (M' i) z → Moved A A' z → M' i z ≡ A' z
      go (inl e) k = e
      go (inr e) (inl k) = e ∙ (v.same i z m l (omega (arith, ap version e, ap version k)) ∙ sym k)
      go (inr e) (inr k) = absurd (omega (arith, ap version e, v.behind i z m l))

  known-after : Inv q hi M A → Writes q w → Change q.members hi w M A M' A' → (z : ℕ) → z ≤ hi → Writes q (current M' A' z)
  known-after v enough c z l = go (c.cell z l)
    where
      still : Kept A A' z → (i : ℕ) → i < q.members → In (current M A z) i → In (current M' A' z) i
      still k i m h = eq-eqb (version (M' i z)) (version (A' z)) (on (c.member i z m l))
        where
          on : Shown A' (M i) (M' i) z → Current M' A' z i
          on (inl e) = ap version e
          on (inr e) = omega (arith, ap version e, ap version k, eqb-true (version (M i z)) (version (A z)) h)

      go : Moved A A' z → Writes q (current M' A' z)
      go (inl k) = le_trans (v.known z l) (weight_mono q.votes (current M A z) (current M' A' z) q.members (still k))
      go (inr r) = le_trans enough (weight_mono q.votes w (current M' A' z) q.members (λ i m h. eq-eqb (version (M' i z)) (version (A' z)) (ap version (c.reaches i z m l h r))))

  through-after : Inv q hi M A → Change q.members hi w M A M' A' → (i z : ℕ) → i < q.members → z < hi → IsGap (A' z) →
      IsGap (A' (suc z)) → Current M' A' z i ↔ Current M' A' (suc z) i
  through-after v c i z m l g g' = go (c.alike i z m l g g') (c.cells z l g g')
    where
      go : ShownAlike A' (M i) (M' i) z → MovedAlike A A' z → Current M' A' z i ↔ Current M' A' (suc z) i
      go (inl e) k = (λ _. ap version e.1, λ _. ap version e.0)
      go (inr e) (inl k) =
          let before = v.through i z m l (subst IsGap k.0 g) (subst IsGap k.1 g') in
          let one = ap version e.0 in
          let two = ap version e.1 in
          let kone = ap version k.0 in
          let ktwo = ap version k.1 in
          (λ h. two ∙ (before.0 (sym one ∙ (h ∙ kone)) ∙ sym ktwo), λ h. one ∙ (before.1 (sym two ∙ (h ∙ ktwo)) ∙ sym kone))
      go (inr e) (inr k) = (
        λ h. absurd (omega (arith, ap version e.0, v.behind i z m (omega arith), k.0)),
        λ h. absurd (omega (arith, ap version e.1, v.behind i (suc z) m (omega arith), k.1)),
      )

  pub change : Inv q hi M A → Writes q w → Change q.members hi w M A M' A' →
      ((i : ℕ) → i < q.members → TileRules hi (M' i)) → TileRules hi A' → Inv q hi M' A'
  change v enough c rules ideal =
      record {
        rules = rules;
        ideal = ideal;
        behind = behind-after v c;
        same = same_after v c;
        known = known-after v enough c;
        through = through-after v c;
      }
