-- What holds of a call that is accepted: none of the refusals' conditions.
use Rattle.std.specs.Prelude.{◌≡◌, refl, List, [], ◌∷◌, Bool, true, false, cond, ◌&&◌, ℕ, ◌+◌, ◌≤◌, length, ltb, eqb}
use Rattle.std.proofs.Common.{sym, ◌∙◌, arith, length-take, ltb-false, le-ltb, eqb-true}
use Rattle.std.proofs.Math.Bool.{and-eq-true_iff}
use Rattle.member.specs.Limits.{largest_name, largest_value, largest_version}
use Rattle.member.specs.declared.Reading.{Reading}
use Rattle.member.specs.declared.Reading.TheVariants.{Entry, Gap}
use Rattle.suite.specs.Sets.{exists, votes_of}
use Rattle.suite.specs.Suite.{tiles, ballots}
use Rattle.suite.specs.Outcome.{Outcome, answered, refused, reading_values}
use Rattle.suite.specs.OutcomeLaws.{not_both}
use Rattle.suite.specs.Calls.{Call, lookup, insert, update, remove, neighbours, Marked, version_of, newest, removal, predecessor, successor, all_fit, judged_votes, judged, passed, granted, settle_insert, settle_update, settle_remove, settle, answers, write_set}
use Rattle.suite.specs.Agree.{settled}
use Rattle.suite.specs.Requests.{read_set, requests_of, answers-length}
use Rattle.suite.specs.declared.Suite.{Suite}

-- none of the refusals 5 to 9
pub record Fine (votes : List ℕ) (r w x v rs ws : ℕ) : Type 0 where
  pub name : x ≤ largest_name
  pub value : v ≤ largest_value
  pub reads : exists votes rs ≡ true
  pub writes : exists votes ws ≡ true
  pub read-votes : r ≤ votes_of votes rs
  pub write-votes : w ≤ votes_of votes ws

abbrev first_of : Bool → Bool → Bool → Bool → Bool → ℕ
first_of a b c d e = cond a 5 (cond b 6 (cond c (cond d 8 (cond e 9 0)) 7))

tests : (a b c d e : Bool) → first_of a b c d e ≡ 0
    → (a ≡ false) × (b ≡ false) × (c ≡ true) × (d ≡ false) × (e ≡ false)
tests true b c d e h = absurd (omega arith)
tests false true c d e h = absurd (omega arith)
tests false false false d e h = absurd (omega arith)
tests false false true true e h = absurd (omega arith)
tests false false true false true h = absurd (omega arith)
tests false false true false false h = (refl, refl, refl, refl, refl)

pub judged_fine : (votes : List ℕ) (r w x v rs ws : ℕ) → judged votes r w x v rs ws ≡ 0 → Fine votes r w x v rs ws
unfolding judged judged_votes
judged_fine votes r w x v rs ws h =
    let a = ltb largest_name x in
    let b = ltb largest_value v in
    let p = exists votes rs in
    let q = exists votes ws in
    let d = ltb (votes_of votes rs) r in
    let e = ltb (votes_of votes ws) w in
    let t = tests a b (p && q) d e h in
    let k = (and-eq-true_iff p q).0 t.2 in
    record {
      name = ltb-false largest_name x t.0;
      value = ltb-false largest_value v t.1;
      reads = k.0;
      writes = k.1;
      read-votes = ltb-false (votes_of votes rs) r t.3;
      write-votes = ltb-false (votes_of votes ws) w t.4;
    }

pub fine_judged : (votes : List ℕ) (r w x v rs ws : ℕ) → Fine votes r w x v rs ws → judged votes r w x v rs ws ≡ 0
unfolding judged judged_votes
fine_judged votes r w x v rs ws f =
    rw (
      le-ltb largest_name x f.name,
      le-ltb largest_value v f.value,
      f.reads,
      f.writes,
      le-ltb (votes_of votes rs) r f.read-votes,
      le-ltb (votes_of votes ws) w f.write-votes,
    )

passed_parts : (n : ℕ) (o : Outcome) (vs : List ℕ) → passed n o ≡ answered vs → (n ≡ 0) × (o ≡ answered vs)
passed_parts n o vs = go (eqb n 0) refl
  where
    go : (b : Bool) → eqb n 0 ≡ b → cond b o (refused n) ≡ answered vs → (n ≡ 0) × (o ≡ answered vs)
    go true e h = (eqb-true n 0 e, h)
    go false e h = not_both vs n (sym h)

-- refusals 12 and 13 do not apply
pub record Granted (version : ℕ) (l : List Marked) (vs : List ℕ) : Type 0 where
  pub fits-version : version ≤ largest_version
  pub fits-members : all_fit l ≡ true
  pub values : vs ≡ version ∷ length l ∷ []

granted_parts : (version : ℕ) (l : List Marked) (vs : List ℕ) → granted version l ≡ answered vs → Granted version l vs
unfolding granted
granted_parts version l vs = go (ltb largest_version version) (all_fit l) refl refl
  where
    go : (a b : Bool) → ltb largest_version version ≡ a → all_fit l ≡ b
        → cond a (refused 12) (cond b (answered (version ∷ length l ∷ [])) (refused 13)) ≡ answered vs → Granted version l vs
    go true b p q h = not_both vs 12 (sym h)
    go false true p q h = record { fits-version = ltb-false largest_version version p; fits-members = q; values = (cc) }
    go false false p q h = not_both vs 13 (sym h)

-- the numbers of a call; 0 for a value, or for votes of a write set, that it does not have
abbrev pub name_of : Call → ℕ
name_of (lookup rs x) = x
name_of (neighbours rs x) = x
name_of (insert rs ws x v) = x
name_of (update rs ws x v) = x
name_of (remove rs ws x) = x

abbrev pub value_of : Call → ℕ
value_of (lookup rs x) = 0
value_of (neighbours rs x) = 0
value_of (insert rs ws x v) = v
value_of (update rs ws x v) = v
value_of (remove rs ws x) = 0

abbrev pub needed_of : ℕ → Call → ℕ
needed_of w (lookup rs x) = 0
needed_of w (neighbours rs x) = 0
needed_of w (insert rs ws x v) = w
needed_of w (update rs ws x v) = w
needed_of w (remove rs ws x) = w

abbrev pub FineCall : List ℕ → ℕ → ℕ → Call → Type 0
FineCall votes r w c = Fine votes r (needed_of w c) (name_of c) (value_of c) (read_set c) (write_set c)

-- what is left once those refusals are past
abbrev pub settled_past : Call → List Marked → Outcome
settled_past (lookup rs x) l = answered (reading_values (newest l) (length l))
settled_past (neighbours rs x) l = answered ((predecessor l).end ∷ (successor l).end ∷ length l ∷ [])
settled_past (insert rs ws x v) l = settle_insert (newest l) l
settled_past (update rs ws x v) l = settle_update (newest l) l
settled_past (remove rs ws x) l = settle_remove (newest l) l

settle_is : (votes : List ℕ) (r w : ℕ) (c : Call) (l : List Marked)
    → settle votes r w c l ≡ passed (judged votes r (needed_of w c) (name_of c) (value_of c) (read_set c) (write_set c)) (settled_past c l)
unfolding settle
settle_is votes r w (lookup rs x) l = refl
settle_is votes r w (neighbours rs x) l = refl
settle_is votes r w (insert rs ws x v) l = refl
settle_is votes r w (update rs ws x v) l = refl
settle_is votes r w (remove rs ws x) l = refl

module _ (votes : List ℕ) (r w : ℕ) (c : Call) (l : List Marked) (vs : List ℕ) where
  pub settled-fine : settle votes r w c l ≡ answered vs → FineCall votes r w c × (settled_past c l ≡ answered vs)
  settled-fine h =
      let j = judged votes r (needed_of w c) (name_of c) (value_of c) (read_set c) (write_set c) in
      let p = passed_parts j (settled_past c l) vs (sym (settle_is votes r w c l) ∙ h) in
      (judged_fine votes r (needed_of w c) (name_of c) (value_of c) (read_set c) (write_set c) p.0, p.1)

-- the version that insert, update and remove give
abbrev pub new_version : Call → List Marked → ℕ
new_version (lookup rs x) l = 0
new_version (neighbours rs x) l = 0
new_version (insert rs ws x v) l = version_of (newest l) + 1
new_version (update rs ws x v) l = version_of (newest l) + 1
new_version (remove rs ws x) l = removal (version_of (newest l)) l

insert_parts : (r : Reading) (l : List Marked) (vs : List ℕ) → settle_insert r l ≡ answered vs → granted (version_of r + 1) l ≡ answered vs
insert_parts (Entry v x) l vs h = not_both vs 10 (sym h)
insert_parts (Gap v) l vs h = h

update_parts : (r : Reading) (l : List Marked) (vs : List ℕ) → settle_update r l ≡ answered vs → granted (version_of r + 1) l ≡ answered vs
update_parts (Entry v x) l vs h = h
update_parts (Gap v) l vs h = not_both vs 11 (sym h)

remove_parts : (r : Reading) (l : List Marked) (vs : List ℕ) → settle_remove r l ≡ answered vs → granted (removal (version_of r) l) l ≡ answered vs
remove_parts (Entry v x) l vs h = h
remove_parts (Gap v) l vs h = not_both vs 11 (sym h)

pub version_fits : (c : Call) (l : List Marked) (vs : List ℕ) → settled_past c l ≡ answered vs → new_version c l ≤ largest_version
version_fits (lookup rs x) l vs h = omega arith
version_fits (neighbours rs x) l vs h = omega arith
version_fits (insert rs ws x v) l vs h = (granted_parts (version_of (newest l) + 1) l vs (insert_parts (newest l) l vs h)).fits-version
version_fits (update rs ws x v) l vs h = (granted_parts (version_of (newest l) + 1) l vs (update_parts (newest l) l vs h)).fits-version
version_fits (remove rs ws x) l vs h = (granted_parts (removal (version_of (newest l)) l) l vs (remove_parts (newest l) l vs h)).fits-version

-- An accepted call's requests.
pub one_vote_each : (s : Suite) → length s.members ≡ 8 → length s.votes ≡ 8 → length (tiles s) ≡ length (ballots s)
one_vote_each s h k = rw (length-take s.count s.members, length-take s.count s.votes, h, k)

pub accepted_requests : (s : Suite) (c : Call) (vs : List ℕ) → length (tiles s) ≡ length (ballots s) → settled s c ≡ answered vs
    → length (answers s c) ≡ requests_of c
accepted_requests s c vs e h =
    let f = (settled-fine (ballots s) s.read s.write c (answers s c) vs h).0 in
    answers-length s e c f.reads f.writes
