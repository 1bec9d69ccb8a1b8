-- `run::lines::last_end`: the newline found is the last.
use Rattle.std.proofs.Common.{◌≡◌, ℕ, ◌<◌, length, get_or, rules, arith}
use Rattle.run.proofs.Ends.{none-ahead, newline-ahead}
use Rattle.run.proofs.lines.last_end.Goals as goal

pub returns-in-Some : goal.returns-in-Some
returns-in-Some c =
    let text = c.args.text.now in
    let i = c.in-Some.at in
    let within : i < length text = search rules in
    let found : get_or text i 0 ≡ 10 = search rules in
    let last : (k : ℕ) → i < k → k < length text → get_or text k 0 ≡ 10 → ⊥ = search rules in
    record {
      by_index = λ at h. omega (arith, newline-ahead text at i (omega arith) within found);
      by_index_2 = λ at h k. none-ahead text at k (λ m n. last m (omega arith));
    }

pub returns-in-None : goal.returns-in-None
returns-in-None c =
    let text = c.args.text.now in
    let none : (k : ℕ) → k < length text → get_or text k 0 ≡ 10 → ⊥ = search rules in
    record { by_index = λ at h. absurd (omega arith); by_index_2 = λ at h k. none-ahead text at k (λ m n. none m) }
