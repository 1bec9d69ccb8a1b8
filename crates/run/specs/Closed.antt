-- A whole session from the start, where no suite was accepted, whichever is named beside (`standing_in None` names the blank one), the text
-- in any chunks with any room, and then its end: what is said is the answers to the lines of the text that was taken.
use Rattle.std.specs.Prelude.{◌≡◌, ℕ, ◌≤◌, List, ◌++◌}
use Rattle.std.proofs.Common.{◌∙◌, ap, arith}
use Rattle.suite.specs.declared.Suite.{Suite}
use Rattle.line.specs.Standing.{fresh}
use Rattle.line.specs.Laws.{fresh_fine}
use Rattle.run.specs.Course.{lines_in, Course, Told, between, finish_of}
use Rattle.run.specs.Answers.{answers_of, texts_of, whole_lines, Chunk, run_chunks, taken_of}
use Rattle.run.specs.SaidLaws.{chunks_answered}
use Rattle.run.specs.FinishLaws.{finished}
use Rattle.run.specs.KeptLaws.{fine_sound, chunks-kept}

abbrev pub begun : Suite → Course
begun s = between (fresh s)

pub session_answers : (s : Suite) (ks : List Chunk) (room : ℕ) → 33 ≤ room
    → (run_chunks (begun s) ks).said ++ (finish_of (run_chunks (begun s) ks).course room).run.said
    ≡ texts_of (answers_of (fresh s) (whole_lines (lines_in (taken_of (begun s) ks))))
session_answers s ks room h =
    let c : Course = (run_chunks (begun s) ks).course in
    let fine = chunks-kept ks (begun s) (omega arith) (fresh_fine s) in
    let end = finished c room (fine_sound c.standing fine) h in
    ap (λ (t : Told). (run_chunks (begun s) ks).said ++ t.run.said) end
    ∙ chunks_answered ks (fresh s)
