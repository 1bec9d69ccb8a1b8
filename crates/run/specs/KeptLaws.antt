-- A suite that is sound before a call is sound after it, so refusal 1 is given at the first call or never, and one look for all
-- lines of a chunk is enough.
use Rattle.std.specs.Prelude.{◌≡◌, refl, ℕ, List, [], ◌∷◌, ◌++◌, Bool, true, false, ◌&&◌, not, take}
use Rattle.suite.specs.Suite.{sound_suite}
use Rattle.line.specs.Standing.{Standing, answer_of}
use Rattle.line.specs.Laws.{Fine, answer_kept}
use Rattle.run.specs.Course.{lines_in, Course, between, unsound, run_of}
use Rattle.run.specs.Answers.{run_all, Chunk, run_chunks}
use Rattle.run.specs.RoomLaws.{Short, call-limited, short-call}

pub fine_sound : (s : Standing) → Fine s → unsound s ≡ false
unfolding unsound
fine_sound s f = go s.made refl
  where
    go : (t : Bool) → s.made ≡ t → s.made && not (sound_suite s.suite) ≡ false
    go true t = rw (t, f t)
    go false t = rw t

all-kept : (ps : List (List ℕ)) (c : Course) → Fine c.standing → Fine (run_all c ps).course.standing
unfolding run_all
all-kept [] c f = f
all-kept (p ∷ []) c f = f
all-kept (p ∷ (q ∷ ps)) c f =
    all-kept (q ∷ ps) (between (answer_of c.standing (c.held ++ p)).standing) (answer_kept c.standing (c.held ++ p) f)

pub call_kept : (c : Course) (text : List ℕ) (room : ℕ) → Short c → Fine c.standing → Fine (run_of c text room).run.course.standing
call_kept c text room s f =
    rw (call-limited c text room s) (all-kept (lines_in (take (run_of c text room).run.taken text)) c f)

pub chunks-kept : (ks : List Chunk) (c : Course) → Short c → Fine c.standing → Fine (run_chunks c ks).course.standing
unfolding run_chunks
chunks-kept [] c s f = f
chunks-kept (k ∷ ks) c s f =
    chunks-kept ks (run_of c k.text k.room).run.course (short-call c k.text k.room s) (call_kept c k.text k.room s f)
