-- What a session's steps leave, as courses. Assumes nothing.
use Rattle.std.proofs.Common.{◌≡◌, sym, ◌∙◌, ap, ℕ, ◌≤◌, arith, List, [], ◌++◌, length, take, drop, replicate, length-take}
use Rattle.std.specs.Prelude.{Option}
use Rattle.std.proofs.lemmas.List.{take_at}
use Rattle.suite.specs.declared.Suite.{Suite}
use Rattle.line.specs.Standing.{Answer, answer_of}
use Rattle.line.specs.Lent.{standing_in}
use Rattle.run.specs.Course.{Course, holding, between}
use Rattle.run.specs.Lent.{held_in, course_in, session_of}
use Rattle.run.specs.LongLine.{long_line}
use Rattle.run.specs.declared.Session.{Session}
use Rattle.run.proofs.Holding.{padded_is}

-- a session holds what it was made to hold
held_of : (standing : Option Suite) (h : List ℕ) → length h ≤ 81 → held_in (session_of standing h) ≡ h
held_of standing h k = rw (padded_is 81 h k) (take_at h (drop (length h) (replicate 81 0)) (length h) (λ j. length h))

-- no more than 81 bytes are kept
kept_short : (h : List ℕ) → length (take 81 h) ≤ 81
kept_short h = omega (arith, length-take 81 h)

module _ (r : Session) (standing : Option Suite) (h : List ℕ) (k : length h ≤ 81) (e : r ≡ session_of standing h) where
  holds : held_in r ≡ h
  holds = ap held_in e ∙ held_of standing h k

  tidy : r ≡ session_of r.standing (held_in r)
  tidy = e ∙ sym (λ j. session_of (e j).standing (holds j))

  course-is : course_in r ≡ record { standing = standing_in standing; held = h }
  course-is = λ j. record { standing = standing_in (e j).standing; held = holds j }

-- a session in which nothing is held
module _ (r : Session) (standing : Option Suite) (e : r ≡ session_of standing []) where
  pub cleared-course : course_in r ≡ between (standing_in standing)
  cleared-course = course-is r standing [] (omega arith) e

  pub cleared-tidy : r ≡ session_of r.standing (held_in r)
  cleared-tidy = tidy r standing [] (omega arith) e

-- where nothing was held
module _ (s : Session) (e : s.held ≡ 0) where
  pub nothing-held : (r : Session) → r ≡ session_of s.standing [] → course_in r ≡ course_in s
  nothing-held r f =
      cleared-course r s.standing f
      ∙ ap (λ (k : ℕ). record { standing = standing_in s.standing; held = take k s.line }) (sym e)

  pub nothing-before : (more : List ℕ) → answer_of (standing_in s.standing) more ≡ answer_of (standing_in s.standing) (held_in s ++ more)
  nothing-before more = ap (λ (k : ℕ). answer_of (standing_in s.standing) (take k s.line ++ more)) (sym e)

-- more bytes of a line are held
module _ (r s : Session) (more : List ℕ) (e : r ≡ session_of s.standing (take 81 (held_in s ++ more))) where
  pub held-course : course_in r ≡ holding (course_in s) more
  held-course = course-is r s.standing (take 81 (held_in s ++ more)) (kept_short (held_in s ++ more)) e

  pub held-tidy : r ≡ session_of r.standing (held_in r)
  held-tidy = tidy r s.standing (take 81 (held_in s ++ more)) (kept_short (held_in s ++ more)) e

  -- at most 81 bytes
  pub held_within : r.held ≤ 81
  held_within = omega (arith, ap (λ (q : Session). q.held) e, kept_short (held_in s ++ more))

  -- the answer to what is kept of the line is the answer to the line
  pub whole-answer : (a : Answer) → a ≡ answer_of (standing_in r.standing) (held_in r)
      → a ≡ answer_of (standing_in s.standing) (held_in s ++ more)
  whole-answer a f =
      f ∙ ap (λ (c : Course). answer_of c.standing c.held) held-course ∙ long_line (standing_in s.standing) (held_in s ++ more)
