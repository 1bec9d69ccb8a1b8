-- The paper's table of ranges.
use Rattle.std.specs.Prelude.{ℕ}

-- a name, user × 16 + process
abbrev pub largest_name : ℕ
largest_name = 1_048_575

abbrev pub largest_value : ℕ
largest_value = 65_535

-- the version of an entry, from 1, and of a gap, from 0
abbrev pub largest_version : ℕ
largest_version = 16_777_215

-- entries in a member
abbrev pub slots : ℕ
slots = 32

-- HIGH, as an end: LOW is 0 and the name n is n + 1
abbrev pub high : ℕ
high = 1_048_577
