-- Creation takes R, W and a list of votes, one for each member; all members start fresh.
use Rattle.std.specs.Prelude as prelude
use Rattle.std.specs.Prelude.{Ok, Err, List, [], ◌++◌, cond, ◌&&◌, ℕ, ◌-◌, length, replicate, leb}
use Rattle.member.specs.Tile.{fresh_tile}
use Rattle.suite.specs.Sets.{total, all}
use Rattle.suite.specs.Suite.{quorum, small_vote}
use Rattle.suite.specs.Outcome.{answered, refused, number_of}
use Rattle.suite.specs.Calls.{Result}
use Rattle.suite.specs.declared.Suite.{Suite}
use Rattle.suite.specs.declared.Refusal.{Refusal}

-- unused votes hold zero
abbrev pub padded : List ℕ → List ℕ
padded votes = votes ++ replicate (8 - length votes) 0

unfoldable pub fresh_suite : ℕ → ℕ → List ℕ → Suite
fresh_suite r w votes =
    record { members = replicate 8 fresh_tile; votes = padded votes; read = r; write = w; count = length votes }

-- what stands beside a refusal
abbrev pub blank : Suite
blank = record { members = replicate 8 fresh_tile; votes = replicate 8 0; read = 0; write = 0; count = 0 }

abbrev pub not_created : ℕ → Result
not_created n = record { outcome = refused n; suite = blank }

-- Refusals 2, 3 and 4, in this order.
unfoldable pub create_of : ℕ → ℕ → List ℕ → Result
create_of r w votes =
    cond (leb 1 (length votes) && leb (length votes) 8)
    (cond (all small_vote votes)
    (cond (quorum r w (total votes)) (record { outcome = answered []; suite = fresh_suite r w votes }) (not_created 4))
    (not_created 3))
    (not_created 2)

abbrev pub created_of : prelude.Result Suite Refusal → Result
created_of (Ok s) = record { outcome = answered []; suite = s }
created_of (Err r) = not_created (number_of r)
