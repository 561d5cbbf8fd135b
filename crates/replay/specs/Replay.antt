-- The counts of a replay.
--
-- Main definitions: `started`, `stepped`, `noted`, `compared`.
use Rattle.std.specs.Prelude.{Bool, List, ℕ, ◌+◌, ltb, eqb}
use Rattle.base.specs.Pick.{pick}
use Rattle.octets.specs.Words.{word_at}
use Rattle.replay.specs.declared.Replay.{Replay}

-- one more, up to a limit
abbrev pub up : ℕ → ℕ
up x = pick (ltb x 1000000000) (x + 1) x

abbrev pub started : Replay
started = record { at = 0; compared = 0; differences = 0 }

abbrev pub stepped : Replay → Replay
stepped s = record { at = up s.at; compared = s.compared; differences = s.differences }

abbrev pub noted : Replay → Bool → Replay
noted s same = record { at = s.at; compared = up s.compared; differences = pick same s.differences (up s.differences) }

-- the next word compared with an answer
abbrev pub compared : Replay → List ℕ → ℕ → Replay
compared s bytes answer = stepped (noted s (eqb (word_at bytes s.at) answer))
