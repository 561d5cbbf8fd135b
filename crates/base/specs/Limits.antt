-- 01's limits that more than one layer names.
--
-- Main definition: `most_gates`.
use Rattle.std.specs.Prelude.{ℕ}

-- "Gates: 1..128.", in a list
abbrev pub most_gates : ℕ
most_gates = 128
