-- 01, 'When a call is turned down': the numbers that labels give.
--
-- Main definitions: `out_of_range`, `candidates_reach_p`, `buffer_too_short`.
use Rattle.std.specs.Prelude.{ℕ}

-- "1 N or C outside its range, or a cell outside the C columns"; for plans, "1 a parameter outside its range"
abbrev pub out_of_range : ℕ
out_of_range = 1

-- "9 candidates reach p."
abbrev pub candidates_reach_p : ℕ
candidates_reach_p = 9

-- "10, a buffer too short."
abbrev pub buffer_too_short : ℕ
buffer_too_short = 10
