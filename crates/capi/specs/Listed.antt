-- What a whole listing in one call answers and leaves, with a slice for its plan.
--
-- Main definitions: `run_call`, `run_plan`, `run_left`.
use Rattle.std.specs.Prelude.{ℕ, leb, drop, length, List, ◌++◌}
use Rattle.base.specs.Pick.{pick}
use Rattle.encoding.specs.Encoding.{plan_length, plan_words}
use Rattle.listing.specs.Listing.{Reading, read, refused, whole}
use Rattle.pieces.specs.Setting.{Store}
use Rattle.stage.specs.Listed.{listed_answer, listed_left}

-- "20 .., tested over the whole input before all else": before 10 for the plan's slice too
abbrev pub short_plan : Reading → ℕ
short_plan (whole w) = 10
short_plan (refused n) = n

-- 20, then 10 for a plan that is too short, then the circuit's own number
unfoldable pub run_call : List ℕ → List ℕ → Store → ℕ
run_call ws out b = pick (leb plan_length (length out)) (listed_answer ws b).number (short_plan (read ws))

-- the plan of an accepted listing, zeros after a refusal; a plan that is too short keeps its words
unfoldable pub run_plan : List ℕ → List ℕ → Store → List ℕ
run_plan ws out b = pick (leb plan_length (length out)) (plan_words (listed_answer ws b).plan ++ drop plan_length out) out

-- "A result slice that is too short is 10 and nothing is written": no word of the columns either
unfoldable pub run_left : List ℕ → List ℕ → Store → Store
run_left ws out b = pick (leb plan_length (length out)) (listed_left ws b) b
