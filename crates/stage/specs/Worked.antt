-- Refused listings, computed: the number, a plan of zeros, and the words of the buffers as they were.
--
-- Main statement: `refused_listings`.
use Rattle.std.specs.Prelude.{◌≡◌, refl, List, [], ◌∷◌, ◌++◌, ℕ, replicate}
use Rattle.std.proofs.Math.Option.{bind}
use Rattle.base.specs.Exponent.{exponent_from}
use Rattle.base.specs.Firsts.{or_number}
use Rattle.labels.specs.Ranges.{ranges_fit}
use Rattle.selector.specs.Refusals.{words_fit, gates_number, record_number, records_number}
use Rattle.parameters.specs.Parameters.{range_number, flag_number, parameters_number}
use Rattle.tree.specs.Plan.{words_number, plan_number}
use Rattle.pieces.specs.Setting.{Store, cols}
use Rattle.listing.specs.Listing.{off, records, section, six_sections, read}
use Rattle.stage.specs.Circuit.{refused_by, stage_number, stage_answer, stage_left}
use Rattle.stage.specs.Listed.{listed_answer, listed_left}

-- buffers with old words
unfoldable pub old : Store
old = record { constants = replicate 4 9; cells = cols (replicate 4 9) (replicate 4 9); tables = replicate 4 9 }

-- the listing of P8 for any trace length and any kind of the first gate
unfoldable pub listing : ℕ → ℕ → List ℕ
listing n kind =
    8 ∷ n ∷ 2 ∷ 1 ∷ 0 ∷ 2 ∷ 0 ∷ 0 ∷ 0 ∷ 2 ∷ kind ∷ 2 ∷ 1 ∷ 1 ∷ 0 ∷ 0 ∷ 2 ∷ 0 ∷ 1 ∷ 5 ∷ 1 ∷ 0 ∷ 0 ∷ 4 ∷ 0 ∷ 1 ∷ 1 ∷ 9223372036854775808 ∷ 0 ∷ []

abbrev pub Refuses : List ℕ → ℕ → Type 0
Refuses ws n = (listed_answer ws old ≡ refused_by n) × (listed_left ws old ≡ old)

pub record Refused_listings : Type 0 where
  -- "20 .. tested over the whole input before all else": a word left over, though the trace length is wrong too
  pub left_over : Refuses (listing 131072 0 ++ (0 ∷ [])) 20
  -- "131,072 gives 1"
  pub too_long : Refuses (listing 131072 4) 1
  -- "4 first bad record"
  pub bad_gate : Refuses (listing 2 4) 4

pub refused_listings : Refused_listings
unfolding old listing or_number exponent_from ranges_fit words_fit gates_number record_number records_number range_number flag_number parameters_number words_number plan_number off records section six_sections read bind stage_number stage_answer stage_left listed_answer listed_left
refused_listings = record { left_over = (refl, refl); too_long = (refl, refl); bad_gate = (refl, refl) }
