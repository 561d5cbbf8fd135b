-- What the claim says of planning, opening and single calls, in numerals: accepted and refused, and that nothing happens where planning refused. Each is drawn from
-- `claim`, so that a part that says nothing, or the contrary, is refused here.
--
-- Main definition: `SaidOfCalls`. Main statement: `calls_say`.
use Rattle.std.specs.Prelude.{◌≡◌, [], ◌∷◌, ◌-◌}
use Rattle.field.specs.Field.{p}
use Rattle.parameters.specs.Parameters.{parameters_at}
use Rattle.parameters.specs.declared.parameters.Parameters.{Parameters}
use Rattle.tree.specs.Plan.{zero_plan, plan_answer}
use Rattle.pieces.specs.Calls.{rows, finishing}
use Rattle.columns.specs.Intake.{open_answer, open_left}
use Rattle.claim.specs.Chain.{Kept, answer, left}
use Rattle.claim.specs.Statement.{kept}
use Rattle.cases.specs.Columns.{old, three, four, nop, two, p9_calls}

-- ---- planning: N=3 is no power of two
abbrev pub odd : Parameters
odd = parameters_at (3 ∷ 2 ∷ 0 ∷ 0 ∷ 1 ∷ 0 ∷ 0 ∷ 0 ∷ [])

-- ---- single calls after that opening
abbrev pub k₉ : Kept
k₉ = kept two nop (old 1 5 3) []

-- ---- what the claim says of these
pub record SaidOfCalls : Type 0 where
  -- "Refused planning .. hands back a plan .. of zeros": N=3
  pub planning_3 : plan_answer odd nop ≡ record { number = 1; plan = zero_plan }
  -- P6's plan says D=3
  pub planning_6 : (plan_answer four three).plan.degree ≡ 3
  -- "Opening zeroes .. and writes the labels": P9's copy columns, the last word an old one
  pub labels-written : (open_left (plan_answer two nop).plan (old 1 5 3)).cells.copies ≡ 1 ∷ (p - 1) ∷ 7 ∷ (p - 7) ∷ 9 ∷ []
  -- 10 for three copy words, which keep their values
  pub opening_10 : (open_answer (plan_answer two nop).plan (old 1 3 3)).number ≡ 10
  pub nothing_opened : open_left (plan_answer two nop).plan (old 1 3 3) ≡ old 1 3 3
  -- a row of a gate that is not listed is 12, and no word is written; two rows of the listed one are counted
  pub rows_12 : (answer (rows (1 ∷ 0 ∷ [])) k₉).number ≡ 12
  pub nothing_written : left (rows (1 ∷ 0 ∷ [])) k₉ ≡ k₉.store
  pub rows_counted : (answer (rows (0 ∷ 0 ∷ 0 ∷ 0 ∷ [])) k₉).state.counts.rows ≡ 2
  -- after refused planning the whole of P9's list leaves the buffers as they were, and a finishing is 19
  pub untouched : (kept odd nop (old 1 5 3) p9_calls).store ≡ old 1 5 3
  pub finishing_19 : (answer finishing (kept odd nop (old 1 5 3) p9_calls)).number ≡ 19
  -- P9's list has an accepted finishing, so planning and opening accepted
  pub planning_9 : (plan_answer two nop).number ≡ 0
  pub opening_9 : (open_answer (plan_answer two nop).plan (old 1 5 3)).number ≡ 0
