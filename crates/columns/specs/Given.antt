-- A state in parts: the plan's outline, its words of gates and nodes, the counts, the marks; and the answers of a call on it.
--
-- Main definitions: `intake_in`, `Given`, `Marked`, `given_of`, `marked_of`, `counted`, `remarked`.
use Rattle.std.specs.Prelude.{List, ℕ}
use Rattle.tree.specs.Plan.{plan_in}
use Rattle.tree.specs.declared.plan.Outline.{Outline}
use Rattle.columns.specs.Intake.{Taken, state_in, with_state}
use Rattle.columns.specs.declared.intake.Intake.{Intake}
use Rattle.columns.specs.declared.take.Counts.{Counts}

-- the code's state of all its parts
abbrev pub intake_in : Outline → List ℕ → List ℕ → Counts → List ℕ → Intake
intake_in o gs ns k us = with_state (plan_in o gs ns) (state_in k us)

-- what an answer has besides plan and marks, and besides the plan
pub record Given : Type 0 where
  pub number : ℕ
  pub counts : Counts

pub record Marked : Type 0 where
  pub number : ℕ
  pub counts : Counts
  pub used : List ℕ

abbrev pub given_with : ℕ → Counts → Given
given_with n k = record { number = n; counts = k }

abbrev pub given_of : Taken → Given
given_of t = given_with t.number t.state.counts

abbrev pub marked_with : ℕ → Counts → List ℕ → Marked
marked_with n k us = record { number = n; counts = k; used = us }

abbrev pub marked_of : Taken → Marked
marked_of t = marked_with t.number t.state.counts t.state.used

-- such an answer with the plan and the marks of a state
abbrev pub counted : Intake → Given → Taken
counted s g = record { number = g.number; state = with_state s.plan (state_in g.counts s.used) }

-- one with marks, with the plan of a state
abbrev pub remarked : Intake → Marked → Taken
remarked s m = record { number = m.number; state = with_state s.plan (state_in m.counts m.used) }
