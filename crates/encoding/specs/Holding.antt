-- What is read of the words of a plan and a state, without copying a plan.
use Rattle.std.specs.Prelude.{ℕ, Bool, eqb, drop, length, replicate, take, false, true, List, Option, Some, None}
use Rattle.base.specs.Limits.{most_gates}
use Rattle.base.specs.Pick.{pick}
use Rattle.selector.specs.Gates.{gate_slots}
use Rattle.selector.specs.Nodes.{node_slots}
use Rattle.tree.specs.Plan.{outline_of, zero_plan}
use Rattle.tree.specs.declared.plan.Outline.{Outline}
use Rattle.columns.specs.Intake.{zero_intake}
use Rattle.columns.specs.declared.take.Counts.{Counts}
use Rattle.encoding.specs.Encoding.{counts_at, gates_from, lookup_there, marks_at, nodes_from, plan_at, plan_length, state_length}

-- the words of gates and nodes among a plan's or a state's
abbrev pub gates_in : List ℕ → List ℕ
gates_in ws = take gate_slots (drop gates_from ws)

abbrev pub nodes_in : List ℕ → List ℕ
nodes_in ws = take node_slots (drop nodes_from ws)

-- the plan without them
abbrev pub outline_at : List ℕ → Outline
outline_at ws = outline_of (plan_at ws)

abbrev pub marks_read : List ℕ → List ℕ
marks_read ws = pick (eqb (length ws) state_length) (marks_at ws) (replicate most_gates 0)

-- what the words of a plan hold: whether there is one, and its outline
pub record Outlined : Type 0 where
  pub fits : Bool
  pub outline : Outline

-- the same of a state's words, with its counts
pub record Held : Type 0 where
  pub fits : Bool
  pub outline : Outline
  pub counts : Counts

abbrev pub no_plan : Outlined
no_plan = record { fits = false; outline = outline_of zero_plan }

-- the outline that the code finds, or none
abbrev pub outlined : Option Outline → Outlined
outlined (Some o) = record { fits = true; outline = o }
outlined None = record { fits = false; outline = outline_of zero_plan }

abbrev pub outline_there : List ℕ → Outlined
outline_there ws = pick (lookup_there ws) (record { fits = true; outline = outline_at ws }) no_plan

unfoldable pub outlined_at : List ℕ → Outlined
outlined_at ws = pick (eqb (length ws) plan_length) (outline_there ws) no_plan

-- and those of a state
abbrev pub held_with : Outlined → Counts → Held
held_with p k = record { fits = p.fits; outline = p.outline; counts = k }

unfoldable pub held_at : List ℕ → Held
held_at ws = pick (eqb (length ws) state_length) (held_with (outline_there ws) (counts_at ws)) (held_with no_plan zero_intake.counts)
