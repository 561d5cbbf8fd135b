-- Plans and states as words: "A plan or state is the struct's words in a fixed order; words that encode none, or of the wrong length, are a made-up one: 19."
--
-- Main definitions: `plan_length`, `state_length`, `plan_words`, `plan_of`, `intake_words`, `intake_of`; `progressed`.
use Rattle.std.specs.Prelude.{◌+◌, ◌-◌, ℕ, eqb, leb, drop, get_or, length, take, Bool, true, List, [], ◌++◌, ◌∷◌}
use Rattle.base.specs.Limits.{most_gates}
use Rattle.base.specs.Pick.{both, pick}
use Rattle.columns.specs.Intake.{zero_intake}
use Rattle.columns.specs.declared.intake.Intake.{Intake}
use Rattle.columns.specs.declared.take.Counts.{Counts}
use Rattle.parameters.specs.Lookup.{flag_of, mode_of, share_of, width_of}
use Rattle.parameters.specs.Parameters.{lookup_of, parameter_words, parameters_at}
use Rattle.selector.specs.Gates.{gate_slots}
use Rattle.selector.specs.Nodes.{node_slots}
use Rattle.tree.specs.Plan.{zero_plan}
use Rattle.tree.specs.declared.plan.Plan.{Plan}

-- where the parts of a plan's words stand: the parameters first, then the gates, their count, the nodes, the tail
abbrev pub gates_from : ℕ
gates_from = parameter_words

abbrev pub count_at : ℕ
count_at = gates_from + gate_slots

abbrev pub nodes_from : ℕ
nodes_from = count_at + 1

abbrev pub tail_from : ℕ
tail_from = nodes_from + node_slots

-- the number of nodes, D, K and F
abbrev pub tail_length : ℕ
tail_length = 4

abbrev pub plan_length : ℕ
plan_length = tail_from + tail_length

-- where the parts of a state's words stand: the plan first, then the counts, the marks, the phase
abbrev pub counts_from : ℕ
counts_from = plan_length

-- rows, S words, cells, tables and table rows
abbrev pub counts_length : ℕ
counts_length = 5

abbrev pub used_from : ℕ
used_from = counts_from + counts_length

abbrev pub phase_at : ℕ
phase_at = used_from + most_gates

abbrev pub state_length : ℕ
state_length = phase_at + 1

-- as many of them stand behind the plan's
abbrev pub progress_length : ℕ
progress_length = state_length - plan_length

-- whether some lookup mode has this number, width and flag: mode 0 holds neither width nor flag, the others hold any width and a flag of 0 or 1
unfoldable pub lookup_fits : ℕ → ℕ → ℕ → Bool
lookup_fits mode width flag =
    both (leb mode 4) (both (leb flag 1) (pick (eqb mode 0) (both (eqb width 0) (eqb flag 0)) true))

-- the first words of a plan: parameters, the lookup mode as three words
abbrev pub head_words : Plan → List ℕ
head_words q =
    q.trace ∷ q.copy ∷ q.allowed ∷ q.specialised ∷ q.variables ∷ mode_of q.lookup ∷ width_of q.lookup ∷ flag_of (share_of q.lookup) ∷ []

-- the last words of a plan
abbrev pub tail_words : Plan → List ℕ
tail_words q = q.node_count ∷ q.degree ∷ q.constants ∷ q.factor ∷ []

-- a plan as words, in the order of its fields
abbrev pub plan_words : Plan → List ℕ
plan_words q = head_words q ++ (q.gates ++ (q.gate_count ∷ (q.nodes ++ tail_words q)))

-- the plan that as many words as a plan has stand for, where three of them are a lookup mode's
abbrev pub plan_at : List ℕ → Plan
plan_at ws =
    record {
      trace = (parameters_at ws).trace;
      copy = (parameters_at ws).copy;
      allowed = (parameters_at ws).allowed;
      specialised = (parameters_at ws).specialised;
      variables = (parameters_at ws).variables;
      lookup = lookup_of (parameters_at ws);
      gates = take gate_slots (drop gates_from ws);
      gate_count = get_or ws count_at 0;
      nodes = take node_slots (drop nodes_from ws);
      node_count = get_or ws tail_from 0;
      degree = get_or ws (tail_from + 1) 0;
      constants = get_or ws (tail_from + 2) 0;
      factor = get_or ws (tail_from + 3) 0;
    }

-- whether the words of the lookup mode are some mode's
abbrev pub lookup_there : List ℕ → Bool
lookup_there ws = lookup_fits (parameters_at ws).mode (parameters_at ws).width (parameters_at ws).share

-- the plan of any words. Those that encode none, or are not as many, give the plan of zeros, a made-up one.
unfoldable pub plan_of : List ℕ → Plan
plan_of ws = pick (eqb (length ws) plan_length) (pick (lookup_there ws) (plan_at ws) zero_plan) zero_plan

-- the five counts as words
abbrev pub count_words : Counts → List ℕ
count_words k = k.rows ∷ k.s_words ∷ k.cells ∷ k.tables ∷ k.table_rows ∷ []

-- what a state has besides its plan, as words: the five counts, the marks, the phase
abbrev pub progress_words : ℕ → ℕ → ℕ → ℕ → ℕ → List ℕ → ℕ → List ℕ
progress_words rows words cells tables stacked used phase = (rows ∷ words ∷ cells ∷ tables ∷ stacked ∷ []) ++ (used ++ (phase ∷ []))

abbrev pub progress_in : Counts → List ℕ → List ℕ
progress_in k us = progress_words k.rows k.s_words k.cells k.tables k.table_rows us k.phase

abbrev pub progress_of : Intake → List ℕ
progress_of s = progress_in s.counts s.used

-- the marks among a state's words
abbrev pub marks_at : List ℕ → List ℕ
marks_at ws = take most_gates (drop used_from ws)

-- a state as words, in the order of its fields
abbrev pub intake_words : Intake → List ℕ
intake_words s = plan_words s.plan ++ progress_of s

-- the words of a state with those behind its plan replaced; a slice that is too short keeps all its words
abbrev pub progressed : List ℕ → List ℕ → List ℕ
progressed new old = pick (leb state_length (length old)) (take plan_length old ++ (new ++ drop state_length old)) old

-- the counts among a state's words
abbrev pub counts_at : List ℕ → Counts
counts_at ws =
    record {
      rows = get_or ws counts_from 0;
      s_words = get_or ws (counts_from + 1) 0;
      cells = get_or ws (counts_from + 2) 0;
      tables = get_or ws (counts_from + 3) 0;
      table_rows = get_or ws (counts_from + 4) 0;
      phase = get_or ws phase_at 0;
    }

abbrev pub intake_at : List ℕ → Intake
intake_at ws =
    record {
      plan = plan_of (take plan_length ws);
      counts = counts_at ws;
      used = marks_at ws;
    }

-- the state of any words. Where the plan's words encode none its plan is that of zeros, and the state a made-up one.
unfoldable pub intake_of : List ℕ → Intake
intake_of ws = pick (eqb (length ws) state_length) (intake_at ws) zero_intake
