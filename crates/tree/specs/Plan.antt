-- 01, 'When a call is turned down' and 'Gates and tree': what planning, the test for a made-up plan, paths and the table-id index answer, for any arguments.
--
-- Main definitions: `plan_number`, `planned`, `plan_in`, `parts_plan`, `plan_fault`, `plan_selector`, `path_answer`, `plan_barred`, `gate_rows_answer`, `table_id_answer`.
use Rattle.std.specs.Prelude.{◌*◌, ℕ, eqb, leb, ltb, drop, length, replicate, take, Bool, false, List, ◌++◌}
use Rattle.std.proofs.Math.Option.{Option, none, some}
use Rattle.base.specs.Firsts.{or_number}
use Rattle.base.specs.Pick.{pick}
use Rattle.base.specs.Tables.{table}
use Rattle.selector.specs.Gates.{constants_of, gate_slots, gate_words}
use Rattle.selector.specs.MadeUp.{nodes_fit, wanted}
use Rattle.selector.specs.Markers.{blocked_by}
use Rattle.selector.specs.Nodes.{most_levels, node_slots, tree_at}
use Rattle.selector.specs.Paths.{Selector, no_selector, path_to, selected, steps, unknown_gate}
use Rattle.base.specs.Limits.{most_gates}
use Rattle.selector.specs.Refusals.{extra_of, count_of_gates, gates_number, words_fit}
use Rattle.selector.specs.Search.{plan_tree}
use Rattle.selector.specs.Tree.{Tree}
use Rattle.parameters.specs.Lookup.{flag_of, mode_of, share_of, width_of}
use Rattle.parameters.specs.Parameters.{lookup_of, parameters_number}
use Rattle.tree.specs.Answers.{PathAnswer, Planned, RowsAnswer, TableId, rows_told}
use Rattle.tree.specs.Selection.{Path, Selection, selection_bits, selection_length, selection_number, selection_of}
use Rattle.tree.specs.Shapes.{shape_of}
use Rattle.parameters.specs.declared.lookup.LookupParameters.TheVariants.{NoLookup}
use Rattle.tree.specs.declared.gate_rows.GateRows.{GateRows}
use Rattle.tree.specs.declared.nodes.Shape.{Shape}
use Rattle.parameters.specs.declared.parameters.Parameters.{Parameters}
use Rattle.tree.specs.declared.plan.Outline.{Outline}
use Rattle.tree.specs.declared.plan.Parts.{Parts}
use Rattle.tree.specs.declared.plan.Plan.{Plan}

-- "Refused planning, path or opening hands back a plan, path or state of zeros"
abbrev pub zero_plan : Plan
zero_plan =
    record {
      trace = 0;
      copy = 0;
      allowed = 0;
      specialised = 0;
      variables = 0;
      lookup = NoLookup;
      gates = replicate gate_slots 0;
      gate_count = 0;
      nodes = replicate node_slots 0;
      node_count = 0;
      degree = 0;
      constants = 0;
      factor = 0;
    }

-- the refusals 1 to 7 of parameter and gate words, the first that comes
unfoldable pub words_number : Parameters → List ℕ → ℕ
words_number ps gs = or_number (parameters_number ps) (pick (words_fit gs) (gates_number ps.mode ps.allowed gs (count_of_gates gs)) 3)

-- the tree of parameter and gate words
abbrev pub tree_for : Parameters → List ℕ → Option Tree
tree_for ps gs = plan_tree (extra_of ps.mode) gs (count_of_gates gs)

-- "8 all targets failed"
abbrev pub tree_number : Option Tree → ℕ
tree_number none = 8
tree_number (some t) = 0

-- planning's refusal, the first of 1 to 8 that comes, or 0
unfoldable pub plan_number : Parameters → List ℕ → ℕ
plan_number ps gs = or_number (words_number ps gs) (tree_number (tree_for ps gs))

-- gate words in a plan's array; unused words are 0
abbrev pub gate_array : List ℕ → List ℕ
gate_array gs = gs ++ drop (length gs) (replicate gate_slots 0)

-- the plan of parameter words, gate words and a shape
abbrev pub plan_with : Parameters → List ℕ → Shape → Plan
plan_with ps gs s =
    record {
      trace = ps.trace;
      copy = ps.copy;
      allowed = ps.allowed;
      specialised = ps.specialised;
      variables = ps.variables;
      lookup = lookup_of ps;
      gates = gate_array gs;
      gate_count = count_of_gates gs;
      nodes = s.nodes;
      node_count = s.count;
      degree = s.degree;
      constants = s.constants;
      factor = s.factor;
    }

-- the plan that planning gives; zeros after a refusal
unfoldable pub planned : Parameters → List ℕ → Plan
planned ps gs = pick (eqb (plan_number ps gs) 0) (plan_with ps gs (shape_of (extra_of ps.mode) gs (tree_for ps gs))) zero_plan

abbrev pub plan_answer : Parameters → List ℕ → Planned
plan_answer ps gs = record { number = plan_number ps gs; plan = planned ps gs }

-- a plan without its words of gates and nodes, and with them again
abbrev pub outline_of : Plan → Outline
outline_of p =
    record {
      trace = p.trace;
      copy = p.copy;
      allowed = p.allowed;
      specialised = p.specialised;
      variables = p.variables;
      lookup = p.lookup;
      gate_count = p.gate_count;
      node_count = p.node_count;
      told = record { degree = p.degree; constants = p.constants; factor = p.factor };
    }

abbrev pub plan_in : Outline → List ℕ → List ℕ → Plan
plan_in o gs ns =
    record {
      trace = o.trace;
      copy = o.copy;
      allowed = o.allowed;
      specialised = o.specialised;
      variables = o.variables;
      lookup = o.lookup;
      gates = gs;
      gate_count = o.gate_count;
      nodes = ns;
      node_count = o.node_count;
      degree = o.told.degree;
      constants = o.told.constants;
      factor = o.told.factor;
    }

-- the plan that is lent in parts
abbrev pub parts_plan : Parts → Plan
parts_plan p = plan_in p.outline p.gates.now p.nodes.now

-- the parameter words of a plan
abbrev pub parameters_in : Outline → Parameters
parameters_in o =
    record {
      trace = o.trace;
      copy = o.copy;
      allowed = o.allowed;
      specialised = o.specialised;
      variables = o.variables;
      mode = mode_of o.lookup;
      width = width_of o.lookup;
      share = flag_of (share_of o.lookup);
    }

abbrev pub parameters_of : Plan → Parameters
parameters_of p = parameters_in (outline_of p)

-- the gate words of a plan
abbrev pub gates_given : Plan → List ℕ
gates_given p = take (p.gate_count * gate_words) p.gates

-- the lookup gate's constants in a plan
abbrev pub plan_extra : Plan → ℕ
plan_extra p = extra_of (mode_of p.lookup)

-- "19 is given for a made-up plan: parameters or gates that 1 to 7 turn down, a child not after its parent or past the nodes, a leaf below depth 31, leaves
-- other than each placed gate just once, or D, K or F not the tree's." Gate or node words that are not there are a fault too, which a plan's own arrays, of
-- `gate_slots` and `node_slots` words, never have.
unfoldable pub plan_fault : Plan → ℕ
plan_fault p =
    pick (eqb (parameters_number (parameters_of p)) 0)
    (pick (leb 1 p.gate_count)
    (pick (leb p.gate_count most_gates)
    (pick (leb (p.gate_count * gate_words) (length p.gates))
    (pick (leb node_slots (length p.nodes))
    (pick (eqb (gates_number (mode_of p.lookup) p.allowed (gates_given p) p.gate_count) 0)
    (pick (nodes_fit (plan_extra p) (gates_given p) p.gate_count p.nodes p.node_count p.degree p.constants p.factor) 0 19)
    19) 19) 19) 19) 19) 19

-- what is answered of a listed gate, by the plan's tree
abbrev pub selector_in : Option Tree → ℕ → Selector
selector_in none g = no_selector
selector_in (some t) g = selected (path_to g t)

-- 02, Change 2: "one of three: a path, no selector, or unknown gate", of a gate beside so many listed ones
abbrev pub selector_among : ℕ → Option Tree → ℕ → Selector
selector_among many o g = pick (ltb g many) (selector_in o g) unknown_gate

abbrev pub plan_selector : Plan → ℕ → Selector
plan_selector p g = selector_among p.gate_count (tree_at most_levels p.nodes 0) g

abbrev pub plan_selection : Plan → ℕ → Selection
plan_selection p g = selection_of (plan_selector p g)

-- "The row writer, the table-id index .. take it": the steps of that answer
abbrev pub plan_path : Plan → ℕ → List ℕ
plan_path p g = steps (plan_selector p g)

-- "Path: 19; 12 gate not listed.", "19 is tested before them as today"; a refused path is of zeros
unfoldable pub path_answer : Plan → ℕ → PathAnswer
path_answer p g =
    pick (eqb (plan_fault p) 0)
    (record { number = selection_number (plan_selection p g); selection = plan_selection p g })
    (record { number = 19; selection = Path 0 0 })

-- a gate's own number of constants
abbrev pub plan_own : Plan → ℕ → ℕ
plan_own p = constants_of (plan_extra p) (gates_given p)

-- whether a gate is placed, and so has a selector
abbrev pub plan_placed : Plan → ℕ → Bool
plan_placed p g = ltb 0 (wanted (gates_given p) p.gate_count g)

-- 02, Change 4: "the all-0 path is not of kind 1"
abbrev pub plan_blocked : Plan → Bool
plan_blocked p = blocked_by (plan_path p) (gates_given p) p.gate_count

-- whose rows are turned away: "a kind 2 row in a longer list whose all-0 path is not of kind 1"
abbrev pub plan_barred : Plan → ℕ → Bool
plan_barred p g = pick (plan_placed p g) false (plan_blocked p)

-- a word for each listed gate, 0 for those that are not
abbrev pub for_listed : Plan → (ℕ → ℕ) → List ℕ
for_listed p f = table most_gates (λ (g : ℕ). pick (ltb g p.gate_count) (f g) 0)

-- what rows need of each gate: its path, whether its rows are turned away, and its own number of constants
abbrev pub gate_rows_of : Plan → RowsAnswer
gate_rows_of p =
    record {
      number = 0;
      many = p.gate_count;
      bits = for_listed p (λ (g : ℕ). selection_bits (plan_selection p g));
      steps = for_listed p (λ (g : ℕ). selection_length (plan_selection p g));
      barred = for_listed p (λ (g : ℕ). pick (plan_barred p g) 1 0);
      own = for_listed p (plan_own p);
    }

abbrev pub no_gate_rows : RowsAnswer
no_gate_rows =
    record {
      number = 19;
      many = 0;
      bits = replicate most_gates 0;
      steps = replicate most_gates 0;
      barred = replicate most_gates 0;
      own = replicate most_gates 0;
    }

-- the words of all gates of no plan
abbrev pub no_rows : GateRows
no_rows =
    record {
      many = 0;
      bits = replicate most_gates 0;
      steps = replicate most_gates 0;
      barred = replicate most_gates 0;
      own = replicate most_gates 0;
    }

-- 19 first
unfoldable pub gate_rows_answer : Plan → RowsAnswer
gate_rows_answer p = pick (eqb (plan_fault p) 0) (gate_rows_of p) no_gate_rows

-- "Table-id column: mode 2 the lookup path's length, mode 4 K, else none"; 19 first
unfoldable pub table_id_answer : Plan → TableId
table_id_answer p =
    pick (eqb (plan_fault p) 0)
    (pick (eqb (mode_of p.lookup) 2)
    (record { number = 0; count = 1; index = length (plan_path p 0) })
    (pick (eqb (mode_of p.lookup) 4)
    (record { number = 0; count = 1; index = p.constants })
    (record { number = 0; count = 0; index = 0 })))
    (record { number = 19; count = 0; index = 0 })
