-- What the code's plan and state mean in the definitions of `pieces`, and what each public call answers and leaves.
--
-- Main definitions: `setting_of`, `state_in`, `counts_in`, `state_of`, `with_state`, `Taken`; `open_answer`, `open_left`, `rows_answer`, `rows_left`, `s_words_answer`, `s_words_left`, `cells_answer`, `cells_left`,
-- `tables_answer`, `tables_left`, `finish_answer`, `finish_left`.
use Rattle.std.specs.Prelude.{List, ℕ, ◌*◌, ltb, eqb}
use Rattle.base.specs.Pick.{pick}
use Rattle.base.specs.Tables.{table}
use Rattle.labels.specs.Labels.{search_number, representatives_of, label_of}
use Rattle.parameters.specs.Lookup.{mode_of, width_of}
use Rattle.selector.specs.Gates.{kind_of}
use Rattle.tree.specs.Plan.{zero_plan, gates_given, plan_blocked, plan_fault, plan_own, plan_path, plan_placed}
use Rattle.tree.specs.declared.plan.Plan.{Plan}
use Rattle.pieces.specs.Setting.{Setting, State, Store, Cols, cols}
use Rattle.pieces.specs.Opening.{open_number, open_store, open_state, zero_state}
use Rattle.pieces.specs.Rows.{rows_number, rows_written, rows_state}
use Rattle.pieces.specs.SWords.{s_words_number, s_words_written, s_words_state}
use Rattle.pieces.specs.Cells.{cells_number, cells_written, cells_state}
use Rattle.pieces.specs.Tables.{tables_number, tables_written, tables_state}
use Rattle.pieces.specs.Finishing.{finish_number, finished_copies, finished_state}
use Rattle.columns.specs.declared.intake.Intake.{Intake}
use Rattle.columns.specs.declared.take.Counts.{Counts}

-- the labels of all copy cells, column by column
abbrev pub labels_of : ℕ → ℕ → List ℕ
labels_of n c = table (c * n) (label_of n (representatives_of n c))

-- what the columns need of a plan
abbrev pub setting_of : Plan → Setting
setting_of q =
    record {
      sound = eqb (plan_fault q) 0;
      trace = q.trace;
      copied = q.copy;
      special = q.specialised;
      variables = q.variables;
      lookup = ltb 0 (mode_of q.lookup);
      width = width_of q.lookup;
      gates = q.gate_count;
      height = q.constants;
      path = plan_path q;
      own = plan_own q;
      placed = plan_placed q;
      evaluated = λ g. eqb (kind_of (gates_given q) g) 0;
      blocked = plan_blocked q;
      labelled = search_number q.trace q.copy;
      labels = labels_of q.trace q.copy;
    }

-- 01's state of counts and marks, and the counts of it
abbrev pub state_in : Counts → List ℕ → State
state_in k us =
    record {
      row_count = k.rows;
      word_count = k.s_words;
      cell_count = k.cells;
      table_count = k.tables;
      stacked = k.table_rows;
      used = us;
      phase = k.phase;
    }

abbrev pub counts_in : State → Counts
counts_in s =
    record {
      rows = s.row_count;
      s_words = s.word_count;
      cells = s.cell_count;
      tables = s.table_count;
      table_rows = s.stacked;
      phase = s.phase;
    }

-- the code's state without its plan, and with it
abbrev pub state_of : Intake → State
state_of s = state_in s.counts s.used

abbrev pub with_state : Plan → State → Intake
with_state q s = record { plan = q; counts = counts_in s; used = s.used }

-- "a .. state of zeros, which counts as never opened"
abbrev pub zero_intake : Intake
zero_intake = with_state zero_plan zero_state

-- what a call answered: 0 or a refusal number, and the state that the next call gets
pub record Taken : Type 0 where
  pub number : ℕ
  pub state : Intake

abbrev pub taken_with : ℕ → Intake → Taken
taken_with n s = record { number = n; state = s }

abbrev pub refused_with : ℕ → Intake → Taken
refused_with n s = taken_with n s

-- "A refusal returns its number and the state given"; an accepted call the state after it
abbrev pub answered : ℕ → Intake → State → Taken
answered n s t = pick (eqb n 0) (record { number = 0; state = with_state s.plan t }) (refused_with n s)

-- "no word is written" after a refusal
abbrev pub unless_refused : {B : Type 0} → ℕ → B → B → B
unless_refused n new old = pick (eqb n 0) new old

-- the four lent buffers
abbrev pub store_of : List ℕ → List ℕ → List ℕ → List ℕ → Store
store_of constants copies scratch tables = record { constants = constants; cells = cols copies scratch; tables = tables }

-- "Refused .. opening hands back a .. state of zeros, which counts as never opened."
unfoldable pub open_answer : Plan → Store → Taken
open_answer q b =
    pick (eqb (open_number (setting_of q) b) 0)
    (record { number = 0; state = with_state q open_state })
    (refused_with (open_number (setting_of q) b) zero_intake)

unfoldable pub open_left : Plan → Store → Store
open_left q b = unless_refused (open_number (setting_of q) b) (open_store (setting_of q) b) b

unfoldable pub rows_answer : Intake → List ℕ → List ℕ → Taken
rows_answer s ws b = answered (rows_number (setting_of s.plan) (state_of s) ws b) s (rows_state (state_of s) ws)

unfoldable pub rows_left : Intake → List ℕ → List ℕ → List ℕ
rows_left s ws b = unless_refused (rows_number (setting_of s.plan) (state_of s) ws b) (rows_written (setting_of s.plan) (state_of s) ws b) b

unfoldable pub s_words_answer : Intake → List ℕ → List ℕ → Taken
s_words_answer s ws b = answered (s_words_number (setting_of s.plan) (state_of s) ws b) s (s_words_state (state_of s) ws)

unfoldable pub s_words_left : Intake → List ℕ → List ℕ → List ℕ
s_words_left s ws b = unless_refused (s_words_number (setting_of s.plan) (state_of s) ws b) (s_words_written (setting_of s.plan) (state_of s) ws b) b

unfoldable pub cells_answer : Intake → List ℕ → Cols → Taken
cells_answer s ws b = answered (cells_number (setting_of s.plan) (state_of s) ws b) s (cells_state (state_of s) ws)

unfoldable pub cells_left : Intake → List ℕ → Cols → Cols
cells_left s ws b = unless_refused (cells_number (setting_of s.plan) (state_of s) ws b) (cells_written (state_of s) ws b) b

unfoldable pub tables_answer : Intake → List ℕ → List ℕ → Taken
tables_answer s ws b = answered (tables_number (setting_of s.plan) (state_of s) ws b) s (tables_state (state_of s) ws)

unfoldable pub tables_left : Intake → List ℕ → List ℕ → List ℕ
tables_left s ws b = unless_refused (tables_number (setting_of s.plan) (state_of s) ws b) (tables_written (setting_of s.plan) (state_of s) ws b) b

unfoldable pub finish_answer : Intake → Cols → Taken
finish_answer s b = answered (finish_number (setting_of s.plan) (state_of s) b) s (finished_state (state_of s))

-- scratch is lent to be read alone
unfoldable pub finish_left : Intake → Cols → List ℕ
finish_left s b = unless_refused (finish_number (setting_of s.plan) (state_of s) b) (finished_copies (setting_of s.plan) b) b.copies
