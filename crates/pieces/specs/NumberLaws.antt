-- Laws of the calls' numbers: 19 first, then 10, then the section's own; and what acceptance says.
--
-- Main definitions: `Counted`, `Stood`. Main statements: `counted`, `stood`, and for each call what it means that it is accepted: `rows_accepted`, `words_accepted`, `cells_accepted`,
-- `tables_accepted`, `finish_accepted`.
use Rattle.std.specs.Prelude.{◌≡◌, Bool, true, false, List, ℕ, ◌≤◌, length, leb, eqb}
use Rattle.std.proofs.Common.{arith, leb-true, eqb-true}
use Rattle.base.specs.Pick.{pick, both, pick-zero, both_true}
use Rattle.pieces.specs.Setting.{Setting, State, Cols, constant_room, copy_room, table_room, special_room, most_tables, is_opened, counts_fit, stands}
use Rattle.pieces.specs.Records.{rows_of, tables_of}
use Rattle.pieces.specs.Rows.{gates_of, rows_fault, rows_number}
use Rattle.pieces.specs.SWords.{s_words_fault, s_words_number}
use Rattle.pieces.specs.Cells.{cells_fault, cells_number, room_for_cells}
use Rattle.pieces.specs.Tables.{tables_fault, tables_number, stack_of}
use Rattle.pieces.specs.Finishing.{complete, all_used, scratch_fine, finish_number}

-- what counts within their sections are
pub record Counted (x : Setting) (s : State) : Type 0 where
  pub rows_in : s.row_count ≤ x.trace
  pub words_in : s.word_count ≤ special_room x
  pub cells_in : s.cell_count ≤ copy_room x
  pub tables_in : s.table_count ≤ most_tables
  pub stack_in : s.stacked ≤ x.trace

-- in mode 0 the table section is empty
lookup_room : (b : Bool) (n N : ℕ) → n ≤ pick b N 0 → n ≤ N
lookup_room true n N h = h
lookup_room false n N h = omega arith

pub counted : (x : Setting) (s : State) → counts_fit x s ≡ true → Counted x s
unfolding counts_fit
counted x s e =
    let t6 = both (leb s.table_count (pick x.lookup most_tables 0)) (leb s.stacked (pick x.lookup x.trace 0)) in
    let t5 = both (leb s.cell_count (copy_room x)) t6 in
    let t4 = both (leb s.word_count (special_room x)) t5 in
    let c = both_true (leb s.row_count x.trace) t4 e in
    let d = both_true (leb s.word_count (special_room x)) t5 c.1 in
    let f = both_true (leb s.cell_count (copy_room x)) t6 d.1 in
    let g = both_true (leb s.table_count (pick x.lookup most_tables 0)) (leb s.stacked (pick x.lookup x.trace 0)) f.1 in
    record {
      rows_in = leb-true s.row_count x.trace c.0;
      words_in = leb-true s.word_count (special_room x) d.0;
      cells_in = leb-true s.cell_count (copy_room x) f.0;
      tables_in = lookup_room x.lookup s.table_count most_tables (leb-true s.table_count (pick x.lookup most_tables 0) g.0);
      stack_in = lookup_room x.lookup s.stacked x.trace (leb-true s.stacked (pick x.lookup x.trace 0) g.1);
    }

-- what a state that is not made-up has
pub record Stood (x : Setting) (s : State) : Type 0 where
  pub sound_plan : x.sound ≡ true
  pub is_open : s.phase ≡ is_opened
  pub counts : Counted x s

pub stood : (x : Setting) (s : State) → stands x s ≡ true → Stood x s
unfolding stands
stood x s e =
    let a = both_true x.sound (both (eqb s.phase is_opened) (counts_fit x s)) e in
    let b = both_true (eqb s.phase is_opened) (counts_fit x s) a.1 in
    record { sound_plan = a.0; is_open = eqb-true s.phase is_opened b.0; counts = counted x s b.1 }

-- ---- a call whose number is 0
pub record Accepted (x : Setting) (s : State) (room : Bool) (fault : ℕ) : Type 0 where
  pub stood_state : Stood x s
  pub long : room ≡ true
  pub no_fault : fault ≡ 0

accepted : (x : Setting) (s : State) (room : Bool) (fault : ℕ) → pick (stands x s) (pick room fault 10) 19 ≡ 0 → Accepted x s room fault
accepted x s room fault e =
    let a = pick-zero (stands x s) (pick room fault 10) 19 (λ q. omega arith) e in
    let b = pick-zero room fault 10 (λ q. omega arith) a.1 in
    record { stood_state = stood x s a.0; long = b.0; no_fault = b.1 }

module _ (x : Setting) (s : State) where
  pub rows_accepted : (ws b : List ℕ) → rows_number x s ws b ≡ 0
      → Accepted x s (leb (constant_room x) (length b)) (rows_fault (gates_of x) x.trace s.row_count (rows_of ws))
  unfolding rows_number
  rows_accepted ws b e = accepted x s _ _ e

  pub words_accepted : (ws b : List ℕ) → s_words_number x s ws b ≡ 0
      → Accepted x s (leb (constant_room x) (length b)) (s_words_fault (special_room x) s.word_count ws)
  unfolding s_words_number
  words_accepted ws b e = accepted x s _ _ e

  pub cells_accepted : (ws : List ℕ) (b : Cols) → cells_number x s ws b ≡ 0
      → Accepted x s (room_for_cells x b) (cells_fault (copy_room x) x.variables s.cell_count ws)
  unfolding cells_number
  cells_accepted ws b e = accepted x s _ _ e

  pub tables_accepted : (ws b : List ℕ) → tables_number x s ws b ≡ 0
      → Accepted x s (leb (table_room x) (length b)) (tables_fault x.lookup x.width x.trace (stack_of s) (tables_of ws))
  unfolding tables_number
  tables_accepted ws b e = accepted x s _ _ e

-- an accepted finishing
pub record Ended (x : Setting) (s : State) (b : Cols) : Type 0 where
  pub stood_state : Stood x s
  pub rows_all : s.row_count ≡ x.trace
  pub words_all : s.word_count ≡ special_room x
  pub cells_all : s.cell_count ≡ copy_room x
  pub gates_used : all_used x.gates s.used ≡ true
  pub scratch-fine : scratch_fine x.variables (copy_room x) b.scratch ≡ true

pub finish_accepted : (x : Setting) (s : State) (b : Cols) → finish_number x s b ≡ 0 → Ended x s b
unfolding finish_number complete
finish_accepted x s b e =
    let t2 : ℕ = pick (scratch_fine x.variables (copy_room x) b.scratch) 0 18 in
    let t1 : ℕ = pick (all_used x.gates s.used) t2 17 in
    let a = accepted x s (room_for_cells x b) (pick (complete x s) t1 16) e in
    let c = pick-zero (complete x s) t1 16 (λ q. omega arith) a.no_fault in
    let d = pick-zero (all_used x.gates s.used) t2 17 (λ q. omega arith) c.1 in
    let f = pick-zero (scratch_fine x.variables (copy_room x) b.scratch) 0 18 (λ q. omega arith) d.1 in
    let k = both (eqb s.word_count (special_room x)) (eqb s.cell_count (copy_room x)) in
    let u = both_true (eqb s.row_count x.trace) k c.0 in
    let v = both_true (eqb s.word_count (special_room x)) (eqb s.cell_count (copy_room x)) u.1 in
    record {
      stood_state = a.stood_state;
      rows_all = eqb-true s.row_count x.trace u.0;
      words_all = eqb-true s.word_count (special_room x) v.0;
      cells_all = eqb-true s.cell_count (copy_room x) v.1;
      gates_used = d.0;
      scratch-fine = f.0;
    }
