-- The answers of the intake's calls, case by case: 19, then 10, then the section's own number, then acceptance.
--
-- Main statements: for each call its number in each case, `..-refused` (the state and the buffers as they were) and `..-taken`.
use Rattle.std.specs.Prelude.{◌≡◌, refl, ◌≢◌, Bool, true, false, List, ℕ, ◌≤◌, ◌<◌, length, eqb}
use Rattle.std.proofs.Common.{sym, ◌∙◌, arith}
use Rattle.std.proofs.Math.Dec.{leb}
use borrow.Author.Tests.{eq-eqb, ne_eqb, eqb-true, le-leb, lt-leb, leb-true}
use Rattle.base.specs.Pick.{pick, both, pick_yes, pick_no, both_true}
use Rattle.tree.specs.Plan.{plan_fault}
use Rattle.tree.specs.declared.plan.Plan.{Plan}
use Rattle.pieces.specs.Setting.{Setting, State, Store, Cols, counts_fit, stands, is_opened, constant_room, copy_room, scratch_room, table_room, special_room}
use Rattle.pieces.specs.Records.{rows_of, tables_of}
use Rattle.pieces.specs.Opening.{room_to_open, open_number, open_store, open_state}
use Rattle.pieces.specs.Rows.{gates_of, rows_fault, rows_number, rows_written, rows_state}
use Rattle.pieces.specs.SWords.{s_words_fault, s_words_number, s_words_written, s_words_state}
use Rattle.pieces.specs.Cells.{cells_fault, cells_number, room_for_cells, cells_written, cells_state}
use Rattle.pieces.specs.Tables.{tables_fault, tables_number, tables_written, tables_state, stack_of}
use Rattle.pieces.specs.Finishing.{complete, all_used, scratch_fine, finish_number, finished_copies, finished_state}
use Rattle.pieces.specs.NumberLaws.{stood}
use Rattle.columns.specs.Intake.{Taken, setting_of, state_of, with_state, zero_intake, answered, unless_refused, refused_with, open_answer, open_left, rows_answer, rows_left, s_words_answer, s_words_left, cells_answer, cells_left, tables_answer, tables_left, finish_answer, finish_left}
use Rattle.columns.specs.declared.intake.Intake.{Intake}

-- a state that stands has a plan without a fault
pub plan_fine : (s : Intake) → stands (setting_of s.plan) (state_of s) ≡ true → plan_fault s.plan ≡ 0
plan_fine s e = eqb-true (plan_fault s.plan) 0 (stood (setting_of s.plan) (state_of s) e).sound_plan

-- the three tests of a state: its plan, its phase, its counts
module _ (s : Intake) where
  pub falls_plan : plan_fault s.plan ≢ 0 → stands (setting_of s.plan) (state_of s) ≡ false
  unfolding stands
  falls_plan d = rw (ne_eqb (plan_fault s.plan) 0 d)

  module _ (e : plan_fault s.plan ≡ 0) where
    pub falls_phase : s.counts.phase ≢ is_opened → stands (setting_of s.plan) (state_of s) ≡ false
    unfolding stands
    falls_phase d = rw (eq-eqb (plan_fault s.plan) 0 e, ne_eqb s.counts.phase is_opened d)

    pub stands_counts : s.counts.phase ≡ is_opened → stands (setting_of s.plan) (state_of s) ≡ counts_fit (setting_of s.plan) (state_of s)
    unfolding stands
    stands_counts o = rw (eq-eqb (plan_fault s.plan) 0 e, eq-eqb s.counts.phase is_opened o)

-- ---- an answer, by its number
refused_answer : (n : ℕ) (s : Intake) (t : State) → n ≢ 0 → refused_with n s ≡ answered n s t
refused_answer n s t d = sym (rw (ne_eqb n 0 d))

taken-answer : (n : ℕ) (s : Intake) (t : State) → n ≡ 0 → ◌≡◌ {A = Taken} (record { number = 0; state = with_state s.plan t }) (answered n s t)
taken-answer n s t e = sym (rw (eq-eqb n 0 e))

refused_left : {B : Type 0} (n : ℕ) (new old : B) → n ≢ 0 → old ≡ unless_refused n new old
refused_left n new old d = sym (rw (ne_eqb n 0 d))

taken-left : {B : Type 0} (n : ℕ) (new old : B) → n ≡ 0 → new ≡ unless_refused n new old
taken-left n new old e = sym (rw (eq-eqb n 0 e))

module _ (s : Intake) (ws : List ℕ) where
  abbrev x : Setting
  x = setting_of s.plan

  abbrev st : State
  st = state_of s

  -- ---- rows
  module _ (b : List ℕ) where
    pub rows_19 : stands x st ≡ false → rows_number x st ws b ≡ 19
    unfolding rows_number
    rows_19 e = rw e

    pub rows_10 : stands x st ≡ true → length b < constant_room x → rows_number x st ws b ≡ 10
    unfolding rows_number
    rows_10 e h = rw (e, lt-leb (constant_room x) (length b) h)

    pub rows_own : stands x st ≡ true → constant_room x ≤ length b → rows_number x st ws b ≡ rows_fault (gates_of x) x.trace st.row_count (rows_of ws)
    unfolding rows_number
    rows_own e h = rw (e, le-leb (constant_room x) (length b) h)

    pub rows_refused : (n : ℕ) → rows_number x st ws b ≡ n → n ≢ 0 → (refused_with n s ≡ rows_answer s ws b) × (b ≡ rows_left s ws b)
    unfolding rows_answer rows_left
    rows_refused n e d = rw e (refused_answer n s (rows_state st ws) d, refused_left n (rows_written x st ws b) b d)

    pub rows_taken : rows_number x st ws b ≡ 0 → (◌≡◌ {A = Taken} (record { number = 0; state = with_state s.plan (rows_state st ws) }) (rows_answer s ws b)) × (rows_written x st ws b ≡ rows_left s ws b)
    unfolding rows_answer rows_left
    rows_taken e = (taken-answer (rows_number x st ws b) s (rows_state st ws) e, taken-left (rows_number x st ws b) (rows_written x st ws b) b e)

    -- ---- S words
    pub words_19 : stands x st ≡ false → s_words_number x st ws b ≡ 19
    unfolding s_words_number
    words_19 e = rw e

    pub words_10 : stands x st ≡ true → length b < constant_room x → s_words_number x st ws b ≡ 10
    unfolding s_words_number
    words_10 e h = rw (e, lt-leb (constant_room x) (length b) h)

    pub words_own : stands x st ≡ true → constant_room x ≤ length b → s_words_number x st ws b ≡ s_words_fault (special_room x) st.word_count ws
    unfolding s_words_number
    words_own e h = rw (e, le-leb (constant_room x) (length b) h)

    pub words_refused : (n : ℕ) → s_words_number x st ws b ≡ n → n ≢ 0 → (refused_with n s ≡ s_words_answer s ws b) × (b ≡ s_words_left s ws b)
    unfolding s_words_answer s_words_left
    words_refused n e d = rw e (refused_answer n s (s_words_state st ws) d, refused_left n (s_words_written x st ws b) b d)

    pub words-taken : s_words_number x st ws b ≡ 0 → (◌≡◌ {A = Taken} (record { number = 0; state = with_state s.plan (s_words_state st ws) }) (s_words_answer s ws b)) × (s_words_written x st ws b ≡ s_words_left s ws b)
    unfolding s_words_answer s_words_left
    words-taken e = (taken-answer (s_words_number x st ws b) s (s_words_state st ws) e, taken-left (s_words_number x st ws b) (s_words_written x st ws b) b e)

    -- ---- tables
    pub tables_19 : stands x st ≡ false → tables_number x st ws b ≡ 19
    unfolding tables_number
    tables_19 e = rw e

    pub tables_10 : stands x st ≡ true → length b < table_room x → tables_number x st ws b ≡ 10
    unfolding tables_number
    tables_10 e h = rw (e, lt-leb (table_room x) (length b) h)

    pub tables_own : stands x st ≡ true → table_room x ≤ length b → tables_number x st ws b ≡ tables_fault x.lookup x.width x.trace (stack_of st) (tables_of ws)
    unfolding tables_number
    tables_own e h = rw (e, le-leb (table_room x) (length b) h)

    pub tables_refused : (n : ℕ) → tables_number x st ws b ≡ n → n ≢ 0 → (refused_with n s ≡ tables_answer s ws b) × (b ≡ tables_left s ws b)
    unfolding tables_answer tables_left
    tables_refused n e d = rw e (refused_answer n s (tables_state st ws) d, refused_left n (tables_written x st ws b) b d)

    pub tables-taken : tables_number x st ws b ≡ 0 → (◌≡◌ {A = Taken} (record { number = 0; state = with_state s.plan (tables_state st ws) }) (tables_answer s ws b)) × (tables_written x st ws b ≡ tables_left s ws b)
    unfolding tables_answer tables_left
    tables-taken e = (taken-answer (tables_number x st ws b) s (tables_state st ws) e, taken-left (tables_number x st ws b) (tables_written x st ws b) b e)

  -- ---- cells
  module _ (b : Cols) where
    pub cells_19 : stands x st ≡ false → cells_number x st ws b ≡ 19
    unfolding cells_number
    cells_19 e = rw e

    pub cells_10_copies : stands x st ≡ true → length b.copies < copy_room x → cells_number x st ws b ≡ 10
    unfolding cells_number room_for_cells
    cells_10_copies e h = rw (e, lt-leb (copy_room x) (length b.copies) h)

    pub cells_10_scratch : stands x st ≡ true → copy_room x ≤ length b.copies → length b.scratch < scratch_room x → cells_number x st ws b ≡ 10
    unfolding cells_number room_for_cells
    cells_10_scratch e h k = rw (e, le-leb (copy_room x) (length b.copies) h, lt-leb (scratch_room x) (length b.scratch) k)

    pub cells_own : stands x st ≡ true → copy_room x ≤ length b.copies → scratch_room x ≤ length b.scratch → cells_number x st ws b ≡ cells_fault (copy_room x) x.variables st.cell_count ws
    unfolding cells_number room_for_cells
    cells_own e h k = rw (e, le-leb (copy_room x) (length b.copies) h, le-leb (scratch_room x) (length b.scratch) k)

    pub cells_refused : (n : ℕ) → cells_number x st ws b ≡ n → n ≢ 0 → (refused_with n s ≡ cells_answer s ws b) × (b ≡ cells_left s ws b)
    unfolding cells_answer cells_left
    cells_refused n e d = rw e (refused_answer n s (cells_state st ws) d, refused_left n (cells_written st ws b) b d)

    pub cells_taken : cells_number x st ws b ≡ 0 → (◌≡◌ {A = Taken} (record { number = 0; state = with_state s.plan (cells_state st ws) }) (cells_answer s ws b)) × (cells_written st ws b ≡ cells_left s ws b)
    unfolding cells_answer cells_left
    cells_taken e = (taken-answer (cells_number x st ws b) s (cells_state st ws) e, taken-left (cells_number x st ws b) (cells_written st ws b) b e)

-- ---- opening
-- 10 or 0, and the test behind it
pub short_room : (t : Bool) (n : ℕ) → n ≡ pick t 0 10 → n ≢ 0 → (t ≡ false) × (n ≡ 10)
short_room true n e d = absurd (d e)
short_room false n e d = (refl, e)

pub long_room : (t : Bool) (n : ℕ) → n ≡ pick t 0 10 → n ≡ 0 → t ≡ true
long_room true n e z = refl
long_room false n e z = absurd (omega arith)

module _ (q : Plan) (b : Store) where
  abbrev o : Setting
  o = setting_of q

  pub open_19 : plan_fault q ≢ 0 → open_number o b ≡ 19
  unfolding open_number
  open_19 d = rw (ne_eqb (plan_fault q) 0 d)

  pub open_10 : plan_fault q ≡ 0 → room_to_open o b ≡ false → open_number o b ≡ 10
  unfolding open_number
  open_10 e h = pick_yes (eqb (plan_fault q) 0) (pick (room_to_open o b) o.labelled 10) 19 (eq-eqb (plan_fault q) 0 e) ∙ pick_no (room_to_open o b) o.labelled 10 h

  pub open_own : plan_fault q ≡ 0 → room_to_open o b ≡ true → open_number o b ≡ o.labelled
  unfolding open_number
  open_own e h = pick_yes (eqb (plan_fault q) 0) (pick (room_to_open o b) o.labelled 10) 19 (eq-eqb (plan_fault q) 0 e) ∙ pick_yes (room_to_open o b) o.labelled 10 h

  pub short_constants : length b.constants < constant_room o → room_to_open o b ≡ false
  unfolding room_to_open
  short_constants h = rw (lt-leb (constant_room o) (length b.constants) h)

  pub short_copies : constant_room o ≤ length b.constants → length b.cells.copies < copy_room o → room_to_open o b ≡ false
  unfolding room_to_open
  short_copies h k = rw (le-leb (constant_room o) (length b.constants) h, lt-leb (copy_room o) (length b.cells.copies) k)

  pub short_scratch : constant_room o ≤ length b.constants → copy_room o ≤ length b.cells.copies → length b.cells.scratch < scratch_room o → room_to_open o b ≡ false
  unfolding room_to_open
  short_scratch h k l = rw (le-leb (constant_room o) (length b.constants) h, le-leb (copy_room o) (length b.cells.copies) k, lt-leb (scratch_room o) (length b.cells.scratch) l)

  pub short_tables : constant_room o ≤ length b.constants → copy_room o ≤ length b.cells.copies → scratch_room o ≤ length b.cells.scratch → length b.tables < table_room o → room_to_open o b ≡ false
  unfolding room_to_open
  short_tables h k l m =
      rw (le-leb (constant_room o) (length b.constants) h, le-leb (copy_room o) (length b.cells.copies) k, le-leb (scratch_room o) (length b.cells.scratch) l, lt-leb (table_room o) (length b.tables) m)

  pub long_enough : constant_room o ≤ length b.constants → copy_room o ≤ length b.cells.copies → scratch_room o ≤ length b.cells.scratch → table_room o ≤ length b.tables → room_to_open o b ≡ true
  unfolding room_to_open
  long_enough h k l m =
      rw (le-leb (constant_room o) (length b.constants) h, le-leb (copy_room o) (length b.cells.copies) k, le-leb (scratch_room o) (length b.cells.scratch) l, le-leb (table_room o) (length b.tables) m)

  -- and back: each buffer has its named words
  pub opened_long : room_to_open o b ≡ true → (constant_room o ≤ length b.constants) × (copy_room o ≤ length b.cells.copies) × (scratch_room o ≤ length b.cells.scratch) × (table_room o ≤ length b.tables)
  unfolding room_to_open
  opened_long e =
      let t3 = leb (table_room o) (length b.tables) in
      let t2 = both (leb (scratch_room o) (length b.cells.scratch)) t3 in
      let t1 = both (leb (copy_room o) (length b.cells.copies)) t2 in
      let h = both_true (leb (constant_room o) (length b.constants)) t1 e in
      let k = both_true (leb (copy_room o) (length b.cells.copies)) t2 h.1 in
      let l = both_true (leb (scratch_room o) (length b.cells.scratch)) t3 k.1 in
      (leb-true (constant_room o) (length b.constants) h.0, leb-true (copy_room o) (length b.cells.copies) k.0, leb-true (scratch_room o) (length b.cells.scratch) l.0, leb-true (table_room o) (length b.tables) l.1)

  pub open_refused : (n : ℕ) → open_number o b ≡ n → n ≢ 0 → (refused_with n zero_intake ≡ open_answer q b) × (b ≡ open_left q b)
  unfolding open_answer open_left
  open_refused n e d = rw e (sym (rw (ne_eqb n 0 d)), refused_left n (open_store o b) b d)

  pub open_taken : open_number o b ≡ 0 → (◌≡◌ {A = Taken} (record { number = 0; state = with_state q open_state }) (open_answer q b)) × (open_store o b ≡ open_left q b)
  unfolding open_answer open_left
  open_taken e = (sym (rw (eq-eqb (open_number o b) 0 e)), taken-left (open_number o b) (open_store o b) b e)

-- ---- finishing
module _ (s : Intake) (b : Cols) where
  abbrev y : Setting
  y = setting_of s.plan

  pub finish_19 : stands y (state_of s) ≡ false → finish_number y (state_of s) b ≡ 19
  unfolding finish_number
  finish_19 e = rw e

  pub finish_10_copies : stands y (state_of s) ≡ true → length b.copies < copy_room y → finish_number y (state_of s) b ≡ 10
  unfolding finish_number room_for_cells
  finish_10_copies e h = rw (e, lt-leb (copy_room y) (length b.copies) h)

  pub finish_10_scratch : stands y (state_of s) ≡ true → copy_room y ≤ length b.copies → length b.scratch < scratch_room y → finish_number y (state_of s) b ≡ 10
  unfolding finish_number room_for_cells
  finish_10_scratch e h k = rw (e, le-leb (copy_room y) (length b.copies) h, lt-leb (scratch_room y) (length b.scratch) k)

  -- what is left to test once the buffers are long enough
  abbrev left_over : ℕ
  left_over = pick (complete y (state_of s)) (pick (all_used y.gates s.used) (pick (scratch_fine y.variables (copy_room y) b.scratch) 0 18) 17) 16

  finish_own : stands y (state_of s) ≡ true → copy_room y ≤ length b.copies → scratch_room y ≤ length b.scratch → finish_number y (state_of s) b ≡ left_over
  unfolding finish_number room_for_cells
  finish_own e h k = rw (e, le-leb (copy_room y) (length b.copies) h, le-leb (scratch_room y) (length b.scratch) k)

  module _ (e : stands y (state_of s) ≡ true) (h : copy_room y ≤ length b.copies) (k : scratch_room y ≤ length b.scratch) where
    pub finish_16 : complete y (state_of s) ≡ false → finish_number y (state_of s) b ≡ 16
    finish_16 q = finish_own e h k ∙ pick_no (complete y (state_of s)) _ 16 q

    pub finish_17 : complete y (state_of s) ≡ true → all_used y.gates s.used ≡ false → finish_number y (state_of s) b ≡ 17
    finish_17 q u = finish_own e h k ∙ pick_yes (complete y (state_of s)) _ 16 q ∙ pick_no (all_used y.gates s.used) _ 17 u

    pub finish_18 : complete y (state_of s) ≡ true → all_used y.gates s.used ≡ true → scratch_fine y.variables (copy_room y) b.scratch ≡ false → finish_number y (state_of s) b ≡ 18
    finish_18 q u f =
        finish_own e h k ∙ pick_yes (complete y (state_of s)) _ 16 q ∙ pick_yes (all_used y.gates s.used) _ 17 u ∙ pick_no (scratch_fine y.variables (copy_room y) b.scratch) 0 18 f

    pub finish_0 : complete y (state_of s) ≡ true → all_used y.gates s.used ≡ true → scratch_fine y.variables (copy_room y) b.scratch ≡ true → finish_number y (state_of s) b ≡ 0
    finish_0 q u f =
        finish_own e h k ∙ pick_yes (complete y (state_of s)) _ 16 q ∙ pick_yes (all_used y.gates s.used) _ 17 u ∙ pick_yes (scratch_fine y.variables (copy_room y) b.scratch) 0 18 f

  pub finish_refused : (n : ℕ) → finish_number y (state_of s) b ≡ n → n ≢ 0 → (refused_with n s ≡ finish_answer s b) × (b.copies ≡ finish_left s b)
  unfolding finish_answer finish_left
  finish_refused n e d = rw e (refused_answer n s (finished_state (state_of s)) d, refused_left n (finished_copies y b) b.copies d)

  pub finish_taken : finish_number y (state_of s) b ≡ 0 → (◌≡◌ {A = Taken} (record { number = 0; state = with_state s.plan (finished_state (state_of s)) }) (finish_answer s b)) × (finished_copies y b ≡ finish_left s b)
  unfolding finish_answer finish_left
  finish_taken e = (taken-answer (finish_number y (state_of s) b) s (finished_state (state_of s)) e, taken-left (finish_number y (state_of s) b) (finished_copies y b) b.copies e)
