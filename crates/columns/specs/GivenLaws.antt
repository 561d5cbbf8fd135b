-- A call on a state in parts is the call on the state: its number and what it writes do not depend on the marks, where it is not lent them.
--
-- Main statements: `small`; `words_whole`, `cells_whole`, `tables_whole`, `rows_whole`, `finish_whole`.
use Rattle.std.specs.Prelude.{Bool, true, false, List, [], ◌≡◌, ℕ, eqb}
use Rattle.std.proofs.Common.{◌∙◌, ap, sym}
use Rattle.std.proofs.Math.Path.{refl}
use Rattle.base.specs.Pick.{pick}
use Rattle.tree.specs.Plan.{plan_fault, plan_in}
use Rattle.tree.specs.SoundLaws.{sound}
use Rattle.tree.specs.declared.plan.Outline.{Outline}
use Rattle.pieces.specs.Setting.{Cols, State, counts_fit, stands}
use Rattle.pieces.specs.Rows.{rows_number, rows_state}
use Rattle.pieces.specs.SWords.{s_words_number, s_words_written, s_words_state}
use Rattle.pieces.specs.Cells.{cells_number, cells_state}
use Rattle.pieces.specs.Tables.{tables_number, tables_written, tables_state}
use Rattle.pieces.specs.Finishing.{finish_number, finished_state}
use Rattle.columns.specs.Intake.{state_in, counts_in, answered, setting_of, with_state, state_of, rows_answer, s_words_answer, s_words_left, cells_answer, cells_left, tables_answer, tables_left, finish_answer}
use Rattle.columns.specs.Given.{given_of, marked_of, counted, remarked}
use Rattle.columns.specs.Rooms.{Small}
use Rattle.columns.specs.declared.intake.Intake.{Intake}
use Rattle.columns.specs.declared.take.Counts.{Counts}

-- the numbers of a plan without a fault are small
pub small : (o : Outline) (gs ns : List ℕ) → plan_fault (plan_in o gs ns) ≡ 0 → Small o
small o gs ns e =
    let w = sound (plan_in o gs ns) e in
    record {
      long = w.ranges.long;
      columns = w.ranges.columns;
      special = w.special;
      variables = w.variables;
      width = w.width;
      height = w.height;
    }

-- a state without its marks
abbrev pub bare : Intake → Intake
bare s = with_state s.plan (state_in s.counts [])

-- an answer of the same number, with counts that do not depend on the marks
counted-answer : (s : Intake) (n : ℕ) (t u : State) → counts_in t ≡ counts_in u → u.used ≡ s.used
    → counted s (given_of (answered n (bare s) t)) ≡ answered n s u
counted-answer s n t u e d = by (eqb n 0)
  where
    by : (b : Bool) → counted s (given_of (pick b (record { number = 0; state = with_state s.plan t }) (record { number = n; state = bare s }))) ≡ pick b (record { number = 0; state = with_state s.plan u }) (record { number = n; state = s })
    by true =
        ap (λ (k : Counts). record { number = 0; state = with_state s.plan (state_in k s.used) }) e
        ∙ ap (λ (us : List ℕ). record { number = 0; state = with_state s.plan (state_in (counts_in u) us) }) (sym d)
    by false = refl

module _ (s : Intake) (ws : List ℕ) where
  pub words_whole : (b : List ℕ) → (counted s (given_of (s_words_answer (bare s) ws b)) ≡ s_words_answer s ws b) × (s_words_left (bare s) ws b ≡ s_words_left s ws b)
  unfolding s_words_answer s_words_left s_words_number s_words_written stands counts_fit
  words_whole b = (counted-answer s (s_words_number (setting_of s.plan) (state_of s) ws b) (s_words_state (state_of (bare s)) ws) (s_words_state (state_of s) ws) refl refl, refl)

  pub cells_whole : (b : Cols) → (counted s (given_of (cells_answer (bare s) ws b)) ≡ cells_answer s ws b) × (cells_left (bare s) ws b ≡ cells_left s ws b)
  unfolding cells_answer cells_left cells_number stands counts_fit
  cells_whole b = (counted-answer s (cells_number (setting_of s.plan) (state_of s) ws b) (cells_state (state_of (bare s)) ws) (cells_state (state_of s) ws) refl refl, refl)

  pub tables_whole : (b : List ℕ) → (counted s (given_of (tables_answer (bare s) ws b)) ≡ tables_answer s ws b) × (tables_left (bare s) ws b ≡ tables_left s ws b)
  unfolding tables_answer tables_left tables_number tables_written stands counts_fit
  tables_whole b = (counted-answer s (tables_number (setting_of s.plan) (state_of s) ws b) (tables_state (state_of (bare s)) ws) (tables_state (state_of s) ws) refl refl, refl)

-- where the marks are lent too, the answer is whole with the plan alone
plan-kept : (s : Intake) (n : ℕ) (t : State) → remarked s (marked_of (answered n s t)) ≡ answered n s t
plan-kept s n t = by (eqb n 0)
  where
    by : (b : Bool) → remarked s (marked_of (pick b (record { number = 0; state = with_state s.plan t }) (record { number = n; state = s }))) ≡ pick b (record { number = 0; state = with_state s.plan t }) (record { number = n; state = s })
    by true = refl
    by false = refl

pub rows_whole : (s : Intake) (ws b : List ℕ) → remarked s (marked_of (rows_answer s ws b)) ≡ rows_answer s ws b
unfolding rows_answer
rows_whole s ws b = plan-kept s (rows_number (setting_of s.plan) (state_of s) ws b) (rows_state (state_of s) ws)

-- finishing changes no mark
marks_kept : (s : Intake) (n : ℕ) → counted s (given_of (answered n s (finished_state (state_of s)))) ≡ answered n s (finished_state (state_of s))
marks_kept s n = by (eqb n 0)
  where
    by : (b : Bool) → counted s (given_of (pick b (record { number = 0; state = with_state s.plan (finished_state (state_of s)) }) (record { number = n; state = s }))) ≡ pick b (record { number = 0; state = with_state s.plan (finished_state (state_of s)) }) (record { number = n; state = s })
    by true = refl
    by false = refl

pub finish_whole : (s : Intake) (b : Cols) → counted s (given_of (finish_answer s b)) ≡ finish_answer s b
unfolding finish_answer
finish_whole s b = marks_kept s (finish_number (setting_of s.plan) (state_of s) b)
