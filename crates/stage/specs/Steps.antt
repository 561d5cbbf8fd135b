-- A call on a state in parts is a step of the caller's chain: from what is kept before the call to what is kept after it.
--
-- Main statements: `step_rows`, `step_words`, `step_cells`, `step_tables`, `step_finishing`.
use Rattle.std.specs.Prelude.{◌≡◌, List, [], ℕ}
use Rattle.std.proofs.Common.{ap, ◌∙◌}
use Rattle.tree.specs.Plan.{outline_of}
use Rattle.tree.specs.declared.plan.Outline.{Outline}
use Rattle.tree.specs.declared.plan.Plan.{Plan}
use Rattle.pieces.specs.Setting.{cols}
use Rattle.pieces.specs.Calls.{rows, s_words, cell_words, table_words, finishing}
use Rattle.columns.specs.Intake.{state_in, with_state, rows_answer, rows_left, s_words_answer, s_words_left, cells_answer, cells_left, tables_answer, tables_left, finish_answer, finish_left}
use Rattle.columns.specs.Given.{intake_in, given_of, marked_of, counted, remarked}
use Rattle.columns.specs.GivenLaws.{bare, words_whole, cells_whole, tables_whole, rows_whole, finish_whole}
use Rattle.columns.specs.declared.intake.Intake.{Intake}
use Rattle.columns.specs.declared.take.Counts.{Counts}
use Rattle.columns.specs.Given.{Given, Marked}
use Rattle.claim.specs.Chain.{Kept, next}
use Rattle.claim.specs.Keeping.{keeping, by_rows, by_words, by_cells, by_tables, by_finishing}

-- a plan and its outline, counts and marks, and the four buffers: what is kept before the call
module _ (q : Plan) (o : Outline) (d : o ≡ outline_of q) (k : Counts) (us : List ℕ) (h : Kept) (constants copies scratch tables : List ℕ)
    (e : keeping (with_state q (state_in k us)) constants copies scratch tables ≡ h) where
  abbrev s : Intake
  s = with_state q (state_in k us)

  -- the same in parts, with marks where they are lent
  abbrev parts : List ℕ → Intake
  parts vs = intake_in o q.gates q.nodes k vs

  pub step_rows : (m : Marked) (ws new : List ℕ) → m ≡ marked_of (rows_answer (parts us) ws constants) → new ≡ rows_left (parts us) ws constants
      → keeping (with_state q (state_in m.counts m.used)) new copies scratch tables ≡ next (rows ws) h
  step_rows m ws new f g =
      let a : m ≡ marked_of (rows_answer s ws constants) = f ∙ rw d in
      let l : new ≡ rows_left s ws constants = g ∙ rw d in
      by_rows h s constants copies scratch tables e (remarked s m) ws new (ap (λ (y : Marked). remarked s y) a ∙ rows_whole s ws constants) l

  pub step_words : (m : Given) (ws new : List ℕ) → m ≡ given_of (s_words_answer (parts []) ws constants) → new ≡ s_words_left (parts []) ws constants
      → keeping (with_state q (state_in m.counts us)) new copies scratch tables ≡ next (s_words ws) h
  step_words m ws new f g =
      let w = words_whole s ws constants in
      let a : m ≡ given_of (s_words_answer (bare s) ws constants) = f ∙ rw d in
      let l : new ≡ s_words_left (bare s) ws constants = g ∙ rw d in
      by_words h s constants copies scratch tables e (counted s m) ws new (ap (λ (y : Given). counted s y) a ∙ w.0) (l ∙ w.1)

  pub step_cells : (m : Given) (ws copies' scratch' : List ℕ) → m ≡ given_of (cells_answer (parts []) ws (cols copies scratch)) → cols copies' scratch' ≡ cells_left (parts []) ws (cols copies scratch)
      → keeping (with_state q (state_in m.counts us)) constants copies' scratch' tables ≡ next (cell_words ws) h
  step_cells m ws copies' scratch' f g =
      let w = cells_whole s ws (cols copies scratch) in
      let a : m ≡ given_of (cells_answer (bare s) ws (cols copies scratch)) = f ∙ rw d in
      let l : cols copies' scratch' ≡ cells_left (bare s) ws (cols copies scratch) = g ∙ rw d in
      by_cells h s constants copies scratch tables e (counted s m) ws copies' scratch' (ap (λ (y : Given). counted s y) a ∙ w.0) (l ∙ w.1)

  pub step_tables : (m : Given) (ws new : List ℕ) → m ≡ given_of (tables_answer (parts []) ws tables) → new ≡ tables_left (parts []) ws tables
      → keeping (with_state q (state_in m.counts us)) constants copies scratch new ≡ next (table_words ws) h
  step_tables m ws new f g =
      let w = tables_whole s ws tables in
      let a : m ≡ given_of (tables_answer (bare s) ws tables) = f ∙ rw d in
      let l : new ≡ tables_left (bare s) ws tables = g ∙ rw d in
      by_tables h s constants copies scratch tables e (counted s m) ws new (ap (λ (y : Given). counted s y) a ∙ w.0) (l ∙ w.1)

  -- scratch is lent to be read alone
  pub step_finishing : (m : Given) (new : List ℕ) → m ≡ given_of (finish_answer (parts us) (cols copies scratch)) → new ≡ finish_left (parts us) (cols copies scratch)
      → keeping (with_state q (state_in m.counts us)) constants new scratch tables ≡ next finishing h
  step_finishing m new f g =
      let a : m ≡ given_of (finish_answer s (cols copies scratch)) = f ∙ rw d in
      let l : new ≡ finish_left s (cols copies scratch) = g ∙ rw d in
      by_finishing h s constants copies scratch tables e (counted s m) new (ap (λ (y : Given). counted s y) a ∙ finish_whole s (cols copies scratch)) l
