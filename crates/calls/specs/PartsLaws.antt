-- The calls on a state in parts: no call changes the plan, and the call of a kind on the parts is the call of the kind.
--
-- Main statements: `plan-kept`; `by_kind_1` to `by_kind_5`.
use Rattle.std.specs.Prelude.{◌≡◌, ◌≢◌, List, ℕ}
use Rattle.std.proofs.Common.{sym, ap, ◌∙◌, arith}
use borrow.Author.Tests.{eq-eqb, ne_eqb}
use Rattle.pieces.specs.Setting.{cols}
use Rattle.pieces.specs.Calls.{Call, rows, s_words, cell_words, table_words, finishing}
use Rattle.columns.specs.Intake.{store_of, rows_answer, rows_left, s_words_answer, s_words_left, cells_answer, cells_left, tables_answer, tables_left, finish_answer, finish_left}
use Rattle.columns.specs.Given.{given_of, marked_with, marked_of, counted, remarked}
use Rattle.columns.specs.GivenLaws.{bare, rows_whole, words_whole, cells_whole, tables_whole, finish_whole}
use Rattle.columns.specs.declared.intake.Intake.{Intake}
use Rattle.columns.specs.Intake.{Taken}
use Rattle.columns.specs.Given.{Given, Marked}
use Rattle.claim.specs.Chain.{Kept, answer, left}
use Rattle.claim.specs.Keeping.{keeping}
use Rattle.calls.specs.Encoded.{call_by}

-- an answer with a state's plan and marks has its plan
counted-kept : (s : Intake) (g : Given) (a : Taken) → counted s g ≡ a → remarked s (marked_of a) ≡ a
counted-kept s g a e = ap (λ (t : Taken). remarked s (marked_of t)) (sym e) ∙ e

-- a call's answer has the plan of the state that it gets
pub plan-kept : (c : Call) (k : Kept) → remarked k.state (marked_of (answer c k)) ≡ answer c k
unfolding answer
plan-kept (rows ws) k = rows_whole k.state ws k.store.constants
plan-kept (s_words ws) k = counted-kept k.state _ _ (words_whole k.state ws k.store.constants).0
plan-kept (cell_words ws) k = counted-kept k.state _ _ (cells_whole k.state ws k.store.cells).0
plan-kept (table_words ws) k = counted-kept k.state _ _ (tables_whole k.state ws k.store.tables).0
plan-kept finishing k = counted-kept k.state _ _ (finish_whole k.state k.store.cells)

-- ---- one call, by its kind
module _ (i : Intake) (n : ℕ) (ws constants copies scratch tables : List ℕ) (m : Marked) where
  abbrev here : Kept
  here = keeping i constants copies scratch tables

  abbrev Answers : List ℕ → List ℕ → List ℕ → List ℕ → Call → Type 0
  Answers k c s t d = (m ≡ marked_of (answer d here)) × (store_of k c s t ≡ left d here)

  pub by_kind_1 : n ≡ 1 → (new : List ℕ) → m ≡ marked_of (rows_answer i ws constants) → new ≡ rows_left i ws constants → Answers new copies scratch tables (call_by n ws)
  unfolding answer left
  by_kind_1 e new f g = rw (eq-eqb n 1 e) (f, rw g)

  -- the others hand back the counts alone: the marks are the state's
  module _ (d : Given) (u : m ≡ marked_with d.number d.counts i.used) where
    with_marks : (g : Given) (a : Taken) → d ≡ g → counted i g ≡ a → m ≡ marked_of a
    with_marks g a e w = u ∙ ap (λ (y : Given). marked_of (counted i y)) e ∙ ap marked_of w

    pub by_kind_2 : n ≡ 2 → (new : List ℕ) → d ≡ given_of (s_words_answer (bare i) ws constants) → new ≡ s_words_left (bare i) ws constants → Answers new copies scratch tables (call_by n ws)
    unfolding answer left
    by_kind_2 e new f g =
        let d₁ : n ≢ 1 = λ z. omega (arith, e, z) in
        let w = words_whole i ws constants in
        rw (ne_eqb n 1 d₁, eq-eqb n 2 e) (with_marks _ _ f w.0, rw (g ∙ w.1))

    pub by_kind_3 : n ≡ 3 → (c s : List ℕ) → d ≡ given_of (cells_answer (bare i) ws (cols copies scratch)) → cols c s ≡ cells_left (bare i) ws (cols copies scratch)
        → Answers constants c s tables (call_by n ws)
    unfolding answer left
    by_kind_3 e c s f g =
        let d₁ : n ≢ 1 = λ z. omega (arith, e, z) in
        let d₂ : n ≢ 2 = λ z. omega (arith, e, z) in
        let w = cells_whole i ws (cols copies scratch) in
        rw (ne_eqb n 1 d₁, ne_eqb n 2 d₂, eq-eqb n 3 e) (with_marks _ _ f w.0, rw (g ∙ w.1))

    pub by_kind_4 : n ≡ 4 → (new : List ℕ) → d ≡ given_of (tables_answer (bare i) ws tables) → new ≡ tables_left (bare i) ws tables → Answers constants copies scratch new (call_by n ws)
    unfolding answer left
    by_kind_4 e new f g =
        let d₁ : n ≢ 1 = λ z. omega (arith, e, z) in
        let d₂ : n ≢ 2 = λ z. omega (arith, e, z) in
        let d₃ : n ≢ 3 = λ z. omega (arith, e, z) in
        let w = tables_whole i ws tables in
        rw (ne_eqb n 1 d₁, ne_eqb n 2 d₂, ne_eqb n 3 d₃, eq-eqb n 4 e) (with_marks _ _ f w.0, rw (g ∙ w.1))

    pub by_kind_5 : n ≢ 1 → n ≢ 2 → n ≢ 3 → n ≢ 4 → (new : List ℕ) → d ≡ given_of (finish_answer i (cols copies scratch)) → new ≡ finish_left i (cols copies scratch)
        → Answers constants new scratch tables (call_by n ws)
    unfolding answer left
    by_kind_5 d₁ d₂ d₃ d₄ new f g =
        rw (ne_eqb n 1 d₁, ne_eqb n 2 d₂, ne_eqb n 3 d₃, ne_eqb n 4 d₄) (with_marks _ _ f (finish_whole i (cols copies scratch)), rw g)
