-- `stage::circuit::give_sections` meets its contract: each call on the plan's parts is the next step of the chain.
use Rattle.std.proofs.Common.{refl, ap, ◌∙◌}
use Rattle.std.specs.Prelude.{◌≡◌, []}
use Rattle.refusal.specs.Refusal.{answer_number}
use Rattle.tree.specs.Plan.{outline_of}
use Rattle.pieces.specs.Calls.{rows, s_words, cell_words, table_words}
use Rattle.pieces.specs.Setting.{cols}
use Rattle.columns.specs.Intake.{state_in, with_state, rows_answer, rows_left, s_words_answer, s_words_left, cells_answer, cells_left, tables_answer, tables_left, finish_answer, finish_left}
use Rattle.columns.specs.Given.{given_of, given_with, marked_of, marked_with}
use Rattle.claim.specs.Chain.{Kept, next, chained}
use Rattle.claim.specs.Keeping.{keeping}
use Rattle.stage.specs.Steps.{step_rows, step_words, step_cells, step_tables, step_finishing}
use Rattle.stage.proofs.circuit.give_sections.Goals as goal

pub returns : goal.returns
unfolding chained
returns c =
    let a = c.args in
    let q = a.plan.now in
    let p = c.parts-parts.ensures in
    let r = c.take_rows in
    let w = c.take_s_words in
    let e = c.take_cells in
    let t = c.take_tables in
    let f = c.take_finish in
    let m = r.new.used in
    let d₁ = r.new.constants in
    let d₂ = w.new.constants in
    let p₁ = e.new.copies in
    let z₁ = e.new.scratch in
    let b₁ = t.new.tables in
    let p₂ = f.new.copies in
    let h₀ : Kept = keeping (with_state q (state_in a.counts a.used)) a.constants.now a.copies.now a.scratch.now a.tables.now in
    let h₁ : Kept = next (rows a.rows.now) h₀ in
    let h₂ : Kept = next (s_words a.s_words.now) h₁ in
    let h₃ : Kept = next (cell_words a.cells.now) h₂ in
    let h₄ : Kept = next (table_words a.table_words.now) h₃ in
    -- what each call says of the plan in parts it says of the plan
    let n₁ : marked_with (answer_number r.result) r.new.counts m ≡ marked_of (rows_answer (with_state q (state_in a.counts a.used)) a.rows.now a.constants.now) = r.ensures.value ∙ rw p in
    let l₁ : d₁ ≡ rows_left (with_state q (state_in a.counts a.used)) a.rows.now a.constants.now = r.ensures.constants_after ∙ rw p in
    let n₂ : given_with (answer_number w.result) w.new.counts ≡ given_of (s_words_answer (with_state q (state_in r.new.counts [])) a.s_words.now d₁) = w.ensures.value ∙ rw p in
    let l₂ : d₂ ≡ s_words_left (with_state q (state_in r.new.counts [])) a.s_words.now d₁ = w.ensures.constants_after ∙ rw p in
    let n₃ : given_with (answer_number e.result) e.new.counts ≡ given_of (cells_answer (with_state q (state_in w.new.counts [])) a.cells.now (cols a.copies.now a.scratch.now)) = e.ensures.value ∙ rw p in
    let l₃ : cols p₁ z₁ ≡ cells_left (with_state q (state_in w.new.counts [])) a.cells.now (cols a.copies.now a.scratch.now) = e.ensures.scratch_after ∙ rw p in
    let n₄ : given_with (answer_number t.result) t.new.counts ≡ given_of (tables_answer (with_state q (state_in e.new.counts [])) a.table_words.now a.tables.now) = t.ensures.value ∙ rw p in
    let l₄ : b₁ ≡ tables_left (with_state q (state_in e.new.counts [])) a.table_words.now a.tables.now = t.ensures.tables_after ∙ rw p in
    let n₅ : given_with (answer_number f.result) f.new.counts ≡ given_of (finish_answer (with_state q (state_in t.new.counts m)) (cols p₁ z₁)) = f.ensures.value ∙ rw p in
    let l₅ : p₂ ≡ finish_left (with_state q (state_in t.new.counts m)) (cols p₁ z₁) = f.ensures.copies_after ∙ rw p in
    let k₁ = step_rows q (outline_of q) refl a.counts a.used h₀ a.constants.now a.copies.now a.scratch.now a.tables.now refl (marked_with (answer_number r.result) r.new.counts m) a.rows.now d₁ n₁ l₁ in
    let k₂ = step_words q (outline_of q) refl r.new.counts m h₁ d₁ a.copies.now a.scratch.now a.tables.now k₁ (given_with (answer_number w.result) w.new.counts) a.s_words.now d₂ n₂ l₂ in
    let k₃ = step_cells q (outline_of q) refl w.new.counts m h₂ d₂ a.copies.now a.scratch.now a.tables.now k₂ (given_with (answer_number e.result) e.new.counts) a.cells.now p₁ z₁ n₃ l₃ in
    let k₄ = step_tables q (outline_of q) refl e.new.counts m h₃ d₂ p₁ z₁ a.tables.now k₃ (given_with (answer_number t.result) t.new.counts) a.table_words.now b₁ n₄ l₄ in
    let k₅ = step_finishing q (outline_of q) refl t.new.counts m h₄ d₂ p₁ z₁ b₁ k₄ (given_with (answer_number f.result) f.new.counts) p₂ n₅ l₅ in
    ap (λ (k : Kept). k.store) k₅
