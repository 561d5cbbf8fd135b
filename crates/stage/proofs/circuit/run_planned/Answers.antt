-- `stage::circuit::run_planned` meets its contract: the number first; then opening, which that test covers, and the calls after it.
use Rattle.std.proofs.Common.{◌≡◌, sym, ap, ◌∙◌}
use Rattle.refusal.specs.Refusal.{refusal_number}
use Rattle.refusal.proofs.Passing.{passed_up, refusal_nonzero}
use Rattle.tree.specs.declared.plan.Plan.{Plan}
use Rattle.pieces.specs.Opening.{open_number, open_state}
use Rattle.columns.specs.Intake.{setting_of, store_of, open_left, taken_with, with_state}
use Rattle.columns.specs.IntakeLaws.{open_taken}
use Rattle.columns.specs.Sections.{sections_number}
use Rattle.claim.specs.Chain.{Kept, chained}
use Rattle.claim.specs.Keeping.{by_opening}
use Rattle.claim.proofs.ChainLaws.{open-number}
use Rattle.stage.specs.Circuit.{calls}
use Rattle.stage.proofs.CircuitLaws.{planned_refused, planned-taken, opened}
use Rattle.stage.proofs.circuit.run_planned.Goals as goal

pub returns-in_err-test_planned : goal.returns-in_err-test_planned
returns-in_err-test_planned c =
    let a = c.args in
    let b = store_of a.constants.now a.copies.now a.scratch.now a.tables.now in
    let r = c.in_err-test_planned.field-0.0 in
    let n : refusal_number r ≡ sections_number (setting_of a.plan) b a.rows.now a.s_words.now a.cells.now a.table_words.now = c.in_err-test_planned.ensures in
    let f = c.from_residual in
    record {
      value = passed_up f.result r f.ensures.1 ∙ n;
      tables_after = planned_refused a.plan a.rows.now a.s_words.now a.cells.now a.table_words.now b (λ z. refusal_nonzero r (n ∙ z));
    }

-- no opening that the test accepted is refused
pub returns-in_err-open_parts : goal.returns-in_err-open_parts
returns-in_err-open_parts c =
    let a = c.args in
    let b = store_of a.constants.now a.copies.now a.scratch.now a.tables.now in
    let o = opened a.plan a.rows.now a.s_words.now a.cells.now a.table_words.now b (sym c.in_ok-test_planned.ensures) in
    let e = c.in_err-open_parts.ensures.value ∙ ap (λ (q : Plan). open_number (setting_of q) b) c.parts.ensures ∙ sym (open-number a.plan b) in
    absurd (refusal_nonzero c.in_err-open_parts.field-0.0 (e ∙ o))

pub returns : goal.returns
returns c =
    let a = c.args in
    let q = a.plan in
    let b = store_of a.constants.now a.copies.now a.scratch.now a.tables.now in
    let n = c.in_ok-test_planned.ensures in
    let o = c.in_ok-open_parts.ensures in
    let ks = calls a.rows.now a.s_words.now a.cells.now a.table_words.now in
    let x = c.open_parts.new in
    let k = open_taken q b (sym (o.value ∙ ap (λ (p : Plan). open_number (setting_of p) b) c.parts.ensures)) in
    let h = by_opening q b (taken_with 0 (with_state q open_state)) x.constants x.copies x.scratch x.tables k.0 (o.tables_after ∙ ap (λ (p : Plan). open_left p b) c.parts.ensures) in
    record { value = n; tables_after = c.give_sections.ensures ∙ ap (λ (k : Kept). (chained ks k).store) h ∙ planned-taken q a.rows.now a.s_words.now a.cells.now a.table_words.now b (sym n) }
