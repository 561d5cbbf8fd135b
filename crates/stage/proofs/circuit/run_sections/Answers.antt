-- `stage::circuit::run_sections` meets its contract: planning's refusal, else the number and the words of the planned run.
use Rattle.std.proofs.Common.{◌≡◌, sym, ap, ◌∙◌, ◌≢◌, ℕ}
use Rattle.refusal.specs.Refusal.{refusal_number}
use Rattle.refusal.proofs.Passing.{refusal_nonzero}
use Rattle.tree.specs.Plan.{plan_number, planned}
use Rattle.tree.specs.declared.plan.Plan.{Plan}
use Rattle.columns.specs.Intake.{setting_of, store_of}
use Rattle.columns.specs.Sections.{sections_number}
use Rattle.stage.specs.Circuit.{Staged, stage_number}
use Rattle.stage.specs.Planned.{planned_left}
use Rattle.stage.proofs.CircuitLaws.{staged-refused, number_planning, number-sections, answer_refused, answer-taken, left-planned}
use Rattle.stage.proofs.circuit.run_sections.Goals as goal

abbrev staged : ℕ → Plan → Staged
staged n q = record { number = n; plan = q }

pub returns-in_err-plan : goal.returns-in_err-plan
returns-in_err-plan c =
    let a = c.args in
    let ps = a.parameters in
    let gs = a.gates.now in
    let b = store_of a.constants.now a.copies.now a.scratch.now a.tables.now in
    let r = a.rows.now in
    let s = a.s_words.now in
    let k = a.cells.now in
    let t = a.table_words.now in
    let x = c.in_err-plan.field-0.0 in
    let e : refusal_number x ≡ plan_number ps gs = c.in_err-plan.ensures.number in
    let d : plan_number ps gs ≢ 0 = λ z. refusal_nonzero x (e ∙ z) in
    let o = answer_refused ps gs r s k t b (refusal_number x) (e ∙ sym (number_planning ps gs r s k t b d)) (refusal_nonzero x) in
    record { value = staged-refused c.from_residual.result x c.from_residual.ensures.1 ∙ o.0; tables_after = o.1 }

pub returns-in_err-run_planned : goal.returns-in_err-run_planned
returns-in_err-run_planned c =
    let a = c.args in
    let ps = a.parameters in
    let gs = a.gates.now in
    let b = store_of a.constants.now a.copies.now a.scratch.now a.tables.now in
    let r = a.rows.now in
    let s = a.s_words.now in
    let k = a.cells.now in
    let t = a.table_words.now in
    -- planning accepted, with the plan that it gives
    let accepted : plan_number ps gs ≡ 0 = sym c.in_ok-plan.ensures.number in
    let given : c.in_ok-plan.plan ≡ planned ps gs = c.in_ok-plan.ensures.plan in
    -- the planned run's number and words are the whole call's
    let x = c.in_err-run_planned.field-0.0 in
    let n = c.in_err-run_planned.ensures in
    let number_is : refusal_number x ≡ stage_number ps gs r s k t b = n.value ∙ ap (λ (y : Plan). sections_number (setting_of y) b r s k t) given ∙ sym (number-sections ps gs r s k t b accepted) in
    record {
      value = staged-refused c.from_residual-in_err-run_planned.result x c.from_residual-in_err-run_planned.ensures.1 ∙ (answer_refused ps gs r s k t b (refusal_number x) number_is (refusal_nonzero x)).0;
      tables_after = n.tables_after ∙ ap (λ (y : Plan). planned_left y r s k t b) given ∙ left-planned ps gs r s k t b accepted;
    }

pub returns : goal.returns
returns c =
    let a = c.args in
    let ps = a.parameters in
    let gs = a.gates.now in
    let b = store_of a.constants.now a.copies.now a.scratch.now a.tables.now in
    let r = a.rows.now in
    let s = a.s_words.now in
    let k = a.cells.now in
    let t = a.table_words.now in
    -- planning accepted, with the plan that it gives
    let accepted : plan_number ps gs ≡ 0 = sym c.in_ok-plan.ensures.number in
    let given : c.in_ok-plan.plan ≡ planned ps gs = c.in_ok-plan.ensures.plan in
    -- the planned run's number and words are the whole call's
    let n = c.in_ok-run_planned.ensures in
    let number_is : 0 ≡ stage_number ps gs r s k t b = n.value ∙ ap (λ (y : Plan). sections_number (setting_of y) b r s k t) given ∙ sym (number-sections ps gs r s k t b accepted) in
    record {
      value = ap (staged 0) given ∙ (answer-taken ps gs r s k t b (sym number_is)).0;
      tables_after = n.tables_after ∙ ap (λ (y : Plan). planned_left y r s k t b) given ∙ left-planned ps gs r s k t b accepted;
    }
