-- `intake::kinchoyu_open` meets its contract: a state that is too short first, where 19 still goes before 10; then the opening of the plan that stands in the words.
use Rattle.std.proofs.Common.{◌∙◌, ◌≡◌, ap, refl, sym, arith}
use Rattle.std.specs.Prelude.{Some, None}
use Rattle.refusal.specs.Refusal.{answer_number, refusal_number}
use Rattle.refusal.proofs.Passing.{passed_up}
use Rattle.columns.proofs.Standing.{made-up}
use Rattle.columns.specs.Intake.{open_left, setting_of, store_of}
use Rattle.pieces.specs.Opening.{open_number}
use Rattle.pieces.specs.Setting.{Store}
use Rattle.tree.specs.Plan.{plan_fault}
use Rattle.tree.specs.PlanLaws.{zero_fault}
use Rattle.tree.specs.declared.plan.Plan.{Plan}
use Rattle.encoding.specs.Encoding.{plan_of}
use Rattle.encoding.specs.Holding.{outlined}
use Rattle.encoding.proofs.HeldLaws.{Plans, plans, plans_none}
use Rattle.capi.proofs.IntakeLaws.{open_given, open_made-up, open_none, open_short}
use Rattle.capi.proofs.intake.kinchoyu_open.Goals as goal

pub parts_in-parts-requires : goal.parts_in-parts-requires
parts_in-parts-requires c =
    let held : Plans c.args.plan.now (outlined (Some c.in-Some.outline)) = plans c.args.plan.now (outlined (Some c.in-Some.outline)) c.in-Some.ensures refl in
    omega (arith, held.long)

pub returns-then-state-lt-STATE_WORDS : goal.returns-then-state-lt-STATE_WORDS
returns-then-state-lt-STATE_WORDS c =
    let held : Plans c.args.plan.now (outlined (Some c.in-Some.outline)) = plans c.args.plan.now (outlined (Some c.in-Some.outline)) c.in-Some.ensures refl in
    let a = c.args in
    let store : Store = store_of a.constants.now a.copies.now a.scratch.now a.tables.now in
    let p = c.parts_in-parts.ensures ∙ held.parts in
    let all = open_short a.plan.now a.state.now store (ap plan_fault (sym p) ∙ sym c.in_ok-fault.ensures) c.if-state-lt-STATE_WORDS.true in
    record { value = all.0; state_after = all.1.0; tables_after = all.1.1 }

pub returns-in_err-fault : goal.returns-in_err-fault
returns-in_err-fault c =
    let held : Plans c.args.plan.now (outlined (Some c.in-Some.outline)) = plans c.args.plan.now (outlined (Some c.in-Some.outline)) c.in-Some.ensures refl in
    let a = c.args in
    let store : Store = store_of a.constants.now a.copies.now a.scratch.now a.tables.now in
    let p = c.parts_in-parts.ensures ∙ held.parts in
    let r = c.in_err-fault.field-0.0 in
    let n : refusal_number r ≡ plan_fault (plan_of a.plan.now) = c.in_err-fault.ensures ∙ ap plan_fault p in
    let m = made-up (plan_of a.plan.now) r n in
    let all = open_made-up a.plan.now a.state.now store m.0 c.if-state-lt-STATE_WORDS.true in
    record { value = passed_up c.from_residual.result r c.from_residual.ensures.1 ∙ m.1 ∙ all.0; state_after = all.1.0; tables_after = all.1.1 }

pub returns : goal.returns
returns c =
    let held : Plans c.args.plan.now (outlined (Some c.in-Some.outline)) = plans c.args.plan.now (outlined (Some c.in-Some.outline)) c.in-Some.ensures refl in
    let a = c.args in
    let store : Store = store_of a.constants.now a.copies.now a.scratch.now a.tables.now in
    let p = c.parts_in-parts.ensures ∙ held.parts in
    let o = c.open_parts-answer in
    let g = c.give_opened-2 in
    let all = open_given a.plan.now a.state.now store c.if-state-lt-STATE_WORDS.false (answer_number o.result) _ _ (o.ensures.value ∙ ap (λ (q : Plan). open_number (setting_of q) store) p) g.ensures.state_after (o.ensures.tables_after ∙ ap (λ (q : Plan). open_left q store) p) in
    record { value = ap answer_number g.ensures.value ∙ all.0; state_after = all.1.0; tables_after = all.1.1 }

pub returns-in_default : goal.returns-in_default
returns-in_default c =
    let none : plan_fault (plan_of c.args.plan.now) ≡ 19 = ap plan_fault (sym (plans_none c.args.plan.now (outlined None) c.in_default.ensures refl)) ∙ zero_fault in
    let a = c.args in
    let store : Store = store_of a.constants.now a.copies.now a.scratch.now a.tables.now in
    let g = c.give_opened.ensures in
    let all = open_none a.plan.now a.state.now store (λ z. omega (arith, none, z)) _ g.state_after in
    record { value = ap answer_number g.value ∙ all.0; state_after = all.1.0; tables_after = all.1.1 }
