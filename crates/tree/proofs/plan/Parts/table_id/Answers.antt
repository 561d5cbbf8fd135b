-- `plan::Parts::table_id` meets its contract: gate 0 is listed in every plan without a fault, so that its path is refused only with 19.
use Rattle.std.specs.Prelude.{None}
use Rattle.std.proofs.Common.{◌∙◌, ap, sym}
use Rattle.refusal.proofs.Passing.{nothing_answered, passed_up, refusal_nonzero}
use Rattle.tree.proofs.PlanCodeLaws.{path_fine, table_made-up}
use Rattle.tree.specs.Answers.{TableId, column_count, column_index}
use Rattle.tree.specs.Plan.{parts_plan}
use Rattle.tree.proofs.plan.Parts.table_id.Goals as goal

pub returns-in_err-path-clause-number : goal.returns-in_err-path-clause-number
returns-in_err-path-clause-number c =
    let p = parts_plan c.args.self in
    let r = c.in_err-path.field-0.0 in
    let m = table_made-up p (λ f. refusal_nonzero r (c.in_err-path.ensures.number ∙ (path_fine p f).number)) in
    passed_up c.from_residual.result r c.from_residual.ensures.1 ∙ c.in_err-path.ensures.number ∙ sym (ap (λ (t : TableId). t.number) m)

pub returns-in_err-path-clause-count : goal.returns-in_err-path-clause-count
returns-in_err-path-clause-count c =
    let p = parts_plan c.args.self in
    let r = c.in_err-path.field-0.0 in
    let m = table_made-up p (λ f. refusal_nonzero r (c.in_err-path.ensures.number ∙ (path_fine p f).number)) in
    ap column_count (nothing_answered None c.from_residual.result r c.from_residual.ensures.1) ∙ sym (ap (λ (t : TableId). t.count) m)

pub returns-in_err-path-clause-index : goal.returns-in_err-path-clause-index
returns-in_err-path-clause-index c =
    let p = parts_plan c.args.self in
    let r = c.in_err-path.field-0.0 in
    let m = table_made-up p (λ f. refusal_nonzero r (c.in_err-path.ensures.number ∙ (path_fine p f).number)) in
    ap column_index (nothing_answered None c.from_residual.result r c.from_residual.ensures.1) ∙ sym (ap (λ (t : TableId). t.index) m)
