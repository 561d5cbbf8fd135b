-- `columns::sections::contents_number` meets its contract: 19, then the circuit's own number.
use Rattle.std.proofs.Common.{sym, ◌∙◌, eq-eqb, ne_eqb}
use Rattle.base.specs.Pick.{pick_yes, pick_no}
use Rattle.refusal.proofs.Passing.{passed_up}
use Rattle.tree.specs.Plan.{plan_fault}
use Rattle.columns.proofs.RowLoop.{gates-sound, gates_refused}
use Rattle.columns.proofs.sections.contents_number.Goals as goal

pub returns-in_err-rows : goal.returns-in_err-rows
returns-in_err-rows c =
    let q = c.args.plan in
    let told = gates_refused q _ (c.in_err-rows.ensures.number ∙ rw c.parts.ensures) in
    passed_up c.from_residual.result _ c.from_residual.ensures.1 ∙ told.1 ∙ sym (pick_no _ _ 19 (ne_eqb (plan_fault q) 0 told.0))

pub contents_of-requires : goal.contents_of-requires
contents_of-requires c = (gates-sound c.args.plan (c.in_ok-rows.ensures.number ∙ rw c.parts.ensures), c.in_ok-rows.ensures.rows ∙ rw c.parts.ensures)

pub returns : goal.returns
returns c =
    let no_fault = gates-sound c.args.plan (c.in_ok-rows.ensures.number ∙ rw c.parts.ensures) in
    c.contents_of.ensures ∙ sym (pick_yes _ _ 19 (eq-eqb (plan_fault c.args.plan) 0 no_fault))
