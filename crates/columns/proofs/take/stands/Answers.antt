-- `columns::take::stands` meets its contract: the plan's test, then the phase's, then the counts'.
use Rattle.std.proofs.Common.{◌≡◌, sym, ◌∙◌, false}
use Rattle.base.specs.Pick.{pick_yes, pick_no}
use Rattle.refusal.proofs.Passing.{passed_up}
use Rattle.tree.specs.Plan.{parts_plan}
use Rattle.pieces.specs.Setting.{stands}
use Rattle.columns.specs.Intake.{setting_of, state_in, with_state}
use Rattle.columns.specs.GivenLaws.{small}
use Rattle.columns.specs.IntakeLaws.{falls_plan, falls_phase, stands_counts}
use Rattle.columns.proofs.Standing.{made-up}
use Rattle.columns.proofs.take.stands.Goals.{then-counts-ne-OPEN-via-then-counts-ne-OPEN, then-counts-ne-OPEN-via-else-counts-ne-OPEN+then-not-counts_fit}
use Rattle.columns.proofs.take.stands.Goals as goal

pub returns-in_err-fault : goal.returns-in_err-fault
returns-in_err-fault c us =
    let q = parts_plan c.args.parts in
    let m = made-up q c.in_err-fault.field-0.0 c.in_err-fault.ensures in
    passed_up c.from_residual.result _ c.from_residual.ensures.1 ∙ m.1 ∙ sym (pick_no _ 0 19 (falls_plan (with_state q (state_in c.args.counts us)) m.0))

pub returns-then-counts-ne-OPEN : goal.returns-then-counts-ne-OPEN
returns-then-counts-ne-OPEN c us =
    let a = c.args in
    let p = a.parts in
    let q = parts_plan p in
    let held = with_state q (state_in a.counts us) in
    let falls : stands (setting_of q) (state_in a.counts us) ≡ false = elim c.then-counts-ne-OPEN.branch [
      | then-counts-ne-OPEN-via-then-counts-ne-OPEN w ↦ falls_phase held (sym c.in_ok-fault.ensures) w.if-counts-ne-OPEN.true
      | then-counts-ne-OPEN-via-else-counts-ne-OPEN+then-not-counts_fit w ↦ stands_counts held (sym c.in_ok-fault.ensures) w.if-counts-ne-OPEN.false ∙ sym (w.counts_fit.ensures p.gates.now p.nodes.now us) ∙ w.if-not-counts_fit.true
    ] in
    sym (pick_no _ 0 19 falls)

pub counts_fit-requires : goal.counts_fit-requires
counts_fit-requires c =
    let p = c.args.parts in small p.outline p.gates.now p.nodes.now (sym c.in_ok-fault.ensures)

pub returns : goal.returns
returns c us =
    let a = c.args in
    let p = a.parts in
    sym (pick_yes _ 0 19 (stands_counts (with_state (parts_plan p) (state_in a.counts us)) (sym c.in_ok-fault.ensures) c.if-counts-ne-OPEN.false ∙ sym (c.counts_fit.ensures p.gates.now p.nodes.now us) ∙ c.if-not-counts_fit.false))
