-- `plan::Parts::path` meets its contract: a plan without a fault has a tree at node 0, by which its nodes answer of the gate.
use Rattle.std.proofs.Common.{◌∙◌, ap, arith, sym}
use Rattle.refusal.proofs.Passing.{passed_up}
use Rattle.tree.specs.Answers.{PathAnswer}
use Rattle.tree.proofs.PlanCodeLaws.{made-up, nothing_told, path_past, path_walked, path_made-up}
use Rattle.tree.specs.Plan.{parts_plan}
use Rattle.tree.specs.PlanLaws.{fault_none}
use Rattle.tree.proofs.plan.Parts.path.Goals as goal

pub returns-in_err-fault-clause-number : goal.returns-in_err-fault-clause-number
returns-in_err-fault-clause-number c =
    let p = parts_plan c.args.self in
    let r = c.in_err-fault.field-0.0 in
    let e = made-up p r c.in_err-fault.ensures in
    passed_up c.from_residual.result r c.from_residual.ensures.1 ∙ c.in_err-fault.ensures ∙ e
    ∙ sym (ap (λ (z : PathAnswer). z.number) (path_made-up p c.args.gate (omega (arith, e))))

pub returns-in_err-fault-clause-selection : goal.returns-in_err-fault-clause-selection
returns-in_err-fault-clause-selection c =
    let p = parts_plan c.args.self in
    let r = c.in_err-fault.field-0.0 in
    let e = made-up p r c.in_err-fault.ensures in
    nothing_told c.from_residual.result r c.from_residual.ensures.1 (c.in_err-fault.ensures ∙ e)
    ∙ sym (ap (λ (z : PathAnswer). z.selection) (path_made-up p c.args.gate (omega (arith, e))))

pub output_placement-requires : goal.output_placement-requires
output_placement-requires c =
    let w = fault_none (parts_plan c.args.self) (sym c.in_ok-fault.ensures) in
    record { links = w.nodes.linked; at_lt_count = (w.nodes.some_nodes, w.nodes.few, omega arith, w.node-words) }

pub returns-then-self-gate-clause-number : goal.returns-then-self-gate-clause-number
returns-then-self-gate-clause-number c =
    sym (ap (λ (z : PathAnswer). z.number) (path_past (parts_plan c.args.self) c.args.gate (sym c.in_ok-fault.ensures) c.if-self-gate.true))

pub returns-then-self-gate-clause-selection : goal.returns-then-self-gate-clause-selection
returns-then-self-gate-clause-selection c =
    sym (ap (λ (z : PathAnswer). z.selection) (path_past (parts_plan c.args.self) c.args.gate (sym c.in_ok-fault.ensures) c.if-self-gate.true))

pub returns-clause-number : goal.returns-clause-number
returns-clause-number c =
    let o = c.output_placement in
    sym (ap (λ (z : PathAnswer). z.number) (path_walked (parts_plan c.args.self) c.args.gate (sym c.in_ok-fault.ensures) (omega arith) o.result o.ensures.value))

pub returns-clause-selection : goal.returns-clause-selection
returns-clause-selection c =
    let o = c.output_placement in
    sym (ap (λ (z : PathAnswer). z.selection) (path_walked (parts_plan c.args.self) c.args.gate (sym c.in_ok-fault.ensures) (omega arith) o.result o.ensures.value))
