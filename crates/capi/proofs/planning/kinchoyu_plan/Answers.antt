-- `planning::kinchoyu_plan` meets its contract: 20, with a plan of zeros encoded; then 10; then planning's own number, whose plan is encoded.
use Rattle.std.proofs.Common.{◌∙◌}
use Rattle.refusal.specs.Refusal.{answer_number, answer_or}
use Rattle.tree.specs.Plan.{zero_plan}
use Rattle.capi.specs.PlanningLaws.{plan_10, plan_20, plan-given}
use Rattle.capi.proofs.planning.kinchoyu_plan.Goals as goal

pub returns-then-parameters-ne-PARAMETER_WORDS : goal.returns-then-parameters-ne-PARAMETER_WORDS
returns-then-parameters-ne-PARAMETER_WORDS c =
    let a = c.args in
    let both = plan_20 a.parameters.now a.gates.now a.plan.now c.if-parameters-ne-PARAMETER_WORDS.true _ _ c.zero.ensures c.encode_plan.ensures in record { value = both.0; plan_after = both.1 }

pub returns-then-plan-lt-PLAN_WORDS : goal.returns-then-plan-lt-PLAN_WORDS
returns-then-plan-lt-PLAN_WORDS c =
    let a = c.args in
    let both = plan_10 a.parameters.now a.gates.now a.plan.now c.if-parameters-ne-PARAMETER_WORDS.false c.if-plan-lt-PLAN_WORDS.true in record { value = both.0; plan_after = both.1 }

pub returns : goal.returns
returns c =
    let r = c.plan.result in
    let q = answer_or zero_plan r in
    let g = c.give_plan.ensures in
    let a = c.args in
    let both = plan-given a.parameters.now a.gates.now a.plan.now c.if-parameters-ne-PARAMETER_WORDS.false c.if-plan-lt-PLAN_WORDS.false
    _ (record { number = answer_number r; plan = q }) _ g.gates_long g.nodes_long c.parameters_at.ensures (λ i. record { number = c.plan.ensures.number i; plan = c.plan.ensures.plan i }) g.plan_after in
    record { value = g.value ∙ both.0; plan_after = both.1 }
