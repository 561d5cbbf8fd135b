-- `planning::path_of` meets its contract: what the plan that stands in the words answers of the gate.
use Rattle.std.proofs.Common.{◌∙◌, ◌≡◌, ap, refl, sym, arith, ne_eqb}
use Rattle.std.specs.Prelude.{Some, None}
use Rattle.tree.specs.Plan.{path_answer, plan_fault}
use Rattle.tree.specs.PlanLaws.{zero_fault}
use Rattle.tree.specs.declared.plan.Plan.{Plan}
use Rattle.encoding.specs.Encoding.{plan_of}
use Rattle.encoding.specs.Holding.{outlined}
use Rattle.encoding.proofs.HeldLaws.{Plans, plans, plans_none}
use Rattle.capi.proofs.planning.path_of.Goals as goal

pub parts_in-requires : goal.parts_in-requires
parts_in-requires c =
    let held : Plans c.args.plan.now (outlined (Some c.in-Some.outline)) = plans c.args.plan.now (outlined (Some c.in-Some.outline)) c.in-Some.ensures refl in
    omega (arith, held.long)

pub returns : goal.returns
returns c =
    let held : Plans c.args.plan.now (outlined (Some c.in-Some.outline)) = plans c.args.plan.now (outlined (Some c.in-Some.outline)) c.in-Some.ensures refl in
    let p = c.parts_in.ensures ∙ held.parts in
    let e = c.path.ensures in
    record { number = e.number ∙ ap (λ (q : Plan). (path_answer q c.args.gate).number) p; selection = e.selection ∙ ap (λ (q : Plan). (path_answer q c.args.gate).selection) p }

pub returns-in_default : goal.returns-in_default
unfolding path_answer
returns-in_default c =
    let none : plan_fault (plan_of c.args.plan.now) ≡ 19 = ap plan_fault (sym (plans_none c.args.plan.now (outlined None) c.in_default.ensures refl)) ∙ zero_fault in
    let e = ne_eqb (plan_fault (plan_of c.args.plan.now)) 0 (λ z. omega (arith, none, z)) in
    record { number = rw e refl; selection = rw e refl }
