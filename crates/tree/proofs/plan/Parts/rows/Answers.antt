-- `plan::Parts::rows` meets its contract: a plan without a fault has a tree at node 0, of which the walk writes all paths over zeros, and its array holds the
-- words of its gates.
use Rattle.std.proofs.Common.{ℕ, eq-eqb, ne_eqb, ◌∙◌, ◌≡◌, ap, refl, sym, arith}
use Rattle.base.specs.Pick.{pick}
use Rattle.refusal.proofs.Passing.{nothing_answered, passed_up}
use Rattle.selector.specs.Gates.{constants_of}
use Rattle.selector.specs.Refusals.{extra_of}
use Rattle.tree.proofs.PlanCodeLaws.{made-up, barred-given, blocked-given, listed_filled, own_given, paths-placed}
use Rattle.tree.specs.Placements.{path_words}
use Rattle.tree.specs.Plan.{gate_rows_answer, no_rows, plan_barred, plan_blocked, plan_extra, plan_fault, parts_plan, plan_own}
use Rattle.tree.specs.PlanLaws.{fault_none}
use Rattle.tree.proofs.plan.Parts.rows.Goals as goal

pub returns-in_err-fault-clause-number : goal.returns-in_err-fault-clause-number
unfolding gate_rows_answer
returns-in_err-fault-clause-number c =
    let p = parts_plan c.args.self in
    let r = c.in_err-fault.field-0.0 in
    let e = made-up p r c.in_err-fault.ensures in
    passed_up c.from_residual.result r c.from_residual.ensures.1 ∙ c.in_err-fault.ensures ∙ rw (ne_eqb (plan_fault p) 0 (omega (arith, e))) e

pub returns-in_err-fault-clause-rows : goal.returns-in_err-fault-clause-rows
unfolding gate_rows_answer
returns-in_err-fault-clause-rows c =
    let p = parts_plan c.args.self in
    let r = c.in_err-fault.field-0.0 in
    let e = made-up p r c.in_err-fault.ensures in
    nothing_answered no_rows c.from_residual.result r c.from_residual.ensures.1 ∙ rw (ne_eqb (plan_fault p) 0 (omega (arith, e))) refl

pub all_placements-requires : goal.all_placements-requires
all_placements-requires c =
    let s = parts_plan c.args.self in
    let fine : plan_fault s ≡ 0 = sym c.in_ok-fault.ensures in
    let w = fault_none s fine in
    record { links = w.nodes.linked; at_lt_count = (w.nodes.some_nodes, w.nodes.few, omega arith, omega arith, omega arith, w.node-words) }

pub blocked_by-blocked-requires : goal.blocked_by-blocked-requires
blocked_by-blocked-requires c =
    let s = parts_plan c.args.self in
    let fine : plan_fault s ≡ 0 = sym c.in_ok-fault.ensures in
    let w = fault_none s fine in
    (w.words, w.few_gates)

pub list_gates-requires : goal.list_gates-requires
list_gates-requires c =
    let s = parts_plan c.args.self in
    let fine : plan_fault s ≡ 0 = sym c.in_ok-fault.ensures in
    let w = fault_none s fine in
    (w.words, w.few_gates, refl, refl)

pub returns-clause-number : goal.returns-clause-number
unfolding gate_rows_answer
returns-clause-number c = rw (eq-eqb (plan_fault (parts_plan c.args.self)) 0 (sym c.in_ok-fault.ensures)) refl

pub returns-clause-rows : goal.returns-clause-rows
unfolding gate_rows_answer
returns-clause-rows c =
    let s = parts_plan c.args.self in
    let fine : plan_fault s ≡ 0 = sym c.in_ok-fault.ensures in
    let walked = paths-placed s (path_words c.all_placements.new.bits c.all_placements.new.lengths) fine c.all_placements.ensures in
    let blocked-is : c.blocked_by-blocked.result ≡ plan_blocked s = blocked-given s c.blocked_by-blocked.result _ fine walked.0 c.blocked_by-blocked.ensures in
    let l = c.list_gates in
    let x = c.extra_of-extra.ensures ∙ ap extra_of c.mode.ensures in
    let barred = listed_filled s (λ (g : ℕ). pick (plan_barred s g) 1 0) _ l.new.barred (barred-given s _ blocked-is) l.ensures.filled in
    let own = listed_filled s (plan_own s) _ l.new.own (λ g h. ap (λ (k : ℕ). constants_of k s.gates g) x ∙ own_given s (plan_extra s) g h) l.ensures.filled_2 in
    rw (eq-eqb (plan_fault s) 0 fine, walked.0, walked.1, barred, own) refl
