-- `planning::kinchoyu_stats` meets its contract: D, K and F of the plan that stands in the words.
use Rattle.std.proofs.Common.{ℕ, ◌∙◌, ◌≡◌, ap, refl, sym, arith}
use Rattle.std.specs.Prelude.{Some, None}
use Rattle.refusal.specs.Refusal.{refusal_number}
use Rattle.refusal.proofs.Passing.{passed_up}
use Rattle.columns.proofs.Standing.{made-up}
use Rattle.tree.specs.Plan.{plan_fault}
use Rattle.tree.specs.PlanLaws.{zero_fault}
use Rattle.tree.specs.declared.plan.Plan.{Plan}
use Rattle.encoding.specs.Encoding.{plan_of}
use Rattle.encoding.specs.Holding.{outlined}
use Rattle.encoding.proofs.HeldLaws.{Plans, plans, plans_none}
use Rattle.writer.specs.Hand.{hand_left, hand_number}
use Rattle.capi.specs.Planning.{stats_words}
use Rattle.capi.specs.PlanningLaws.{none-handed}
use Rattle.capi.proofs.planning.kinchoyu_stats.Goals as goal

pub parts_in-requires : goal.parts_in-requires
parts_in-requires c =
    let held : Plans c.args.plan.now (outlined (Some c.in-Some.outline)) = plans c.args.plan.now (outlined (Some c.in-Some.outline)) c.in-Some.ensures refl in
    omega (arith, held.long)

pub returns-in_err-fault : goal.returns-in_err-fault
returns-in_err-fault c =
    let held : Plans c.args.plan.now (outlined (Some c.in-Some.outline)) = plans c.args.plan.now (outlined (Some c.in-Some.outline)) c.in-Some.ensures refl in
    let a = c.args in
    let q = plan_of a.plan.now in
    let r = c.in_err-fault.field-0.0 in
    let n : refusal_number r ≡ plan_fault q = c.in_err-fault.ensures ∙ ap plan_fault (c.parts_in.ensures ∙ held.parts) in
    let m = made-up q r n in
    let both = none-handed (plan_fault q) (stats_words q) a.out.now (sym n ∙ m.1) in
    record { value = passed_up c.from_residual.result r c.from_residual.ensures.1 ∙ m.1 ∙ both.0; out_after = both.1 }

pub returns : goal.returns
returns c =
    let held : Plans c.args.plan.now (outlined (Some c.in-Some.outline)) = plans c.args.plan.now (outlined (Some c.in-Some.outline)) c.in-Some.ensures refl in
    let out = c.args.out.now in
    let q = plan_of c.args.plan.now in
    let p = held.parts in
    let z : 0 ≡ plan_fault q = c.in_ok-fault.ensures ∙ ap plan_fault (c.parts_in.ensures ∙ p) in
    let h = c.hand_out.ensures in
    record {
      value = h.value ∙ ap (λ (x : Plan). hand_number 0 (stats_words x) out) p ∙ ap (λ (n : ℕ). hand_number n (stats_words q) out) z;
      out_after = h.out_after ∙ ap (λ (x : Plan). hand_left 0 (stats_words x) out) p ∙ ap (λ (n : ℕ). hand_left n (stats_words q) out) z;
    }

pub returns-in_default : goal.returns-in_default
returns-in_default c =
    let none : plan_fault (plan_of c.args.plan.now) ≡ 19 = ap plan_fault (sym (plans_none c.args.plan.now (outlined None) c.in_default.ensures refl)) ∙ zero_fault in
    let a = c.args in
    let both = none-handed (plan_fault (plan_of a.plan.now)) (stats_words (plan_of a.plan.now)) a.out.now none in
    record { value = both.0; out_after = both.1 }
