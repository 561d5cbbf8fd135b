-- `listed::kinchoyu_run` meets its contract: a plan that is too short first, where 20 still goes before 10; then the listing's run, whose plan is encoded.
use Rattle.std.proofs.Common.{ℕ, rules, length, ◌≡◌, ◌∙◌, ap, refl, sym}
use Rattle.std.specs.Prelude.{Result, Ok, Err}
use Rattle.std.specs.Result.{result_unwrap_or}
use Rattle.refusal.specs.Refusal.{answer_number, answer_or, refusal_number}
use Rattle.refusal.proofs.Passing.{passed_up, unwrap-answer}
use Rattle.refusal.specs.declared.Refusal.{Refusal}
use Rattle.tree.specs.Plan.{zero_plan}
use Rattle.tree.specs.declared.plan.Plan.{Plan}
use Rattle.listing.specs.Listing.{read}
use Rattle.columns.specs.Intake.{store_of}
use Rattle.listing.proofs.ReaderLaws.{read_refused, read_whole}
use Rattle.stage.specs.Circuit.{Staged, staged_by}
use Rattle.capi.specs.Listed.{short_plan}
use Rattle.capi.specs.ListedLaws.{run-given, run_short}
use Rattle.selector.specs.Gates.{gate_slots}
use Rattle.selector.specs.Nodes.{node_slots}
use Rattle.capi.proofs.listed.kinchoyu_run.Goals as goal

abbrev staged : ℕ → Plan → Staged
staged n q = record { number = n; plan = q }

-- the number and the plan of a run's answer
staged_told : (r : Result Plan Refusal) → staged (answer_number r) (answer_or zero_plan r) ≡ staged_by r
staged_told (Ok q) = refl
staged_told (Err e) = refl

pub returns-in_err-sections_of : goal.returns-in_err-sections_of
returns-in_err-sections_of c =
    let a = c.args in
    let r = c.in_err-sections_of.field-0.0 in
    let n : refusal_number r ≡ short_plan (read a.listing.now) = sym (ap short_plan (read_refused a.listing.now r c.in_err-sections_of.ensures)) in
    let all = run_short a.listing.now a.plan.now (store_of a.constants.now a.copies.now a.scratch.now a.tables.now) c.if-plan-lt-PLAN_WORDS.true (refusal_number r) n in
    record { value = passed_up c.from_residual.result r c.from_residual.ensures.1 ∙ all.0; plan_after = all.1.0; tables_after = all.1.1 }

pub returns-then-plan-lt-PLAN_WORDS : goal.returns-then-plan-lt-PLAN_WORDS
returns-then-plan-lt-PLAN_WORDS c =
    let a = c.args in
    let n : 10 ≡ short_plan (read a.listing.now) = sym (ap short_plan (read_whole a.listing.now c.in_ok-sections_of.field-0 c.in_ok-sections_of.ensures)) in
    let all = run_short a.listing.now a.plan.now (store_of a.constants.now a.copies.now a.scratch.now a.tables.now) c.if-plan-lt-PLAN_WORDS.true 10 n in
    record { value = all.0; plan_after = all.1.0; tables_after = all.1.1 }

pub returns : goal.returns
returns c =
    let r = c.run_listing-answer in
    let q = c.unwrap_or.result in
    let gates-long : length q.gates ≡ gate_slots = search rules in
    let nodes-long : length q.nodes ≡ node_slots = search rules in
    let a = c.args in
    let given : q ≡ answer_or zero_plan r.result = c.unwrap_or.ensures ∙ ap (result_unwrap_or r.result) c.zero.ensures ∙ unwrap-answer zero_plan r.result in
    let told : staged (answer_number r.result) q ≡ staged_by r.result = ap (staged (answer_number r.result)) given ∙ staged_told r.result in
    let all = run-given a.listing.now a.plan.now (store_of a.constants.now a.copies.now a.scratch.now a.tables.now) c.if-plan-lt-PLAN_WORDS.false
    (staged (answer_number r.result) q) _ _ (gates-long) (nodes-long) (told ∙ r.ensures.value) c.encode_plan.ensures r.ensures.tables_after in
    record { value = c.outcome.ensures ∙ all.0; plan_after = all.1.0; tables_after = all.1.1 }
