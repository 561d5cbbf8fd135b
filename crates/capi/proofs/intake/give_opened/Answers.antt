-- `intake::give_opened` meets its contract: zeros after a refusal, else the plan's words and then no piece so far.
use Rattle.std.proofs.Common.{eq-eqb, ne_eqb, eqb, replicate, ◌∙◌, ap, refl, sym}
use Rattle.base.specs.Pick.{pick_no, pick_yes}
use Rattle.refusal.specs.Refusal.{answer_number}
use Rattle.refusal.proofs.Passing.{err_nonzero, no_err_zero}
use Rattle.columns.specs.Intake.{with_state}
use Rattle.pieces.specs.Opening.{open_state}
use Rattle.tree.specs.Plan.{zero_plan}
use Rattle.writer.specs.Hand.{handed}
use Rattle.encoding.specs.Encoding.{progress_of, progressed, state_length}
use Rattle.capi.specs.Intake.{opened_words}
use Rattle.capi.proofs.intake.give_opened.Goals as goal

pub returns-then-is_err : goal.returns-then-is_err
unfolding opened_words
returns-then-is_err c =
    let a = c.args in
    let n = answer_number a.answer in
    let d = err_nonzero a.answer (sym c.is_err.ensures.value ∙ c.if-is_err.true) in
    record { value = refl; state_after = c.hand.ensures ∙ sym (pick_no (eqb n 0) _ (handed (replicate state_length 0) a.state.now) (ne_eqb n 0 d)) }

pub returns : goal.returns
unfolding opened_words
returns c =
    let a = c.args in
    let n = answer_number a.answer in
    let z = no_err_zero a.answer (sym c.is_err.ensures.value ∙ c.if-is_err.false) in
    let new = progress_of (with_state zero_plan open_state) in
    record { value = refl; state_after = c.encode_progress.ensures ∙ ap (progressed new) c.hand-2.ensures ∙ sym (pick_yes (eqb n 0) (progressed new (handed a.plan.now a.state.now)) _ (eq-eqb n 0 z)) }
