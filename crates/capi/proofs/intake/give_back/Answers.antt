-- `intake::give_back` meets its contract: counts and phase are written where the call was accepted.
use Rattle.std.proofs.Common.{◌∙◌, refl, sym}
use Rattle.refusal.specs.Refusal.{answer_number}
use Rattle.refusal.proofs.Passing.{accepted_zero, refused_nonzero}
use Rattle.columns.specs.Given.{marked_with}
use Rattle.encoding.specs.Encoding.{marks_at}
use Rattle.capi.proofs.IntakeLaws.{marked-given, marked-kept}
use Rattle.capi.proofs.intake.give_back.Goals as goal

pub returns-then-is_ok : goal.returns-then-is_ok
returns-then-is_ok c =
    let a = c.args in
    let z = accepted_zero a.answer (sym c.is_ok.ensures.value ∙ c.if-is_ok.true) in
    record { value = refl; state_after = c.encode_counts.ensures ∙ marked-given (marked_with (answer_number a.answer) a.counts (marks_at a.state.now)) a.state.now z }

pub returns-else-is_ok : goal.returns-else-is_ok
returns-else-is_ok c =
    let a = c.args in
    let z = refused_nonzero a.answer (sym c.is_ok.ensures.value ∙ c.if-is_ok.false) in
    record { value = refl; state_after = marked-kept (marked_with (answer_number a.answer) a.counts (marks_at a.state.now)) a.state.now z }
