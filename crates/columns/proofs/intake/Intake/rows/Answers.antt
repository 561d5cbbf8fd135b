-- `columns::intake::Intake::rows` meets its contract: it is the call on its parts.
use Rattle.std.proofs.Common.{◌≡◌, ◌∙◌, ap}
use Rattle.refusal.specs.Refusal.{answer_number}
use Rattle.columns.specs.Intake.{rows_answer}
use Rattle.columns.specs.Given.{Marked, marked_with, marked_of, remarked}
use Rattle.columns.specs.GivenLaws.{rows_whole}
use Rattle.columns.proofs.intake.Intake.rows.Goals as goal

pub returns : goal.returns
returns c =
    let s = c.args.self.now in
    let ws = c.args.piece.now in
    let b = c.args.constants.now in
    let e : marked_with (answer_number c.take_rows.result) c.take_rows.new.counts c.take_rows.new.used ≡ marked_of (rows_answer s ws b) = c.take_rows.ensures.value ∙ rw c.parts-parts.ensures in
    record { value = ap (λ (g : Marked). remarked s g) e ∙ rows_whole s ws b; constants_after = c.take_rows.ensures.constants_after ∙ rw c.parts-parts.ensures }
