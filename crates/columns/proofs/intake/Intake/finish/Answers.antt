-- `columns::intake::Intake::finish` meets its contract: it is the call on its parts.
use Rattle.std.proofs.Common.{◌≡◌, ◌∙◌, ap}
use Rattle.pieces.specs.Setting.{cols}
use Rattle.refusal.specs.Refusal.{answer_number}
use Rattle.columns.specs.Intake.{finish_answer}
use Rattle.columns.specs.Given.{Given, given_with, counted, given_of}
use Rattle.columns.specs.GivenLaws.{finish_whole}
use Rattle.columns.proofs.intake.Intake.finish.Goals as goal

pub returns : goal.returns
returns c =
    let s = c.args.self.now in
    let b = cols c.args.copies.now c.args.scratch.now in
    let e : given_with (answer_number c.take_finish.result) c.take_finish.new.counts ≡ given_of (finish_answer s b) = c.take_finish.ensures.value ∙ rw c.parts-parts.ensures in
    record { value = ap (λ (g : Given). counted s g) e ∙ finish_whole s b; copies_after = c.take_finish.ensures.copies_after ∙ rw c.parts-parts.ensures }
