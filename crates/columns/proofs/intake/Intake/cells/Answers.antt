-- `columns::intake::Intake::cells` meets its contract: it is the call on its parts.
use Rattle.std.proofs.Common.{◌≡◌, ◌∙◌, ap}
use Rattle.pieces.specs.Setting.{cols}
use Rattle.refusal.specs.Refusal.{answer_number}
use Rattle.columns.specs.Intake.{cells_answer}
use Rattle.columns.specs.Given.{Given, given_with, counted, given_of}
use Rattle.columns.specs.GivenLaws.{bare, cells_whole}
use Rattle.columns.proofs.intake.Intake.cells.Goals as goal

pub returns : goal.returns
returns c =
    let s = c.args.self.now in
    let a = c.args in
    let b = cols a.copies.now a.scratch.now in
    let w = cells_whole s a.piece.now b in
    let e : given_with (answer_number c.take_cells.result) c.take_cells.new.counts ≡ given_of (cells_answer (bare s) a.piece.now b) = c.take_cells.ensures.value ∙ rw c.parts-parts.ensures in
    record { value = ap (λ (g : Given). counted s g) e ∙ w.0; scratch_after = c.take_cells.ensures.scratch_after ∙ rw c.parts-parts.ensures w.1 }
