-- `columns::intake::Intake::tables` meets its contract: it is the call on its parts.
use Rattle.std.proofs.Common.{◌≡◌, ◌∙◌, ap}
use Rattle.refusal.specs.Refusal.{answer_number}
use Rattle.columns.specs.Intake.{tables_answer}
use Rattle.columns.specs.Given.{Given, given_with, counted, given_of}
use Rattle.columns.specs.GivenLaws.{bare, tables_whole}
use Rattle.columns.proofs.intake.Intake.tables.Goals as goal

pub returns : goal.returns
returns c =
    let s = c.args.self.now in
    let a = c.args in
    let b = a.tables.now in
    let w = tables_whole s a.piece.now b in
    let e : given_with (answer_number c.take_tables.result) c.take_tables.new.counts ≡ given_of (tables_answer (bare s) a.piece.now b) = c.take_tables.ensures.value ∙ rw c.parts-parts.ensures in
    record { value = ap (λ (g : Given). counted s g) e ∙ w.0; tables_after = c.take_tables.ensures.tables_after ∙ rw c.parts-parts.ensures w.1 }
