-- `stage::listed::run_parts` meets its contract: each section's words are those at its place.
use Rattle.std.proofs.Common.{ap, ◌∙◌}
use Rattle.columns.specs.Intake.{store_of}
use Rattle.listing.specs.Places.{words_at}
use Rattle.parameters.specs.Parameters.{parameters_at}
use Rattle.stage.specs.Listed.{words_same}
use Rattle.stage.proofs.listed.run_parts.Goals as goal

pub returns : goal.returns
returns c =
    let a = c.args in
    let w = c.run_sections.ensures in
    let k =
    words_same (words_at a.words.now a.sections) (store_of a.constants.now a.copies.now a.scratch.now a.tables.now) c.parameters_at.result
    c.part_of-2.result.now c.part_of-3.result.now c.part_of-4.result.now c.part_of-5.result.now c.part_of-6.result.now
    (c.parameters_at.ensures ∙ ap parameters_at c.part_of.ensures)
    c.part_of-2.ensures
    c.part_of-3.ensures
    c.part_of-4.ensures
    c.part_of-5.ensures
    c.part_of-6.ensures
    in
    record { value = w.value ∙ k.0; tables_after = w.tables_after ∙ k.1 }
