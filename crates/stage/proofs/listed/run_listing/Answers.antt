-- `stage::listed::run_listing` meets its contract: the reader's refusal, or the circuit of the words that the reader gives.
use Rattle.std.proofs.Common.{◌∙◌}
use Rattle.refusal.specs.Refusal.{refusal_number}
use Rattle.columns.specs.Intake.{store_of}
use Rattle.listing.specs.Places.{words_at}
use Rattle.listing.proofs.ReaderLaws.{read_whole, read_refused}
use Rattle.stage.specs.Listed.{listed_whole, listed_refused}
use Rattle.stage.proofs.CircuitLaws.{staged-refused}
use Rattle.stage.proofs.listed.run_listing.Goals as goal

pub returns-in_err-sections : goal.returns-in_err-sections
returns-in_err-sections c =
    let a = c.args in
    let ws = a.words.now in
    let b = store_of a.constants.now a.copies.now a.scratch.now a.tables.now in
    let r = c.in_err-sections.field-0.0 in
    let k = listed_refused ws b (refusal_number r) (read_refused ws r c.in_err-sections.ensures) in
    record { value = staged-refused c.from_residual.result r c.from_residual.ensures.1 ∙ k.0; tables_after = k.1 }

pub returns : goal.returns
returns c =
    let a = c.args in
    let ws = a.words.now in
    let b = store_of a.constants.now a.copies.now a.scratch.now a.tables.now in
    let w = c.run_parts.ensures in
    let s = c.in_ok-sections.sections in
    let k = listed_whole ws b (words_at ws s) (read_whole ws s c.in_ok-sections.ensures) in
    record { value = w.value ∙ k.0; tables_after = w.tables_after ∙ k.1 }
