-- `calls::call::one_call` meets its contract: each arm is the call of its kind.
use Rattle.std.proofs.Common.{refl, ap, arith}
use Rattle.refusal.specs.Refusal.{answer_number}
use Rattle.tree.specs.Plan.{parts_plan}
use Rattle.columns.specs.Intake.{state_in, with_state}
use Rattle.columns.specs.Given.{given_with, marked_with}
use Rattle.calls.specs.Kinds.{kind_word}
use Rattle.calls.specs.PartsLaws.{by_kind_1, by_kind_2, by_kind_3, by_kind_4, by_kind_5}
use Rattle.calls.proofs.call.one_call.Goals as goal

pub returns-in-Rows : goal.returns-in-Rows
returns-in-Rows c =
    let a = c.args in
    let r = c.take_rows in
    let both = by_kind_1 (with_state (parts_plan a.parts) (state_in a.counts.now a.used.now)) (kind_word a.kind) a.piece.now a.constants.now a.copies.now a.scratch.now a.tables.now
    (marked_with (answer_number r.result) r.new.counts r.new.used) (ap kind_word c.in-Rows.is) r.new.constants r.ensures.value r.ensures.constants_after in
    record { value = both.0; tables_after = both.1 }

pub returns-in-SWords : goal.returns-in-SWords
returns-in-SWords c =
    let a = c.args in
    let r = c.take_s_words in
    let both = by_kind_2 (with_state (parts_plan a.parts) (state_in a.counts.now a.used.now)) (kind_word a.kind) a.piece.now a.constants.now a.copies.now a.scratch.now a.tables.now
    (marked_with (answer_number r.result) r.new.counts a.used.now) (given_with (answer_number r.result) r.new.counts) refl (ap kind_word c.in-SWords.is) r.new.constants r.ensures.value r.ensures.constants_after in
    record { value = both.0; tables_after = both.1 }

pub returns-in-Cells : goal.returns-in-Cells
returns-in-Cells c =
    let a = c.args in
    let r = c.take_cells in
    let both = by_kind_3 (with_state (parts_plan a.parts) (state_in a.counts.now a.used.now)) (kind_word a.kind) a.piece.now a.constants.now a.copies.now a.scratch.now a.tables.now
    (marked_with (answer_number r.result) r.new.counts a.used.now) (given_with (answer_number r.result) r.new.counts) refl (ap kind_word c.in-Cells.is) r.new.copies r.new.scratch r.ensures.value r.ensures.scratch_after in
    record { value = both.0; tables_after = both.1 }

pub returns-in-Tables : goal.returns-in-Tables
returns-in-Tables c =
    let a = c.args in
    let r = c.take_tables in
    let both = by_kind_4 (with_state (parts_plan a.parts) (state_in a.counts.now a.used.now)) (kind_word a.kind) a.piece.now a.constants.now a.copies.now a.scratch.now a.tables.now
    (marked_with (answer_number r.result) r.new.counts a.used.now) (given_with (answer_number r.result) r.new.counts) refl (ap kind_word c.in-Tables.is) r.new.tables r.ensures.value r.ensures.tables_after in
    record { value = both.0; tables_after = both.1 }

pub returns-in-Finishing : goal.returns-in-Finishing
returns-in-Finishing c =
    let a = c.args in
    let r = c.take_finish in
    let both = by_kind_5 (with_state (parts_plan a.parts) (state_in a.counts.now a.used.now)) (kind_word a.kind) a.piece.now a.constants.now a.copies.now a.scratch.now a.tables.now
    (marked_with (answer_number r.result) r.new.counts a.used.now) (given_with (answer_number r.result) r.new.counts) refl (λ z. omega (arith, ap kind_word c.in-Finishing.is, z)) (λ z. omega (arith, ap kind_word c.in-Finishing.is, z)) (λ z. omega (arith, ap kind_word c.in-Finishing.is, z)) (λ z. omega (arith, ap kind_word c.in-Finishing.is, z)) r.new.copies r.ensures.value r.ensures.copies_after in
    record { value = both.0; tables_after = both.1 }
