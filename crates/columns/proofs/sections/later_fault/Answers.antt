-- `columns::sections::later_fault` meets its contract: the first fault of S words, cells and tables, in this order.
use Rattle.std.proofs.Common.{◌≡◌, sym, ◌∙◌, arith, mul-le-mul, ltb}
use Rattle.refusal.specs.Refusal.{answer_number}
use Rattle.base.specs.Firsts.{first-none, first_found}
use Rattle.parameters.specs.Lookup.{mode_of, width_of}
use Rattle.pieces.specs.Records.{tables_of}
use Rattle.pieces.specs.Tables.{tables_fault}
use Rattle.columns.specs.Stacked.{stack}
use Rattle.tree.specs.SoundLaws.{Sound, sound}
use Rattle.refusal.proofs.Passing.{passed_up, refusal_nonzero}
use Rattle.columns.proofs.sections.later_fault.Goals as goal

pub overflow_mul-plan : goal.overflow_mul-plan
overflow_mul-plan c =
    let fine : Sound c.args.plan = sound c.args.plan c.requires.0 in
    omega (arith, mul-le-mul fine.special c.requires.1)

pub s_words_fault-requires : goal.s_words_fault-requires
s_words_fault-requires c =
    let fine : Sound c.args.plan = sound c.args.plan c.requires.0 in
    (omega arith, omega (arith, mul-le-mul fine.special c.requires.1))

pub returns-in_err-s_words_fault : goal.returns-in_err-s_words_fault
returns-in_err-s_words_fault c =
    let up = passed_up c.from_residual.result _ c.from_residual.ensures.1 in
    let e = c.in_err-s_words_fault.ensures in
    up ∙ (e ∙ sym (first_found _ _ (λ z. refusal_nonzero _ (e ∙ z))))

pub overflow_mul-plan-2 : goal.overflow_mul-plan-2
overflow_mul-plan-2 c =
    let fine : Sound c.args.plan = sound c.args.plan c.requires.0 in
    omega (arith, mul-le-mul fine.ranges.columns c.requires.1)

pub cells_fault-requires : goal.cells_fault-requires
cells_fault-requires c =
    let fine : Sound c.args.plan = sound c.args.plan c.requires.0 in
    (omega arith, omega (arith, mul-le-mul fine.ranges.columns c.requires.1))

pub returns-in_err-cells_fault : goal.returns-in_err-cells_fault
returns-in_err-cells_fault c =
    let up = passed_up c.from_residual-in_err-cells_fault.result _ c.from_residual-in_err-cells_fault.ensures.1 in
    let e = c.in_err-cells_fault.ensures in
    up ∙ (e ∙ sym (first-none _ _ (sym c.in_ok-s_words_fault.ensures) ∙ first_found _ _ (λ z. refusal_nonzero _ (e ∙ z))))

pub tables_fault-requires : goal.tables_fault-requires
tables_fault-requires c =
    let fine : Sound c.args.plan = sound c.args.plan c.requires.0 in
    let w = fine in
    (omega (arith, w.width, c.lookup_width-width.ensures), omega arith, omega arith, w.ranges.long)

pub returns : goal.returns
returns c =
    -- the tables' number: mode and width are the plan's
    let in_tables : let a = c.args in answer_number c.tables_fault.result ≡ tables_fault (ltb 0 (mode_of a.plan.lookup)) (width_of a.plan.lookup) a.plan.trace (stack 0 0) (tables_of a.sections.tables.now) = c.tables_fault.ensures ∙ rw (c.mode.ensures, c.lookup_width-width.ensures) in
    let e = in_tables in
    e ∙ sym (first-none _ _ (sym c.in_ok-s_words_fault.ensures) ∙ first-none _ _ (sym c.in_ok-cells_fault.ensures))
