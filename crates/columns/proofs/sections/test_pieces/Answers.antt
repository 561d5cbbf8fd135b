-- `columns::sections::test_pieces` meets its contract: the labels' number, then the rows', then that of the later sections.
use Rattle.std.proofs.Common.{◌≡◌, sym, ◌∙◌, true, arith, ℕ}
use Rattle.std.proofs.lemmas.Result.{IfOk-from_err}
use Rattle.refusal.specs.Refusal.{refusal_number}
use Rattle.base.specs.Firsts.{first-none, first_found}
use Rattle.labels.specs.Ranges.{ranges_fit}
use Rattle.labels.specs.Labels.{search_number, representatives_number}
use Rattle.pieces.specs.Records.{rows_of}
use Rattle.pieces.specs.Rows.{gates_of, rows_fault}
use Rattle.tree.specs.SoundLaws.{Sound, sound}
use Rattle.columns.specs.Intake.{setting_of}
use Rattle.refusal.proofs.Passing.{passed_up, refusal_nonzero}
use Rattle.columns.proofs.RowLoop.{GatesOf, gates-of, gates_fault}
use Rattle.columns.proofs.sections.test_pieces.Goals as goal

-- within the ranges the labels' number is the search's
representatives-are : (n k : ℕ) → ranges_fit n k ≡ true → representatives_number n k ≡ search_number n k
unfolding representatives_number
representatives-are n k r = rw r

pub returns-in_err-representatives : goal.returns-in_err-representatives
returns-in_err-representatives c =
    let a = c.args in
    let fine : Sound a.plan = sound a.plan c.requires.0 in
    let r = c.in_err-representatives.field-0.0 in
    let labelled : refusal_number r ≡ (setting_of a.plan).labelled = c.in_err-representatives.ensures.number_value ∙ representatives-are a.plan.trace a.plan.copy fine.ranges_fit_too in
    let f = c.from_residual in record {
      number_value = passed_up f.result _ f.ensures.1 ∙ labelled ∙ sym (first_found _ _ (λ z. refusal_nonzero r (labelled ∙ z)));
      rows_value = IfOk-from_err f.result _ f.ensures.0;
    }

pub test_rows-requires : goal.test_rows-requires
test_rows-requires c =
    let fine : Sound c.args.plan = sound c.args.plan c.requires.0 in
    let told : GatesOf c.args.plan c.args.gates = gates-of c.args.plan c.args.gates c.requires.0 c.requires.1 in
    (omega (arith, fine.few_gates, told.alike.many_same), omega arith, fine.ranges.long)

pub returns-in_err-given : goal.returns-in_err-given
returns-in_err-given c =
    let a = c.args in
    let fine : Sound a.plan = sound a.plan c.requires.0 in
    let told : GatesOf a.plan a.gates = gates-of a.plan a.gates c.requires.0 c.requires.1 in
    let r = c.in_err-given.field-0.0 in
    -- the rows' number: the gates' constants are the plan's
    let in_rows : refusal_number r ≡ rows_fault (gates_of (setting_of a.plan)) a.plan.trace 0 (rows_of a.sections.rows.now) = c.in_err-given.ensures.number_value ∙ gates_fault a.plan a.gates told a.plan.trace 0 (rows_of a.sections.rows.now) in
    let unrefused : (setting_of a.plan).labelled ≡ 0 = sym (c.in_ok-representatives.ensures.number_value ∙ representatives-are a.plan.trace a.plan.copy fine.ranges_fit_too) in
    let f = c.from_residual-in_err-given in record {
      number_value = passed_up f.result _ f.ensures.1 ∙ in_rows ∙ sym (first-none _ _ unrefused ∙ first_found _ _ (λ z. refusal_nonzero r (in_rows ∙ z)));
      rows_value = IfOk-from_err f.result _ f.ensures.0;
    }

pub returns-in_err-later_fault : goal.returns-in_err-later_fault
returns-in_err-later_fault c =
    let a = c.args in
    let fine : Sound a.plan = sound a.plan c.requires.0 in
    let told : GatesOf a.plan a.gates = gates-of a.plan a.gates c.requires.0 c.requires.1 in
    let in_rows : 0 ≡ rows_fault (gates_of (setting_of a.plan)) a.plan.trace 0 (rows_of a.sections.rows.now) = c.in_ok-given.ensures.number_value ∙ gates_fault a.plan a.gates told a.plan.trace 0 (rows_of a.sections.rows.now) in
    let unrefused : (setting_of a.plan).labelled ≡ 0 = sym (c.in_ok-representatives.ensures.number_value ∙ representatives-are a.plan.trace a.plan.copy fine.ranges_fit_too) in
    let f = c.from_residual-in_err-later_fault in record {
      number_value = passed_up f.result _ f.ensures.1 ∙ c.in_err-later_fault.ensures ∙ sym (first-none _ _ unrefused ∙ first-none _ _ (sym in_rows));
      rows_value = IfOk-from_err f.result _ f.ensures.0;
    }

pub returns : goal.returns
returns c =
    let a = c.args in
    let fine : Sound a.plan = sound a.plan c.requires.0 in
    let told : GatesOf a.plan a.gates = gates-of a.plan a.gates c.requires.0 c.requires.1 in
    let in_rows : 0 ≡ rows_fault (gates_of (setting_of a.plan)) a.plan.trace 0 (rows_of a.sections.rows.now) = c.in_ok-given.ensures.number_value ∙ gates_fault a.plan a.gates told a.plan.trace 0 (rows_of a.sections.rows.now) in
    let unrefused : (setting_of a.plan).labelled ≡ 0 = sym (c.in_ok-representatives.ensures.number_value ∙ representatives-are a.plan.trace a.plan.copy fine.ranges_fit_too) in
    record { number_value = c.in_ok-later_fault.ensures ∙ sym (first-none _ _ unrefused ∙ first-none _ _ (sym in_rows)); rows_value = c.in_ok-given.ensures.rows_value }
