-- `columns::sections::unpadded_number` meets its contract: 19, then 1, then the circuit's own number before padding.
use Rattle.std.proofs.Common.{List, ℕ, ◌≤◌, ◌≡◌, sym, ap, ◌∙◌, eq-eqb, ne_eqb, length, le-leb}
use Rattle.std.proofs.lemmas.Bool.{lt-leb}
use Rattle.base.specs.Pick.{pick_yes, pick_no}
use Rattle.tree.specs.Plan.{plan_fault}
use Rattle.refusal.proofs.Passing.{passed_up, refusal_nonzero}
use Rattle.columns.proofs.RowLoop.{gates-sound, gates_refused}
use Rattle.base.specs.Firsts.{or_number, first-none, first_found}
use Rattle.labels.specs.Ranges.{longest_trace}
use Rattle.pieces.specs.Opening.{open_state}
use Rattle.pieces.specs.Records.{rows_of}
use Rattle.pieces.specs.Rows.{marked}
use Rattle.tree.specs.declared.plan.Plan.{Plan}
use Rattle.columns.specs.Intake.{setting_of}
use Rattle.columns.specs.Sections.{pieces_under, unpadded_last, unpadded_number, unpadded_call}
use Rattle.columns.specs.SectionsLaws.{or_assoc}
use Rattle.columns.proofs.sections.unpadded_number.Goals as goal

-- past 19 and 1: labels and sections together, then the last tests
parted : (q : Plan) (height gate : ℕ) (rows s_words cells tables : List ℕ) → plan_fault q ≡ 0 → height ≤ longest_trace → let x = setting_of q in
    unpadded_call x height gate rows s_words cells tables ≡ or_number (or_number x.labelled (pieces_under x height rows s_words cells tables)) (unpadded_last x height gate (length s_words) (length cells) (marked open_state.used (rows_of rows)))
unfolding unpadded_number
parted q height gate rows s_words cells tables no_fault low =
    pick_yes _ _ 19 (eq-eqb (plan_fault q) 0 no_fault) ∙ pick_yes _ _ 1 (le-leb height longest_trace low) ∙ sym (or_assoc _ _ _)

pub returns-in_err-gates : goal.returns-in_err-gates
returns-in_err-gates c =
    let q = c.args.plan in
    let told = gates_refused q _ (c.in_err-gates.ensures.number ∙ rw c.parts.ensures) in
    passed_up c.from_residual.result _ c.from_residual.ensures.1 ∙ told.1 ∙ sym (pick_no _ _ 19 (ne_eqb (plan_fault q) 0 told.0))

pub returns-then-height-gt-LONGEST_TRACE : goal.returns-then-height-gt-LONGEST_TRACE
returns-then-height-gt-LONGEST_TRACE c =
    let no_fault : plan_fault c.args.plan ≡ 0 = gates-sound c.args.plan (c.in_ok-gates.ensures.number ∙ rw c.parts.ensures) in
    let a = c.args in
    sym (pick_yes _ _ 19 (eq-eqb (plan_fault a.plan) 0 no_fault) ∙ pick_no _ _ 1 (lt-leb a.height longest_trace c.if-height-gt-LONGEST_TRACE.true))

pub test_pieces-requires : goal.test_pieces-requires
test_pieces-requires c =
    let no_fault : plan_fault c.args.plan ≡ 0 = gates-sound c.args.plan (c.in_ok-gates.ensures.number ∙ rw c.parts.ensures) in
    (no_fault, c.in_ok-gates.ensures.rows ∙ rw c.parts.ensures, c.if-height-gt-LONGEST_TRACE.false)

pub returns-in_err-test_pieces : goal.returns-in_err-test_pieces
returns-in_err-test_pieces c =
    let a = c.args in
    let no_fault : plan_fault c.args.plan ≡ 0 = gates-sound c.args.plan (c.in_ok-gates.ensures.number ∙ rw c.parts.ensures) in
    let up = passed_up c.from_residual-in_err-test_pieces.result _ c.from_residual-in_err-test_pieces.ensures.1 in
    let e = c.in_err-test_pieces.ensures.number_value in
    up ∙ (e ∙ sym (parted a.plan a.height a.gate a.sections.rows.now a.sections.s_words.now a.sections.cells.now a.sections.tables.now no_fault c.if-height-gt-LONGEST_TRACE.false ∙ first_found _ _ (λ z. refusal_nonzero _ (e ∙ z))))

pub unpadded_last-requires : goal.unpadded_last-requires
unpadded_last-requires c =
    let no_fault : plan_fault c.args.plan ≡ 0 = gates-sound c.args.plan (c.in_ok-gates.ensures.number ∙ rw c.parts.ensures) in
    (no_fault, c.if-height-gt-LONGEST_TRACE.false)

pub returns : goal.returns
returns c =
    let no_fault : plan_fault c.args.plan ≡ 0 = gates-sound c.args.plan (c.in_ok-gates.ensures.number ∙ rw c.parts.ensures) in
    let a = c.args in
    let t = c.in_ok-test_pieces.ensures in
    c.unpadded_last.ensures
    ∙ ap (unpadded_last (setting_of a.plan) a.height a.gate (length a.sections.s_words.now) (length a.sections.cells.now)) t.rows_value.1
    ∙ sym (parted a.plan a.height a.gate a.sections.rows.now a.sections.s_words.now a.sections.cells.now a.sections.tables.now no_fault c.if-height-gt-LONGEST_TRACE.false ∙ first-none _ _ (sym t.number_value))
