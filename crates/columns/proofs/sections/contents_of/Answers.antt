-- `columns::sections::contents_of` meets its contract: the first fault of labels and sections, else the last tests.
use Rattle.std.proofs.Common.{List, ℕ, ◌≡◌, refl, sym, ◌∙◌, length}
use Rattle.base.specs.Firsts.{or_number, first_found, first-none}
use Rattle.pieces.specs.Setting.{Setting, State}
use Rattle.tree.specs.Plan.{outline_of}
use Rattle.tree.specs.SoundLaws.{sound}
use Rattle.columns.specs.GivenLaws.{small}
use Rattle.columns.specs.Intake.{setting_of}
use Rattle.columns.specs.Sections.{pieces_fault, last_tests, after_pieces, contents_number}
use Rattle.columns.specs.SectionsLaws.{or_assoc, last_same}
use Rattle.refusal.proofs.Passing.{passed_up, refusal_nonzero}
use Rattle.columns.proofs.sections.contents_of.Goals as goal

-- labels and sections together, then the last tests
parted : (x : Setting) (rows s_words cells tables : List ℕ)
    → contents_number x rows s_words cells tables ≡ or_number (or_number x.labelled (pieces_fault x rows s_words cells tables)) (last_tests x (after_pieces rows s_words cells tables))
unfolding contents_number
parted x rows s_words cells tables = sym (or_assoc _ _ _)

pub test_pieces-requires : goal.test_pieces-requires
test_pieces-requires c = (c.requires.0, c.requires.1, (sound c.args.plan c.requires.0).ranges.long)

pub returns-in_err-given : goal.returns-in_err-given
returns-in_err-given c =
    let a = c.args in
    let up = passed_up c.from_residual.result _ c.from_residual.ensures.1 in
    let e = c.in_err-given.ensures.number_value in
    up ∙ (e ∙ sym (parted (setting_of a.plan) a.sections.rows.now a.sections.s_words.now a.sections.cells.now a.sections.tables.now ∙ first_found _ _ (λ z. refusal_nonzero _ (e ∙ z))))

pub last_tests-requires : goal.last_tests-requires
last_tests-requires c =
    let q = c.args.plan in
    rw c.outline.ensures (small (outline_of q) q.gates q.nodes c.requires.0, (sound q c.requires.0).few_gates)

pub returns : goal.returns
returns c =
    let a = c.args in
    let m = c.in_ok-given.ensures.rows_value in
    let s : State =
    record {
      row_count = c.in_ok-given.given;
      word_count = length a.sections.s_words.now;
      cell_count = length a.sections.cells.now;
      table_count = 0;
      stacked = 0;
      used = c.test_pieces.new.used;
      phase = 1;
    } in
    c.last_tests.ensures a.plan.gates a.plan.nodes
    ∙ rw c.outline.ensures refl
    ∙ last_same (setting_of a.plan) a.sections.rows.now a.sections.s_words.now a.sections.cells.now a.sections.tables.now s m.0 refl refl m.1
    ∙ sym (parted (setting_of a.plan) a.sections.rows.now a.sections.s_words.now a.sections.cells.now a.sections.tables.now ∙ first-none _ _ (sym c.in_ok-given.ensures.number_value))
