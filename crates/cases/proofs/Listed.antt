-- P8: the worked listing, from its bytes to every byte that is printed.
--
-- Main statement: `printed-bytes`.
use Rattle.std.specs.Prelude.{◌≡◌, refl, Bool, true, List, [], ◌∷◌, ℕ, ◌%◌, eqb, length, replicate}
use Rattle.std.proofs.Common.{sym, ap, ◌∙◌, arith}
use Rattle.std.proofs.Math.Option.{some, bind}
use Rattle.base.specs.Exponent.{exponent_from}
use Rattle.base.specs.Firsts.{or_number}
use Rattle.base.specs.Pick.{pick, pick_yes}
use Rattle.labels.specs.Labels.{search_number, representatives_number}
use Rattle.labels.specs.Ranges.{ranges_fit}
use Rattle.labels.proofs.Numerals.{worked_labels}
use Rattle.selector.specs.Gates.{constants_of, degree_at, placed_from, comes_before, inserted, sorted, greatest}
use Rattle.selector.specs.MadeUp.{wanted}
use Rattle.selector.specs.Nodes.{most_levels, node_slots, tree_at}
use Rattle.selector.specs.NodeLaws.{own_tree}
use Rattle.selector.specs.Paths.{Selector, path_to, path_of}
use Rattle.selector.specs.Refusals.{words_fit, record_number, records_number, some_kind, lookup_number, kinds_number, constants_number, gates_number}
use Rattle.selector.specs.Search.{may_stand, first_bound, first_target, tree_within, search_tree, plan_tree, degree_over, constants_over}
use Rattle.selector.specs.Tree.{offer, offer_all, grown}
use Rattle.parameters.specs.Lookup.{mode_of}
use Rattle.parameters.specs.Parameters.{range_number, flag_number, parameters_number, lookup_of}
use Rattle.tree.specs.Plan.{words_number, plan_number, planned, plan_fault, plan_path, plan_selector, selector_among, table_id_answer}
use Rattle.tree.specs.PlanLaws.{planned_fault}
use Rattle.tree.specs.SoundLaws.{path_kept, path_in}
use Rattle.tree.specs.declared.plan.Plan.{Plan}
use Rattle.tree.specs.Answers.{TableId}
use Rattle.pieces.specs.Setting.{Setting, counts_fit, stands}
use Rattle.pieces.specs.Records.{read_by, rows_of, tables_of, first_fault, all_below}
use Rattle.pieces.specs.Writing.{put, padded, put_lines}
use Rattle.pieces.specs.Opening.{room_to_open, open_number, fresh}
use Rattle.pieces.specs.Rows.{row_fault, rows_number, row_lines, rows_written, marked}
use Rattle.base.specs.Tables.{table}
use Rattle.octets.specs.Words.{words_of}
use Rattle.pieces.specs.SWords.{s_word_fault, s_words_number, s_words_written}
use Rattle.pieces.specs.Cells.{cell_fault, cells_number, room_for_cells, first_seen, seen_again, place_cell, cells_run}
use Rattle.pieces.specs.Tables.{table_fault, tables_number, entries, table_lines, tables_written, sum_rows}
use Rattle.pieces.specs.Finishing.{every_from, complete, all_used, variable_fine, scratch_fine, finish_number, write_back, finish_from}
use Rattle.pieces.specs.Calls.{number, taken, after, run}
use Rattle.columns.specs.Sections.{first_refusal}
use Rattle.columns.specs.Intake.{setting_of, labels_of}
use Rattle.claim.specs.Chain.{Kept}
use Rattle.claim.specs.Statement.{setting_for, Opened}
use Rattle.claim.proofs.ChainLaws.{open-number}
use Rattle.claim.proofs.Theorem.{kept_run}
use Rattle.stage.specs.Circuit.{calls, stage_number}
use Rattle.listing.specs.Listing.{Words, whole, off, records, section, six_sections, read}
use Rattle.stage.proofs.CircuitLaws.{answer-taken}
use Rattle.stage.specs.Listed.{listed_answer, listed_left, listed_whole}
use Rattle.stage.specs.Circuit.{Staged}
use Rattle.octets.specs.Text.{places, decimal, fields}
use Rattle.report.specs.Report.{digits_of, path_lines, column_lines, columns_there, report_lines}
use Rattle.report.specs.ReportLaws.{report_whole}
use Rattle.program.specs.Program.{lent, printed, program_text}
use Rattle.program.specs.ProgramLaws.{printed_by, text-words}
use Rattle.cases.specs.Listed.{bytes, cell_words, gates, left, lines, none_there, parameters, plan, row_words, setting, text, tree, words, worked}

-- planning accepts
pub plan-number : plan_number parameters gates ≡ 0
unfolding parameters gates or_number exponent_from ranges_fit range_number flag_number parameters_number words_fit record_number records_number some_kind lookup_number kinds_number constants_number gates_number words_number plan_number constants_of degree_at placed_from comes_before inserted sorted greatest offer offer_all grown may_stand first_bound first_target tree_within search_tree plan_tree
plan-number = refl

pub plan_known : planned parameters gates ≡ plan
unfolding plan tree parameters gates or_number exponent_from ranges_fit range_number flag_number parameters_number lookup_of words_fit record_number records_number some_kind lookup_number kinds_number constants_number gates_number words_number plan_number planned constants_of degree_at placed_from comes_before inserted sorted greatest offer offer_all grown may_stand first_bound first_target tree_within search_tree plan_tree degree_over constants_over
plan_known = refl

setting_is : setting_of plan ≡ setting (plan_path plan) (eqb (plan_fault plan) 0) (search_number 2 2) (labels_of 2 2)
unfolding setting plan
setting_is = refl

tree_is : tree_at most_levels plan.nodes 0 ≡ some tree
unfolding plan tree
tree_is = own_tree tree (replicate node_slots 0) (omega arith) most_levels (omega arith)

sound_known : plan_fault plan ≡ 0
sound_known = ap plan_fault (sym plan_known) ∙ planned_fault parameters gates plan-number

pub path_is : plan_path plan ≡ (λ g. path_of g tree)
path_is = path_kept plan sound_known ∙ ap path_in tree_is

-- what is answered of its two gates
selector_is : plan_selector plan ≡ selector_among 2 (some tree)
unfolding plan
selector_is = ap (selector_among 2) tree_is

sound_is : eqb (plan_fault plan) 0 ≡ true
sound_is = ap (λ (n : ℕ). eqb n 0) sound_known

-- "N=2, C=2": 1, p − 1, 7, p − 7
pub found_number : search_number 2 2 ≡ 0
unfolding representatives_number ranges_fit exponent_from
found_number = worked_labels.labels_number

setting_known : setting_for parameters gates ≡ worked
unfolding worked
setting_known =
    ap setting_of plan_known ∙ setting_is ∙ ap (λ (w : ℕ → List ℕ). setting w (eqb (plan_fault plan) 0) (search_number 2 2) (labels_of 2 2)) path_is
    ∙ ap (λ (t : Bool). setting (λ g. path_of g tree) t (search_number 2 2) (labels_of 2 2)) sound_is ∙ ap (λ (n : ℕ). setting (λ g. path_of g tree) true n (labels_of 2 2)) found_number
    ∙ ap (setting (λ g. path_of g tree) true 0) worked_labels.labels

-- opening and every call accept, in the buffers that the program lends
pub opening_known : open_number worked lent ≡ 0
unfolding worked setting lent room_to_open open_number
opening_known = refl

calls_known : first_refusal worked (calls row_words [] cell_words []) (fresh worked lent) ≡ 0
unfolding worked setting plan tree lent row_words cell_words exponent_from constants_of path_to wanted or_number room_to_open open_number first_refusal stands counts_fit read_by rows_of first_fault all_below put padded put_lines row_fault rows_number row_lines rows_written marked s_word_fault s_words_number s_words_written cell_fault cells_number room_for_cells first_seen seen_again place_cell cells_run tables_of table_fault tables_number tables_written table_lines entries sum_rows every_from complete all_used variable_fine scratch_fine finish_number write_back finish_from number taken after run
calls_known = refl

pub left_known : (run worked (calls row_words [] cell_words []) (fresh worked lent)).store ≡ left
unfolding left worked setting plan tree lent row_words cell_words exponent_from constants_of path_to wanted or_number room_to_open open_number first_refusal stands counts_fit read_by rows_of first_fault all_below put padded put_lines row_fault rows_number row_lines rows_written marked s_word_fault s_words_number s_words_written cell_fault cells_number room_for_cells first_seen seen_again place_cell cells_run tables_of table_fault tables_number tables_written table_lines entries sum_rows every_from complete all_used variable_fine scratch_fine finish_number write_back finish_from number taken after run
left_known = refl

number_known : stage_number parameters gates row_words [] cell_words [] lent ≡ 0
unfolding stage_number or_number
number_known =
    ap (λ (x : Setting). or_number (plan_number parameters gates) (or_number (open_number x lent) (first_refusal x (calls row_words [] cell_words []) (fresh x lent)))) setting_known
    ∙ rw (plan-number, opening_known, calls_known)

sections : Words
sections = record { parameters = 2 ∷ 2 ∷ 1 ∷ 0 ∷ 2 ∷ 0 ∷ 0 ∷ 0 ∷ []; gates = gates; rows = row_words; s_words = []; cells = cell_words; tables = [] }

words_are : read words ≡ whole sections
unfolding words sections gates row_words cell_words off records section six_sections read bind
words_are = refl

answer_known : listed_answer words lent ≡ record { number = 0; plan = plan }
unfolding sections parameters
answer_known =
    sym (listed_whole words lent sections words_are).0 ∙ sym (answer-taken parameters gates row_words [] cell_words [] lent number_known).0
    ∙ ap (λ (q : Plan). record { number = 0; plan = q }) plan_known

-- planning and opening accept
opened : Opened parameters gates lent
opened = record { planning = plan-number; opening = open-number (planned parameters gates) lent ∙ ap (λ (x : Setting). open_number x lent) setting_known ∙ opening_known }

listing-left : listed_left words lent ≡ left
unfolding sections parameters
listing-left =
    sym (listed_whole words lent sections words_are).1 ∙ sym (answer-taken parameters gates row_words [] cell_words [] lent number_known).1
    ∙ ap (λ (k : Kept). k.store) (kept_run parameters gates lent opened (calls row_words [] cell_words [])) ∙ ap (λ (x : Setting). (run x (calls row_words [] cell_words []) (fresh x lent)).store) setting_known ∙ left_known

modes : pick {A = TableId} (eqb (mode_of plan.lookup) 2) (record { number = 0; count = 1; index = length (plan_path plan 0) })
    (pick (eqb (mode_of plan.lookup) 4) (record { number = 0; count = 1; index = plan.constants }) (record { number = 0; count = 0; index = 0 }))
    ≡ none_there
unfolding plan none_there
modes = refl

no_id : table_id_answer plan ≡ none_there
unfolding table_id_answer
no_id = pick_yes (eqb (plan_fault plan) 0) _ _ (ap (λ (n : ℕ). eqb n 0) sound_known) ∙ modes

lines_are : report_lines plan left.constants left.cells.copies left.tables ≡ lines (plan_selector plan) (table_id_answer plan)
unfolding report_lines lines plan
lines_are = refl

text_is : lines (selector_among 2 (some tree)) none_there ≡ text
unfolding none_there lines text plan left tree path_to path_lines column_lines digits_of fields decimal places
text_is = refl

there : columns_there (setting_of plan) left.constants left.cells.copies left.tables ≡ true
unfolding plan left
there = refl

-- "P8 the listing."
printed-listing : printed words ≡ text
unfolding left
printed-listing =
    sym (printed_by words plan _ _ _ _ (ap (λ (r : Staged). r.number) answer_known) (sym (ap (λ (r : Staged). r.plan) answer_known)) (sym listing-left))
    ∙ sym (report_whole plan left.constants left.cells.copies left.tables sound_known there)
    ∙ lines_are ∙ ap (λ (w : ℕ → Selector). lines w (table_id_answer plan)) selector_is ∙ ap (lines (selector_among 2 (some tree))) no_id ∙ text_is

bytes-many : length bytes ≡ 232
unfolding bytes
bytes-many = refl

bytes_are : words_of bytes ≡ words
unfolding bytes words table
bytes_are = refl

pub printed-bytes : program_text bytes ≡ text
printed-bytes =
    sym (text-words bytes (omega (arith, bytes-many)) (ap (λ (n : ℕ). n % 8) bytes-many)) ∙ ap printed bytes_are ∙ printed-listing
