-- What the claim says of a circuit with S words, tables and a dropped gate, of P9, and of a lone gate of kind 2, in numerals: S words, entries, zeros below,
-- products in a dropped gate's row, all columns as one function, lists that are alike, 'no 18'. Each is drawn from `claim`, so that a part that says nothing, or
-- the contrary, is refused here.
--
-- Main definition: `SaidOfOthers`. Main statement: `others_say`.
use Rattle.std.specs.Prelude.{◌≡◌, refl, true, List, [], ◌∷◌, ℕ, zero, suc, ◌+◌, ◌-◌, ◌*◌, ◌<◌, length, get_or, take, replicate}
use Rattle.std.proofs.Common.{sym, ap, ◌∙◌, subst, inl, inr, arith}
use Rattle.std.proofs.Math.Option.{some}
use Rattle.base.specs.Exponent.{exponent_from}
use Rattle.base.specs.Firsts.{or_number}
use Rattle.base.specs.Tables.{table}
use Rattle.field.specs.Field.{p}
use Rattle.labels.specs.Labels.{search_number, found, search_from}
use Rattle.labels.specs.Ranges.{ranges_fit}
use Rattle.selector.specs.Gates.{constants_of, degree_at, placed_from, comes_before, inserted, sorted, greatest}
use Rattle.selector.specs.MadeUp.{wanted}
use Rattle.selector.specs.Markers.{marker_ends, noughts}
use Rattle.selector.specs.Nodes.{most_levels, node_slots, tree_at}
use Rattle.selector.specs.NodeLaws.{own_tree}
use Rattle.selector.specs.Refusals.{words_fit, record_number, records_number, some_kind, lookup_number, kinds_number, constants_number, gates_number}
use Rattle.selector.specs.Search.{may_stand, first_bound, first_target, tree_within, search_tree, plan_tree, degree_over, constants_over}
use Rattle.selector.specs.Tree.{leaf, offer, offer_all, grown}
use Rattle.parameters.specs.Parameters.{range_number, flag_number, parameters_number, lookup_of}
use Rattle.selector.specs.Paths.{path_to, path_of}
use Rattle.tree.specs.Plan.{words_number, plan_number, planned, plan_path}
use Rattle.pieces.specs.Setting.{Setting, Store, copy_room, counts_fit, stands}
use Rattle.pieces.specs.Records.{Read, whole, cut, read_by, rows_of, tables_of, first_fault, all_below}
use Rattle.pieces.specs.Writing.{put, padded, put_lines}
use Rattle.pieces.specs.Opening.{room_to_open, open_number, fresh}
use Rattle.pieces.specs.Rows.{row_fault, rows_number, row_lines, rows_written, marked}
use Rattle.pieces.specs.SWords.{s_word_fault, s_words_number, s_words_written}
use Rattle.pieces.specs.Cells.{cell_fault, cells_number, room_for_cells, first_seen, seen_again, place_cell, cells_run}
use Rattle.pieces.specs.Tables.{table_fault, tables_number, entries, table_lines, tables_written, sum_rows}
use Rattle.pieces.specs.Finishing.{every_from, complete, all_used, variable_fine, scratch_fine, finish_number, write_back, finish_from}
use Rattle.pieces.specs.Calls.{number, taken, after, run}
use Rattle.pieces.specs.Whole.{Circuit, columns_of, names_at, last_of, first_of, copy_at, scratch_at, laid_over}
use Rattle.columns.specs.Intake.{store_of}
use Rattle.claim.specs.Chain.{Kept}
use Rattle.claim.specs.Statement.{product, RowOf, Stands, Has, SameColumns, Right, setting_for, kept, Finished}
use Rattle.claim.specs.Model.{circuit_by, FinishesBy}
use Rattle.claim.proofs.Theorem.{claim}
use Rattle.cases.specs.Columns.{old, lone, one, nop, two, p9_calls, p9_refused, x₉}
use Rattle.cases.proofs.Columns.{setting_known, kept_known, path-of, known_fault, path₉, accepts₉, known₉, found₉, labels₉, opens₉, p9}
use Rattle.cases.specs.Listed.{parameters, gates, plan, tree}
use Rattle.cases.proofs.Listed.{plan-number, plan_known, path_is}
use Rattle.cases.proofs.Drawn.{finished, circuit_known, drawn}
use Rattle.cases.specs.SaidOfListing.{labels₈, circuit₈, x₈, calls₈}
use Rattle.cases.proofs.SaidOfListing.{found₈, labels_known₈}
use Rattle.cases.specs.SaidOfOthers.{SaidOfOthers, before_hand, callsₗ, circuitₗ, columnsₗ, constantsₗ, cutₗ, dropping, leftₗ, lent_with, looking, only_2, plan₂, planₗ, rowsₗ, tablesₗ, wordₗ, xₗ, Stands31}

pub acceptsₗ : plan_number looking dropping ≡ 0
unfolding or_number exponent_from ranges_fit range_number flag_number parameters_number words_fit record_number records_number some_kind lookup_number kinds_number constants_number gates_number words_number plan_number constants_of degree_at placed_from comes_before inserted sorted greatest offer offer_all grown may_stand first_bound first_target tree_within search_tree plan_tree
acceptsₗ = refl

pub knownₗ : planned looking dropping ≡ planₗ
unfolding planₗ tree or_number exponent_from ranges_fit range_number flag_number parameters_number lookup_of words_fit record_number records_number some_kind lookup_number kinds_number constants_number gates_number words_number plan_number planned constants_of degree_at placed_from comes_before inserted sorted greatest offer offer_all grown may_stand first_bound first_target tree_within search_tree plan_tree degree_over constants_over
knownₗ = refl

pub standsₗ : tree_at most_levels planₗ.nodes 0 ≡ some tree
unfolding planₗ tree
standsₗ = own_tree tree (replicate node_slots 0) (omega arith) most_levels (omega arith)

pathₗ : plan_path planₗ ≡ (λ g. path_of g tree)
pathₗ = path-of planₗ tree (known_fault looking dropping planₗ acceptsₗ knownₗ) standsₗ

foundₗ : search_number planₗ.trace planₗ.copy ≡ 0
unfolding planₗ search_number found search_from
foundₗ = refl

opensₗ : (w : ℕ) → open_number xₗ (before_hand w) ≡ 0
unfolding planₗ before_hand room_to_open open_number
opensₗ w = refl

-- by the sections' rules the finishing is accepted, and the circuit is this one
runsₗ : FinishesBy xₗ callsₗ (fresh xₗ (before_hand 9)) × (circuit_by xₗ callsₗ (fresh xₗ (before_hand 9)) ≡ circuitₗ)
unfolding planₗ tree before_hand table constants_of path_to wanted marker_ends noughts or_number stands counts_fit read_by rows_of first_fault all_below put padded put_lines row_fault rows_number row_lines rows_written marked s_word_fault s_words_number s_words_written cell_fault cells_number room_for_cells first_seen seen_again place_cell cells_run tables_of table_fault tables_number tables_written table_lines entries sum_rows every_from complete all_used variable_fine scratch_fine finish_number write_back finish_from number taken after circuit_by
runsₗ = (inr (inr (inr (inr (inl (refl, refl))))), refl)

-- so it is for the list cut in another way
runs_cut : FinishesBy xₗ cutₗ (fresh xₗ (before_hand 8)) × (circuit_by xₗ cutₗ (fresh xₗ (before_hand 8)) ≡ circuitₗ)
unfolding planₗ tree before_hand table constants_of path_to wanted marker_ends noughts or_number stands counts_fit read_by rows_of first_fault all_below put padded put_lines row_fault rows_number row_lines rows_written marked s_word_fault s_words_number s_words_written cell_fault cells_number room_for_cells first_seen seen_again place_cell cells_run tables_of table_fault tables_number tables_written table_lines entries sum_rows every_from complete all_used variable_fine scratch_fine finish_number write_back finish_from number taken after circuit_by
runs_cut = (inr (inr (inr (inr (inr (inr (inr (inr (inr (inr (inr (inl (refl, refl)))))))))))), refl)

left_knownₗ : (run xₗ callsₗ (fresh xₗ (before_hand 9))).store ≡ leftₗ
unfolding planₗ tree before_hand table constants_of path_to wanted marker_ends noughts or_number stands counts_fit read_by rows_of first_fault all_below put padded put_lines row_fault rows_number row_lines rows_written marked s_word_fault s_words_number s_words_written cell_fault cells_number room_for_cells first_seen seen_again place_cell cells_run tables_of table_fault tables_number tables_written table_lines entries sum_rows every_from complete all_used variable_fine scratch_fine finish_number write_back finish_from number taken after run
left_knownₗ = refl

-- the claim, at this circuit
rightₗ : Right xₗ circuitₗ leftₗ
rightₗ = drawn looking dropping planₗ acceptsₗ knownₗ (λ g. path_of g tree) pathₗ _ foundₗ refl (before_hand 9) callsₗ circuitₗ leftₗ (opensₗ 9) runsₗ.0 runsₗ.1 left_knownₗ

recordsₗ : rows_of rowsₗ ≡ whole 0 1 (5 ∷ []) ∷ whole 1 0 [] ∷ whole 2 0 [] ∷ whole 2 0 [] ∷ []
unfolding read_by rows_of
recordsₗ = refl

row_2 : RowOf rowsₗ 2 2
row_2 = record { many = 0; words = []; record_is = ap (λ (ts : List Read). get_or ts 2 cut) recordsₗ }

row_1 : RowOf rowsₗ 1 1
row_1 = record { many = 0; words = []; record_is = ap (λ (ts : List Read). get_or ts 1 cut) recordsₗ }

stacked : tables_of tablesₗ ≡ whole 1 0 [] ∷ whole 1 2 (30 ∷ 31 ∷ []) ∷ []
unfolding read_by tables_of
stacked = refl

sums : sum_rows 0 (whole 1 0 [] ∷ whole 1 2 (30 ∷ 31 ∷ []) ∷ []) ≡ 2
unfolding sum_rows
sums = refl

-- entries of this circuit
has_31 : Has xₗ tablesₗ (31 ∷ []) 2
unfolding planₗ
has_31 =
    record { place = 1; place_is = refl; many = 2; words = 30 ∷ 31 ∷ []; record_is = ap (λ (ts : List Read). get_or ts 1 cut) stacked; row = 1; row_below = omega arith; contents = at }
  where
    at : (c : ℕ) → c < 1 → get_or {A = ℕ} (30 ∷ 31 ∷ []) (1 * 1 + c) 0 ≡ get_or (31 ∷ []) c 0
    at zero h = refl
    at (suc c) h = absurd (omega arith)

-- table 1 is empty
has_none : Has xₗ tablesₗ (31 ∷ []) 1 → ⊥
unfolding planₗ
has_none k =
    let z : k.place ≡ 0 = omega (arith, k.place_is) in
    let e : whole 1 0 [] ≡ whole 1 k.many k.words = sym (ap (λ (ts : List Read). get_or ts 0 cut) stacked) ∙ ap (λ (i : ℕ). get_or (tables_of tablesₗ) i cut) (sym z) ∙ k.record_is in
    let m : k.many ≡ 0 = cc in
    omega (arith, k.row_below)

dropped_0 : product (1 ∷ []) (wordₗ 2) 0 ≡ noughts (1 ∷ [])
unfolding planₗ tree path_to wanted
dropped_0 = rightₗ.dropped_product 2 2 0 (omega arith) row_2 refl (omega arith)

dropped_1 : product (0 ∷ []) (wordₗ 2) 0 ≡ noughts (0 ∷ [])
unfolding planₗ tree path_to wanted
dropped_1 = rightₗ.dropped_product 2 2 1 (omega arith) row_2 refl (omega arith)

-- and of the evaluated gate 0 in that row, and in the row of the kind 1 gate
off_2 : product (1 ∷ []) (wordₗ 2) 0 ≡ 0
unfolding planₗ tree path_to
off_2 = rightₗ.evaluated-product 2 2 0 (omega arith) row_2 (omega arith) refl (λ z. omega (arith, z))

off_1 : product (1 ∷ []) (wordₗ 1) 0 ≡ 0
unfolding planₗ tree path_to
off_1 = rightₗ.evaluated-product 1 1 0 (omega arith) row_1 (omega arith) refl (λ z. omega (arith, z))

nought_0 : noughts (1 ∷ []) ≡ 0
unfolding noughts
nought_0 = refl

nought_1 : noughts (0 ∷ []) ≡ 1
unfolding noughts
nought_1 = refl

s_word : (j : ℕ) → j < 4 → get_or constantsₗ (8 + j) 0 ≡ get_or (21 ∷ 22 ∷ 23 ∷ 24 ∷ []) j 0
unfolding planₗ
s_word j h = rightₗ.s-columns j h

all_words : length {A = ℕ} (21 ∷ 22 ∷ 23 ∷ 24 ∷ []) ≡ 4
unfolding planₗ
all_words = rightₗ.words_full

stands_31 : Stands31
unfolding planₗ
stands_31 = (rightₗ.entry refl (31 ∷ []) 2 (λ e. omega arith)).1 has_31

stands-none : Stands xₗ columnsₗ (31 ∷ []) 1 → ⊥
unfolding planₗ
stands-none s = has_none ((rightₗ.entry refl (31 ∷ []) 1 (λ e. omega arith)).0 s)

-- the first row below the stack
below_it : (c : ℕ) → c < 2 → get_or columnsₗ (c * 4 + 2) 0 ≡ 0
unfolding planₗ
below_it c h = rightₗ.zeros_below refl 2 c (rw (stacked, sums) (omega arith)) (omega arith) (omega arith)

-- two lists alike in their whole circuit, over other buffers
alikeₗ : SameColumns (setting_for looking dropping) (kept looking dropping (before_hand 9) callsₗ).store (kept looking dropping (before_hand 8) cutₗ).store
alikeₗ =
    (claim looking dropping (before_hand 9) callsₗ).alike
    (finished looking dropping planₗ acceptsₗ knownₗ (λ g. path_of g tree) pathₗ _ foundₗ refl (before_hand 9) callsₗ (opensₗ 9) runsₗ.0)
    looking dropping (before_hand 8) cutₗ
    (finished looking dropping planₗ acceptsₗ knownₗ (λ g. path_of g tree) pathₗ _ foundₗ refl (before_hand 8) cutₗ (opensₗ 8) runs_cut.0)
    (ap (λ (k : Circuit). record { parameters = looking; gates = dropping; words = k }) (circuit_known looking dropping planₗ acceptsₗ knownₗ (λ g. path_of g tree) pathₗ _ foundₗ refl (before_hand 9) callsₗ (opensₗ 9) ∙ runsₗ.1 ∙ sym (circuit_known looking dropping planₗ acceptsₗ knownₗ (λ g. path_of g tree) pathₗ _ foundₗ refl (before_hand 8) cutₗ (opensₗ 8) ∙ runs_cut.1)))

-- the same, with the setting and the first list's columns written out
sameₗ : SameColumns xₗ leftₗ (kept looking dropping (before_hand 8) cutₗ).store
sameₗ =
    subst (λ (y : Setting). SameColumns y leftₗ (kept looking dropping (before_hand 8) cutₗ).store) (setting_known looking dropping planₗ acceptsₗ knownₗ (λ g. path_of g tree) pathₗ _ foundₗ refl)
    (subst (λ (s : Store). SameColumns (setting_for looking dropping) s (kept looking dropping (before_hand 8) cutₗ).store)
    (ap (λ (k : Kept). k.store) (kept_known looking dropping planₗ acceptsₗ knownₗ (λ g. path_of g tree) pathₗ _ foundₗ refl (before_hand 9) callsₗ (opensₗ 9)) ∙ left_knownₗ) alikeₗ)

cut-constants : take 12 (kept looking dropping (before_hand 8) cutₗ).store.constants ≡ 1 ∷ 0 ∷ 0 ∷ 0 ∷ 5 ∷ 0 ∷ 0 ∷ 0 ∷ 21 ∷ 22 ∷ 23 ∷ 24 ∷ []
unfolding planₗ
cut-constants = sym sameₗ.constants

cut-tables : take 8 (kept looking dropping (before_hand 8) cutₗ).store.tables ≡ 30 ∷ 31 ∷ 0 ∷ 0 ∷ 2 ∷ 2 ∷ 0 ∷ 0 ∷ []
unfolding planₗ
cut-tables = sym sameₗ.tables

-- P9's two lists, over other buffers
-- by the sections' rules both finishings are accepted, and the circuits are the same
runs₉ : FinishesBy x₉ p9_calls (fresh x₉ (old 1 5 3)) × FinishesBy x₉ p9_refused (fresh x₉ (old 1 4 2)) × (circuit_by x₉ p9_calls (fresh x₉ (old 1 5 3)) ≡ circuit_by x₉ p9_refused (fresh x₉ (old 1 4 2)))
unfolding lone old constants_of path_to wanted or_number stands counts_fit read_by rows_of first_fault all_below put padded put_lines row_fault rows_number row_lines rows_written marked s_word_fault s_words_number s_words_written cell_fault cells_number room_for_cells first_seen seen_again place_cell cells_run tables_of table_fault tables_number tables_written table_lines entries sum_rows every_from complete all_used variable_fine scratch_fine finish_number write_back finish_from number taken after circuit_by
runs₉ = (inr (inr (inl (refl, refl))), inr (inr (inr (inr (inr (inl (refl, refl)))))), refl)

opens_among : open_number x₉ (old 1 4 2) ≡ 0
unfolding lone old room_to_open open_number
opens_among = refl

pub finished₉ : Finished two nop (old 1 5 3) p9_calls
finished₉ = finished two nop (lone 2 2 1) accepts₉ known₉ (λ g. path_of g (leaf 0)) path₉ _ found₉ labels₉ (old 1 5 3) p9_calls opens₉ runs₉.0

alike₉ : SameColumns (setting_for two nop) (kept two nop (old 1 5 3) p9_calls).store (kept two nop (old 1 4 2) p9_refused).store
alike₉ =
    (claim two nop (old 1 5 3) p9_calls).alike
    finished₉
    two nop (old 1 4 2) p9_refused
    (finished two nop (lone 2 2 1) accepts₉ known₉ (λ g. path_of g (leaf 0)) path₉ _ found₉ labels₉ (old 1 4 2) p9_refused opens_among runs₉.1)
    (ap (λ (k : Circuit). record { parameters = two; gates = nop; words = k }) (circuit_known two nop (lone 2 2 1) accepts₉ known₉ (λ g. path_of g (leaf 0)) path₉ _ found₉ labels₉ (old 1 5 3) p9_calls opens₉ ∙ runs₉.2 ∙ sym (circuit_known two nop (lone 2 2 1) accepts₉ known₉ (λ g. path_of g (leaf 0)) path₉ _ found₉ labels₉ (old 1 4 2) p9_refused opens_among)))

copy-room : copy_room (setting_for two nop) ≡ 4
unfolding lone
copy-room = ap copy_room (setting_known two nop (lone 2 2 1) accepts₉ known₉ (λ g. path_of g (leaf 0)) path₉ _ found₉ labels₉)

among_copies : take 4 (kept two nop (old 1 4 2) p9_refused).store.cells.copies ≡ 7 ∷ 1 ∷ (p - 1) ∷ (p - 7) ∷ []
among_copies = ap (λ (n : ℕ). take n (kept two nop (old 1 4 2) p9_refused).store.cells.copies) (sym copy-room) ∙ sym alike₉.copies ∙ ap (λ (n : ℕ). take n (kept two nop (old 1 5 3) p9_calls).store.cells.copies) copy-room ∙ ap (take 4) p9

pub accepts₂ : plan_number one only_2 ≡ 0
unfolding or_number exponent_from ranges_fit range_number flag_number parameters_number words_fit record_number records_number some_kind lookup_number kinds_number constants_number gates_number words_number plan_number constants_of plan_tree
accepts₂ = refl

pub known₂ : planned one only_2 ≡ plan₂
unfolding plan₂ or_number exponent_from ranges_fit range_number flag_number parameters_number lookup_of words_fit record_number records_number some_kind lookup_number kinds_number constants_number gates_number words_number plan_number planned constants_of degree_at plan_tree degree_over constants_over
known₂ = refl

pub stands₂ : tree_at most_levels plan₂.nodes 0 ≡ some (leaf 0)
unfolding plan₂
stands₂ = own_tree (leaf 0) (replicate node_slots 0) (omega arith) most_levels (omega arith)

path₂ : plan_path plan₂ ≡ (λ g. path_of g (leaf 0))
path₂ = path-of plan₂ (leaf 0) (known_fault one only_2 plan₂ accepts₂ known₂) stands₂

found₂ : search_number plan₂.trace plan₂.copy ≡ 0
unfolding plan₂ search_number found search_from
found₂ = refl

placed₂ : (setting_for one only_2).placed 0 ≡ true
unfolding plan₂ wanted
placed₂ = ap (λ (y : Setting). y.placed 0) (setting_known one only_2 plan₂ accepts₂ known₂ (λ g. path_of g (leaf 0)) path₂ _ found₂ refl)

worked_out₈ : columns_of x₈ circuit₈ ≡ store_of (1 ∷ 0 ∷ 5 ∷ 0 ∷ []) (1 ∷ 7 ∷ (p - 1) ∷ (p - 7) ∷ []) (1 ∷ 0 ∷ 7 ∷ 1 ∷ []) []
unfolding plan tree path_to table read_by rows_of row_lines padded names_at last_of first_of copy_at scratch_at
worked_out₈ = refl

opens_9 : open_number x₈ (lent_with 9) ≡ 0
unfolding plan lent_with room_to_open open_number
opens_9 = refl

-- by the sections' rules the finishing is accepted, and the circuit is P8's
runs_9 : FinishesBy x₈ calls₈ (fresh x₈ (lent_with 9)) × (circuit_by x₈ calls₈ (fresh x₈ (lent_with 9)) ≡ circuit₈)
unfolding plan tree lent_with exponent_from constants_of path_to wanted or_number stands counts_fit read_by rows_of first_fault all_below put padded put_lines row_fault rows_number row_lines rows_written marked s_word_fault s_words_number s_words_written cell_fault cells_number room_for_cells first_seen seen_again place_cell cells_run tables_of table_fault tables_number tables_written table_lines entries sum_rows every_from complete all_used variable_fine scratch_fine finish_number write_back finish_from number taken after circuit_by
runs_9 = (inr (inr (inr (inr (inl (refl, refl))))), refl)

laid₈ : (kept parameters gates (lent_with 9) calls₈).store ≡ store_of (1 ∷ 0 ∷ 5 ∷ 0 ∷ 9 ∷ []) (1 ∷ 7 ∷ (p - 1) ∷ (p - 7) ∷ 9 ∷ []) (1 ∷ 0 ∷ 7 ∷ 1 ∷ 9 ∷ []) (9 ∷ [])
unfolding lent_with
laid₈ =
    (claim parameters gates (lent_with 9) calls₈).one_function
    (finished parameters gates plan plan-number plan_known (λ g. path_of g tree) path_is labels₈ found₈ labels_known₈ (lent_with 9) calls₈ opens_9 runs_9.0)
    ∙ ap (λ (k : Circuit). laid_over (columns_of (setting_for parameters gates) k) (lent_with 9)) (circuit_known parameters gates plan plan-number plan_known (λ g. path_of g tree) path_is labels₈ found₈ labels_known₈ (lent_with 9) calls₈ opens_9 ∙ runs_9.1)
    ∙ ap (λ (y : Setting). laid_over (columns_of y circuit₈) (lent_with 9)) (setting_known parameters gates plan plan-number plan_known (λ g. path_of g tree) path_is labels₈ found₈ labels_known₈)
    ∙ ap (λ (s : Store). laid_over s (lent_with 9)) worked_out₈

pub others_say : SaidOfOthers
others_say =
    record {
      not_all_0 = dropped_0 ∙ nought_0;
      all_0 = dropped_1 ∙ nought_1;
      off_in_dropped = off_2;
      off_in_marker = off_1;
      s-words = (s_word 0 (omega arith), s_word 3 (omega arith));
      s-words_4 = all_words;
      there = stands_31;
      not_there = stands-none;
      zeros = (below_it 0 (omega arith), below_it 1 (omega arith));
      worked_out = worked_out₈;
      laid = laid₈;
      constants = cut-constants;
      tables = cut-tables;
      copies = among_copies;
      never_18 = (claim two nop (old 1 5 3) p9_calls).no_18;
      only_placed = placed₂;
    }
