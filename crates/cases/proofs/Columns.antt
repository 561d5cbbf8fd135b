-- P6, P7, P9 and P10: from parameters and gates through planning, opening and the calls to the plan's fields and to the words in the columns.
--
-- Main definitions: `Plans`. Main statements: `p6`, `p7`, `p9`, `p9_same`, `p10`.
use Rattle.std.specs.Prelude.{◌≡◌, refl, Bool, true, List, [], ◌∷◌, ℕ, ◌-◌, eqb, replicate}
use Rattle.std.proofs.Common.{sym, ap, ◌∙◌, arith}
use Rattle.std.proofs.Math.Option.{some}
use Rattle.base.specs.Exponent.{exponent_from}
use Rattle.base.specs.Firsts.{or_number}
use Rattle.field.specs.Field.{p}
use Rattle.labels.specs.Labels.{search_number, representatives_number, found, search_from}
use Rattle.labels.specs.Ranges.{ranges_fit}
use Rattle.labels.proofs.Numerals.{worked_labels}
use Rattle.selector.specs.Gates.{constants_of, degree_at, placed_from, comes_before, inserted, sorted, greatest}
use Rattle.selector.specs.MadeUp.{wanted}
use Rattle.selector.specs.Nodes.{most_levels, node_slots, tree_at}
use Rattle.selector.specs.NodeLaws.{own_tree}
use Rattle.selector.specs.Paths.{Selector, a_path, path_to, path_of}
use Rattle.selector.specs.Refusals.{words_fit, record_number, records_number, some_kind, lookup_number, kinds_number, constants_number, gates_number}
use Rattle.selector.specs.Search.{may_stand, first_bound, first_target, tree_within, search_tree, plan_tree, degree_over, constants_over}
use Rattle.selector.specs.Tree.{Tree, leaf, offer, offer_all, grown}
use Rattle.parameters.specs.Parameters.{range_number, flag_number, parameters_number, lookup_of}
use Rattle.parameters.specs.declared.parameters.Parameters.{Parameters}
use Rattle.tree.specs.Plan.{words_number, plan_number, planned, plan_fault, plan_path, plan_selector, selector_among}
use Rattle.tree.specs.PlanLaws.{planned_fault}
use Rattle.tree.specs.SoundLaws.{path_kept, path_in}
use Rattle.tree.specs.declared.plan.Plan.{Plan}
use Rattle.pieces.specs.Setting.{Setting, Store, counts_fit, stands}
use Rattle.pieces.specs.Records.{read_by, rows_of, first_fault, all_below}
use Rattle.pieces.specs.Writing.{put, padded, put_lines}
use Rattle.pieces.specs.Opening.{room_to_open, open_number, fresh}
use Rattle.pieces.specs.Rows.{row_fault, rows_number, row_lines, rows_written, marked}
use Rattle.pieces.specs.SWords.{s_words_number}
use Rattle.pieces.specs.Cells.{cell_fault, cells_number, room_for_cells, first_seen, seen_again, place_cell, cells_run}
use Rattle.pieces.specs.Tables.{tables_number}
use Rattle.pieces.specs.Finishing.{every_from, complete, all_used, variable_fine, scratch_fine, finish_number, write_back, finish_from}
use Rattle.pieces.specs.Calls.{Call, number, taken, after, run}
use Rattle.columns.specs.Intake.{setting_of, labels_of}
use Rattle.claim.specs.Chain.{Kept}
use Rattle.claim.specs.Statement.{setting_for, Opened, kept}
use Rattle.claim.proofs.ChainLaws.{kept_for, open-number}
use Rattle.claim.proofs.Theorem.{kept_run}
use Rattle.cases.specs.Columns.{Plans, four, lone, nop, old, one, p7_rows, p9_calls, p9_refused, plan₆, selectors_of, setting_with, three, tree₆, two, x₇, x₉, CellsOfP9}

-- a plan that planning gave has no fault
pub known_fault : (ps : Parameters) (gs : List ℕ) (q : Plan) → plan_number ps gs ≡ 0 → planned ps gs ≡ q → plan_fault q ≡ 0
known_fault ps gs q accepts known = ap plan_fault (sym known) ∙ planned_fault ps gs accepts

module _ (ps : Parameters) (gs : List ℕ) (q : Plan) (accepts : plan_number ps gs ≡ 0) (known : planned ps gs ≡ q) (path : ℕ → List ℕ) (path_is : plan_path q ≡ path) (l : List ℕ) (found_All : search_number q.trace q.copy ≡ 0) (labels-are : labels_of q.trace q.copy ≡ l) where
  pub setting_known : setting_for ps gs ≡ setting_with q path true 0 l
  setting_known =
      let s : eqb (plan_fault q) 0 ≡ true = ap (λ (n : ℕ). eqb n 0) (known_fault ps gs q accepts known) in
      ap setting_of known ∙ ap (λ (w : ℕ → List ℕ). setting_with q w (eqb (plan_fault q) 0) (search_number q.trace q.copy) (labels_of q.trace q.copy)) path_is
      ∙ ap (λ (t : Bool). setting_with q path t (search_number q.trace q.copy) (labels_of q.trace q.copy)) s
      ∙ ap (λ (n : ℕ). setting_with q path true n (labels_of q.trace q.copy)) found_All
      ∙ ap (setting_with q path true 0) labels-are

  -- what a caller keeps after the calls, computed with that setting
  pub kept_known : (b : Store) (cs : List Call) → open_number (setting_with q path true 0 l) b ≡ 0
      → kept ps gs b cs ≡ kept_for q (run (setting_with q path true 0 l) cs (fresh (setting_with q path true 0 l) b))
  kept_known b cs e =
      let o : Opened ps gs b = record { planning = accepts; opening = open-number (planned ps gs) b ∙ ap (λ (x : Setting). open_number x b) setting_known ∙ e } in
      kept_run ps gs b o cs ∙ ap (λ (r : Plan). kept_for r (run (setting_for ps gs) cs (fresh (setting_for ps gs) b))) known
      ∙ ap (λ (x : Setting). kept_for q (run x cs (fresh x b))) setting_known

-- what rows take of a known plan's gates, and what is answered of them, once its tree is known
pub path-of : (q : Plan) (t : Tree) → plan_fault q ≡ 0 → tree_at most_levels q.nodes 0 ≡ some t → plan_path q ≡ (λ g. path_of g t)
path-of q t f e = path_kept q f ∙ ap path_in e

pub selector-of : (q : Plan) (t : Tree) → tree_at most_levels q.nodes 0 ≡ some t → plan_selector q ≡ selector_among q.gate_count (some t)
selector-of q t e = ap (selector_among q.gate_count) e

pub accepts₆ : plan_number four three ≡ 0
unfolding or_number exponent_from ranges_fit range_number flag_number parameters_number words_fit record_number records_number some_kind lookup_number kinds_number constants_number gates_number words_number plan_number constants_of degree_at placed_from comes_before inserted sorted greatest offer offer_all grown may_stand first_bound first_target tree_within search_tree plan_tree
accepts₆ = refl

known₆ : planned four three ≡ plan₆
unfolding plan₆ tree₆ or_number exponent_from ranges_fit range_number flag_number parameters_number lookup_of words_fit record_number records_number some_kind lookup_number kinds_number constants_number gates_number words_number plan_number planned constants_of degree_at placed_from comes_before inserted sorted greatest offer offer_all grown may_stand first_bound first_target tree_within search_tree plan_tree degree_over constants_over
known₆ = refl

stands₆ : tree_at most_levels plan₆.nodes 0 ≡ some tree₆
unfolding plan₆ tree₆
stands₆ = own_tree tree₆ (replicate node_slots 0) (omega arith) most_levels (omega arith)

path₆ : plan_path plan₆ ≡ (λ g. path_of g tree₆)
path₆ = path-of plan₆ tree₆ (known_fault four three plan₆ accepts₆ known₆) stands₆

ways₆ : selectors_of (selector_among 3 (some tree₆)) 0 3 ≡ a_path (1 ∷ []) ∷ a_path (0 ∷ 1 ∷ []) ∷ a_path (0 ∷ 0 ∷ []) ∷ []
unfolding tree₆ selectors_of path_to
ways₆ = refl

-- "P6 gates (0,2,1), (0,1,0), (1,0,0), A=1: paths 1, 01, 00; D=3, K=2, F=2."
pub p6 : Plans four three 3 2 2 (a_path (1 ∷ []) ∷ a_path (0 ∷ 1 ∷ []) ∷ a_path (0 ∷ 0 ∷ []) ∷ [])
unfolding plan₆
p6 =
    record {
      accepted = accepts₆;
      degree = ap (λ (q : Plan). q.degree) known₆;
      constants = ap (λ (q : Plan). q.constants) known₆;
      divisor = ap (λ (q : Plan). q.factor) known₆;
      ways = ap (λ (q : Plan). selectors_of (plan_selector q) 0 q.gate_count) known₆ ∙ ap (λ (w : ℕ → Selector). selectors_of w 0 3) (selector-of plan₆ tree₆ stands₆) ∙ ways₆;
    }

found₆ : search_number plan₆.trace plan₆.copy ≡ 0
unfolding plan₆ search_number found search_from
found₆ = refl

opens₇ : open_number x₇ (old 9 5 1) ≡ 0
unfolding plan₆ old room_to_open open_number
opens₇ = refl

left₇ : (run x₇ p7_rows (fresh x₇ (old 9 5 1))).store.constants ≡ 1 ∷ 0 ∷ 0 ∷ 0 ∷ 5 ∷ 1 ∷ 0 ∷ 0 ∷ 9 ∷ []
unfolding plan₆ tree₆ old constants_of path_to wanted stands counts_fit read_by rows_of first_fault all_below put padded put_lines row_fault rows_number row_lines rows_written marked number taken after run
left₇ = refl

pub p7 : (kept four three (old 9 5 1) p7_rows).store.constants ≡ 1 ∷ 0 ∷ 0 ∷ 0 ∷ 5 ∷ 1 ∷ 0 ∷ 0 ∷ 9 ∷ []
p7 = ap (λ (k : Kept). k.store.constants) (kept_known four three plan₆ accepts₆ known₆ (λ g. path_of g tree₆) path₆ (labels_of plan₆.trace plan₆.copy) found₆ refl (old 9 5 1) p7_rows opens₇) ∙ left₇

lone-stands : (n c v : ℕ) → tree_at most_levels (lone n c v).nodes 0 ≡ some (leaf 0)
unfolding lone
lone-stands n c v = own_tree (leaf 0) (replicate node_slots 0) (omega arith) most_levels (omega arith)

accepts₁₀ : plan_number one nop ≡ 0
unfolding or_number exponent_from ranges_fit range_number flag_number parameters_number words_fit record_number records_number some_kind lookup_number kinds_number constants_number gates_number words_number plan_number constants_of plan_tree
accepts₁₀ = refl

known₁₀ : planned one nop ≡ lone 1 1 0
unfolding lone or_number exponent_from ranges_fit range_number flag_number parameters_number lookup_of words_fit record_number records_number some_kind lookup_number kinds_number constants_number gates_number words_number plan_number planned constants_of degree_at plan_tree degree_over constants_over
known₁₀ = refl

ways₁₀ : selectors_of (selector_among 1 (some (leaf 0))) 0 1 ≡ a_path [] ∷ []
unfolding selectors_of path_to
ways₁₀ = refl

-- "P10 one Nop: D=0, K=0, F=1."
pub p10 : Plans one nop 0 0 1 (a_path [] ∷ [])
unfolding lone
p10 =
    record {
      accepted = accepts₁₀;
      degree = ap (λ (q : Plan). q.degree) known₁₀;
      constants = ap (λ (q : Plan). q.constants) known₁₀;
      divisor = ap (λ (q : Plan). q.factor) known₁₀;
      ways = ap (λ (q : Plan). selectors_of (plan_selector q) 0 q.gate_count) known₁₀ ∙ ap (λ (w : ℕ → Selector). selectors_of w 0 1) (selector-of (lone 1 1 0) (leaf 0) (lone-stands 1 1 0)) ∙ ways₁₀;
    }

pub accepts₉ : plan_number two nop ≡ 0
unfolding or_number exponent_from ranges_fit range_number flag_number parameters_number words_fit record_number records_number some_kind lookup_number kinds_number constants_number gates_number words_number plan_number constants_of plan_tree
accepts₉ = refl

pub known₉ : planned two nop ≡ lone 2 2 1
unfolding lone or_number exponent_from ranges_fit range_number flag_number parameters_number lookup_of words_fit record_number records_number some_kind lookup_number kinds_number constants_number gates_number words_number plan_number planned constants_of degree_at plan_tree degree_over constants_over
known₉ = refl

pub path₉ : plan_path (lone 2 2 1) ≡ (λ g. path_of g (leaf 0))
path₉ = path-of (lone 2 2 1) (leaf 0) (known_fault two nop (lone 2 2 1) accepts₉ known₉) (lone-stands 2 2 1)

pub found₉ : search_number (lone 2 2 1).trace (lone 2 2 1).copy ≡ 0
unfolding lone representatives_number ranges_fit exponent_from
found₉ = worked_labels.labels_number

pub labels₉ : labels_of (lone 2 2 1).trace (lone 2 2 1).copy ≡ 1 ∷ (p - 1) ∷ 7 ∷ (p - 7) ∷ []
unfolding lone
labels₉ = worked_labels.labels

pub opens₉ : open_number x₉ (old 1 5 3) ≡ 0
unfolding lone old room_to_open open_number
opens₉ = refl

left₉ : (run x₉ p9_calls (fresh x₉ (old 1 5 3))).store.cells.copies ≡ 7 ∷ 1 ∷ (p - 1) ∷ (p - 7) ∷ 9 ∷ []
unfolding lone old constants_of path_to wanted stands counts_fit read_by rows_of first_fault all_below put padded put_lines row_fault rows_number row_lines rows_written marked s_words_number cell_fault cells_number room_for_cells first_seen seen_again place_cell cells_run tables_number every_from complete all_used variable_fine scratch_fine finish_number write_back finish_from number taken after run
left₉ = refl

same₉ : run x₉ p9_refused (fresh x₉ (old 1 5 3)) ≡ run x₉ p9_calls (fresh x₉ (old 1 5 3))
unfolding lone old constants_of path_to wanted stands counts_fit read_by rows_of first_fault all_below put padded put_lines row_fault rows_number row_lines rows_written marked s_words_number cell_fault cells_number room_for_cells first_seen seen_again place_cell cells_run tables_number every_from complete all_used variable_fine scratch_fine finish_number write_back finish_from number taken after run
same₉ = refl

pub kept₉ : (cs : List Call) → kept two nop (old 1 5 3) cs ≡ kept_for (lone 2 2 1) (run x₉ cs (fresh x₉ (old 1 5 3)))
kept₉ cs = kept_known two nop (lone 2 2 1) accepts₉ known₉ (λ g. path_of g (leaf 0)) path₉ (1 ∷ (p - 1) ∷ 7 ∷ (p - 7) ∷ []) found₉ labels₉ (old 1 5 3) cs opens₉

-- "P9 N=2, C=2, one variable in the first three cells: 7 1, p−1 p−7."
pub p9 : CellsOfP9
p9 = ap (λ (k : Kept). k.store.cells.copies) (kept₉ p9_calls) ∙ left₉

-- "A refusal returns its number and the state given; no word is written."
pub p9_same : kept two nop (old 1 5 3) p9_refused ≡ kept two nop (old 1 5 3) p9_calls
p9_same = kept₉ p9_refused ∙ ap (kept_for (lone 2 2 1)) same₉ ∙ sym (kept₉ p9_calls)
