-- Worked paddings, computed.
--
-- Main statements: `two_rows`, `no_filler`, `too_long`.
use Rattle.std.specs.Prelude.{List, [], ◌∷◌, ◌≡◌, refl, ℕ}
use Rattle.base.specs.Exponent.{exponent_from}
use Rattle.base.specs.Firsts.{or_number}
use Rattle.labels.specs.Labels.{found, search_from, search_number}
use Rattle.labels.specs.Ranges.{ranges_fit}
use Rattle.selector.specs.Gates.{comes_before, constants_of, degree_at, greatest, inserted, placed_from, sorted}
use Rattle.selector.specs.MadeUp.{wanted}
use Rattle.selector.specs.Refusals.{constants_number, gates_number, kinds_number, lookup_number, record_number, records_number, some_kind, words_fit}
use Rattle.selector.specs.Search.{constants_over, degree_over, first_bound, first_target, may_stand, plan_tree, search_tree, tree_within}
use Rattle.selector.specs.Tree.{grown, offer, offer_all}
use Rattle.parameters.specs.Parameters.{flag_number, lookup_of, parameters_number, range_number}
use Rattle.tree.specs.Plan.{plan_number, planned, words_number}
use Rattle.pieces.specs.Records.{all_below, first_fault, read_by, rows_of, tables_of}
use Rattle.pieces.specs.Rows.{marked, row_fault}
use Rattle.pieces.specs.Cells.{cell_fault}
use Rattle.pieces.specs.Tables.{sum_rows}
use Rattle.pieces.specs.Finishing.{all_used, every_from}
use Rattle.columns.specs.Sections.{unpadded_last, unpadded_number}
use Rattle.listing.specs.Listing.{Words}
use Rattle.listing.specs.Writing.{written}
use Rattle.writer.specs.Besides.{besides}
use Rattle.padding.specs.Padding.{filler_from, fillers, least, length_of, pad_number, padded, planning_number}

-- N = 3, one copy column, two rows
circuit : List ℕ → List ℕ → Words
circuit gates tables =
    record {
      parameters = 3 ∷ 1 ∷ 1 ∷ 0 ∷ 2 ∷ 0 ∷ 0 ∷ 0 ∷ [];
      gates = gates;
      rows = 0 ∷ 1 ∷ 5 ∷ 0 ∷ 1 ∷ 6 ∷ [];
      s_words = [];
      cells = 0 ∷ 1 ∷ 0 ∷ [];
      tables = tables;
    }

-- a gate of kind 0 and one of kind 1: four rows, the last two of the second gate, and a placeholder below the cells
two_rows : (pad_number (circuit (0 ∷ 2 ∷ 1 ∷ 1 ∷ 0 ∷ 0 ∷ []) []) ≡ 0)
    × (written (padded (circuit (0 ∷ 2 ∷ 1 ∷ 1 ∷ 0 ∷ 0 ∷ []) []))
    ≡ 8 ∷ 4 ∷ 1 ∷ 1 ∷ 0 ∷ 2 ∷ 0 ∷ 0 ∷ 0 ∷ 2 ∷ 0 ∷ 2 ∷ 1 ∷ 1 ∷ 0 ∷ 0 ∷ 4 ∷ 0 ∷ 1 ∷ 5 ∷ 0 ∷ 1 ∷ 6 ∷ 1 ∷ 0 ∷ 1 ∷ 0 ∷ 0 ∷ 4 ∷ 0 ∷ 1 ∷ 0 ∷ 9223372036854775808 ∷ 0 ∷ [])
unfolding circuit fillers besides written or_number exponent_from ranges_fit range_number flag_number parameters_number lookup_of words_fit record_number records_number some_kind lookup_number kinds_number constants_number gates_number words_number plan_number planned constants_of degree_at placed_from comes_before inserted sorted greatest offer offer_all grown may_stand first_bound first_target tree_within search_tree plan_tree degree_over constants_over rows_of tables_of read_by sum_rows pad_number planning_number least length_of filler_from search_number found search_from first_fault row_fault wanted all_below cell_fault marked all_used every_from unpadded_number unpadded_last
two_rows = (refl, refl)

-- "21 no kind 1 gate is listed", also where the length passes 65,536
no_filler : pad_number (circuit (0 ∷ 2 ∷ 1 ∷ []) (0 ∷ 65537 ∷ [])) ≡ 21
unfolding circuit or_number exponent_from ranges_fit range_number flag_number parameters_number lookup_of words_fit record_number records_number some_kind lookup_number kinds_number constants_number gates_number words_number plan_number planned constants_of degree_at placed_from comes_before inserted sorted greatest offer offer_all grown may_stand first_bound first_target tree_within search_tree plan_tree degree_over constants_over rows_of tables_of read_by sum_rows pad_number planning_number least length_of filler_from
no_filler = refl

-- "22 the length passes 65,536"
too_long : pad_number (circuit (0 ∷ 2 ∷ 1 ∷ 1 ∷ 0 ∷ 0 ∷ []) (0 ∷ 65537 ∷ [])) ≡ 22
unfolding circuit or_number exponent_from ranges_fit range_number flag_number parameters_number lookup_of words_fit record_number records_number some_kind lookup_number kinds_number constants_number gates_number words_number plan_number planned constants_of degree_at placed_from comes_before inserted sorted greatest offer offer_all grown may_stand first_bound first_target tree_within search_tree plan_tree degree_over constants_over rows_of tables_of read_by sum_rows pad_number planning_number least length_of filler_from
too_long = refl
