-- 02, Change 4, in numerals: rows of a kind 2 gate beside one placed gate, an evaluated one and the lookup gate. One that is taken is in `SaidOfOthers`.
--
-- Main definition: `WorkedMarkers`. Main statement: `worked_markers`.
use Rattle.std.proofs.Common.{◌∙◌, sym, arith}
use Rattle.std.specs.Prelude.{◌≡◌, false, true, ℕ, replicate}
use Rattle.std.proofs.Math.Path.{ap, refl}
use mathlib.Core.List.{List, [], ◌∷◌}
use Rattle.base.specs.Exponent.{exponent_from}
use Rattle.base.specs.Firsts.{or_number}
use Rattle.labels.specs.Labels.{found, search_from, search_number}
use Rattle.labels.specs.Ranges.{ranges_fit}
use Rattle.selector.specs.Gates.{comes_before, constants_of, degree_at, greatest, inserted, placed_from, sorted}
use Rattle.selector.specs.MadeUp.{wanted}
use Rattle.selector.specs.Markers.{marker_ends, noughts}
use Rattle.selector.specs.NodeLaws.{own_tree}
use Rattle.selector.specs.Nodes.{most_levels, node_slots}
use Rattle.selector.specs.Paths.{path_of, path_to}
use Rattle.selector.specs.Refusals.{constants_number, gates_number, kinds_number, lookup_number, record_number, records_number, some_kind, words_fit}
use Rattle.selector.specs.Search.{constants_over, degree_over, first_bound, first_target, may_stand, plan_tree, search_tree, tree_within}
use Rattle.selector.specs.Tree.{grown, leaf, offer, offer_all}
use Rattle.parameters.specs.Parameters.{flag_number, lookup_of, parameters_number, range_number}
use Rattle.parameters.specs.declared.lookup.LookupParameters.{LookupParameters}
use Rattle.parameters.specs.declared.lookup.LookupParameters.TheVariants.{NoLookup, TableIdAsVariable}
use Rattle.parameters.specs.declared.parameters.Parameters.{Parameters}
use Rattle.tree.specs.Plan.{plan_number, plan_path, planned, words_number}
use Rattle.tree.specs.declared.plan.Plan.{Plan}
use Rattle.pieces.specs.Setting.{Setting, counts_fit, stands}
use Rattle.pieces.specs.Records.{all_below, first_fault, read_by, rows_of}
use Rattle.pieces.specs.Opening.{fresh, open_number, room_to_open}
use Rattle.pieces.specs.Rows.{row_fault, rows_number}
use Rattle.pieces.specs.Calls.{number, rows, run}
use Rattle.columns.specs.Intake.{labels_of, setting_of}
use Rattle.claim.specs.Chain.{Kept, answer}
use Rattle.claim.proofs.ChainLaws.{number-run}
use Rattle.claim.specs.Statement.{kept}
use Rattle.cases.specs.Columns.{setting_with}
use Rattle.cases.proofs.Columns.{kept_known, known_fault, path-of, setting_known}
use Rattle.cases.specs.Markers.{WorkedMarkers, beside, lent, plain, plan-of, told, with_lookups}

module _ (k d : ℕ) (ps : Parameters) (l : LookupParameters) (top : ℕ) (accepts : plan_number ps (beside k d) ≡ 0) (known : planned ps (beside k d) ≡ plan-of k d l top) where
  abbrev q : Plan
  q = plan-of k d l top

  path_is : plan_path q ≡ (λ g. path_of g (leaf 0))
  unfolding plan-of
  path_is = path-of q (leaf 0) (known_fault ps (beside k d) q accepts known) (own_tree (leaf 0) (replicate node_slots 0) (omega arith) most_levels (omega arith))

  found_all : search_number q.trace q.copy ≡ 0
  unfolding plan-of search_number found search_from
  found_all = refl

  abbrev x : Setting
  x = setting_with q (λ g. path_of g (leaf 0)) true 0 (labels_of q.trace q.copy)

  -- the number of a rows call, the first after the opening, is the section's
  answered : open_number x lent ≡ 0 → (ws : List ℕ) → (answer (rows ws) (kept ps (beside k d) lent [])).number ≡ number x (rows ws) (fresh x lent)
  unfolding run
  answered opens ws =
      ap (λ (y : Kept). (answer (rows ws) y).number) (kept_known ps (beside k d) q accepts known (λ g. path_of g (leaf 0)) path_is _ found_all refl lent [] opens)
      ∙ number-run q (rows ws) (fresh x lent)
      ∙ ap (λ (p : Plan). number (setting_of p) (rows ws) (fresh x lent)) (sym known)
      ∙ ap (λ (y : Setting). number y (rows ws) (fresh x lent)) (setting_known ps (beside k d) q accepts known (λ g. path_of g (leaf 0)) path_is _ found_all refl)

accepts₀ : plan_number plain (beside 0 1) ≡ 0
unfolding or_number exponent_from ranges_fit range_number flag_number parameters_number words_fit record_number records_number some_kind lookup_number kinds_number constants_number gates_number words_number plan_number constants_of degree_at placed_from comes_before inserted sorted greatest offer offer_all grown may_stand first_bound first_target tree_within search_tree plan_tree
accepts₀ = refl

known₀ : planned plain (beside 0 1) ≡ plan-of 0 1 NoLookup 1
unfolding plan-of or_number exponent_from ranges_fit range_number flag_number parameters_number lookup_of words_fit record_number records_number some_kind lookup_number kinds_number constants_number gates_number words_number plan_number planned constants_of degree_at placed_from comes_before inserted sorted greatest offer offer_all grown may_stand first_bound first_target tree_within search_tree plan_tree degree_over constants_over
known₀ = refl

accepts₃ : plan_number with_lookups (beside 3 0) ≡ 0
unfolding or_number exponent_from ranges_fit range_number flag_number parameters_number words_fit record_number records_number some_kind lookup_number kinds_number constants_number gates_number words_number plan_number constants_of degree_at placed_from comes_before inserted sorted greatest offer offer_all grown may_stand first_bound first_target tree_within search_tree plan_tree
accepts₃ = refl

known₃ : planned with_lookups (beside 3 0) ≡ plan-of 3 0 (TableIdAsVariable 1 false) 2
unfolding plan-of or_number exponent_from ranges_fit range_number flag_number parameters_number lookup_of words_fit record_number records_number some_kind lookup_number kinds_number constants_number gates_number words_number plan_number planned constants_of degree_at placed_from comes_before inserted sorted greatest offer offer_all grown may_stand first_bound first_target tree_within search_tree plan_tree degree_over constants_over
known₃ = refl

-- ---- the numbers, by the section's rules
opens₀ : open_number (x 0 1 plain NoLookup 1 accepts₀ known₀) lent ≡ 0
unfolding plan-of lent room_to_open open_number
opens₀ = refl

opens₃ : open_number (x 3 0 with_lookups (TableIdAsVariable 1 false) 2 accepts₃ known₃) lent ≡ 0
unfolding plan-of lent room_to_open open_number
opens₃ = refl

abbrev evaluated : List ℕ → ℕ
evaluated ws = number (x 0 1 plain NoLookup 1 accepts₀ known₀) (rows ws) (fresh (x 0 1 plain NoLookup 1 accepts₀ known₀) lent)

numbers₀ : (evaluated (0 ∷ 0 ∷ 1 ∷ 0 ∷ []) ≡ 23) × (evaluated (1 ∷ 1 ∷ 0 ∷ []) ≡ 12) × (evaluated (0 ∷ 0 ∷ 0 ∷ 0 ∷ 1 ∷ 0 ∷ []) ≡ 23) × (evaluated (0 ∷ 0 ∷ 0 ∷ 0 ∷ []) ≡ 0)
unfolding plan-of lent constants_of path_to wanted marker_ends noughts stands counts_fit read_by rows_of first_fault all_below row_fault rows_number number
numbers₀ = (refl, refl, refl, refl)

number₃ : number (x 3 0 with_lookups (TableIdAsVariable 1 false) 2 accepts₃ known₃) (rows (0 ∷ 0 ∷ 1 ∷ 0 ∷ [])) (fresh (x 3 0 with_lookups (TableIdAsVariable 1 false) 2 accepts₃ known₃) lent) ≡ 23
unfolding plan-of lent constants_of path_to wanted marker_ends noughts stands counts_fit read_by rows_of first_fault all_below row_fault rows_number number
number₃ = refl

pub worked_markers : WorkedMarkers
worked_markers =
    record {
      evaluated_23 = in₀ (0 ∷ 0 ∷ 1 ∷ 0 ∷ []) ∙ numbers₀.0;
      lookup_23 = answered 3 0 with_lookups (TableIdAsVariable 1 false) 2 accepts₃ known₃ opens₃ (0 ∷ 0 ∷ 1 ∷ 0 ∷ []) ∙ number₃;
      after_12 = in₀ (1 ∷ 1 ∷ 0 ∷ []) ∙ numbers₀.1;
      before_13 = in₀ (0 ∷ 0 ∷ 0 ∷ 0 ∷ 1 ∷ 0 ∷ []) ∙ numbers₀.2;
      placed-taken = in₀ (0 ∷ 0 ∷ 0 ∷ 0 ∷ []) ∙ numbers₀.3;
    }
  where
    in₀ : (ws : List ℕ) → told plain 0 1 ws ≡ evaluated ws
    in₀ = answered 0 1 plain NoLookup 1 accepts₀ known₀ opens₀
