-- 02, Change 2, in numerals: what is answered of a dropped gate, of a lone gate of kind 2, of the only placed gate of a longer list and of a gate that is not
-- listed, and the lines that the program prints of them.
--
-- Main definition: `WorkedSelectors`. Main statement: `worked_selectors`.
use Rattle.std.proofs.Common.{◌∙◌, ap, arith, eq-eqb}
use Rattle.std.specs.Prelude.{◌≡◌, refl, [], ◌∷◌, ℕ, replicate}
use Rattle.std.proofs.Math.Option.{some}
use Rattle.base.specs.Exponent.{exponent_from}
use Rattle.base.specs.Firsts.{or_number}
use Rattle.labels.specs.Ranges.{ranges_fit}
use Rattle.selector.specs.Gates.{comes_before, constants_of, degree_at, greatest, inserted, placed_from, sorted}
use Rattle.selector.specs.NodeLaws.{own_tree}
use Rattle.selector.specs.Nodes.{most_levels, node_slots, tree_at}
use Rattle.selector.specs.Paths.{Selector, a_path, no_selector, path_to}
use Rattle.selector.specs.Refusals.{constants_number, gates_number, kinds_number, lookup_number, record_number, records_number, some_kind, words_fit}
use Rattle.selector.specs.Search.{constants_over, degree_over, first_bound, first_target, may_stand, plan_tree, search_tree, tree_within}
use Rattle.selector.specs.Tree.{grown, leaf, offer, offer_all}
use Rattle.parameters.specs.Parameters.{flag_number, lookup_of, parameters_number, range_number}
use Rattle.tree.specs.Plan.{path_answer, plan_fault, plan_number, plan_selector, planned, selector_among, words_number}
use Rattle.tree.specs.PlanLaws.{planned_fault}
use Rattle.tree.specs.Selection.{selection_number, selection_of}
use Rattle.tree.specs.declared.plan.Plan.{Plan}
use Rattle.octets.specs.Text.{decimal, places}
use Rattle.report.specs.Report.{path_line}
use Rattle.cases.specs.Columns.{Plans, one, selectors_of}
use Rattle.cases.proofs.Columns.{selector-of}
use Rattle.cases.specs.Listed.{tree}
use Rattle.cases.specs.SaidOfOthers.{dropping, looking, only_2, plan₂, planₗ}
use Rattle.cases.proofs.SaidOfOthers.{accepts₂, acceptsₗ, known₂, knownₗ, stands₂, standsₗ}
use Rattle.cases.specs.Selectors.{WorkedSelectors, one_placed, plan₁, Ways₁}

-- ---- a dropped gate: (0,2,1), (1,0,0), (2,0,0)
selectorsₗ : plan_selector (planned looking dropping) ≡ selector_among 3 (some tree)
unfolding planₗ
selectorsₗ = ap plan_selector knownₗ ∙ selector-of planₗ tree standsₗ

waysₗ : selectors_of (selector_among 3 (some tree)) 0 3 ≡ a_path (1 ∷ []) ∷ a_path (0 ∷ []) ∷ no_selector ∷ []
unfolding tree selectors_of path_to
waysₗ = refl

dropped_plan : Plans looking dropping 3 2 2 (a_path (1 ∷ []) ∷ a_path (0 ∷ []) ∷ no_selector ∷ [])
unfolding planₗ
dropped_plan =
    record {
      accepted = acceptsₗ;
      degree = ap (λ (q : Plan). q.degree) knownₗ;
      constants = ap (λ (q : Plan). q.constants) knownₗ;
      divisor = ap (λ (q : Plan). q.factor) knownₗ;
      ways = ap (λ (q : Plan). selectors_of (plan_selector (planned looking dropping)) 0 q.gate_count) knownₗ ∙ ap (λ (w : ℕ → Selector). selectors_of w 0 3) selectorsₗ ∙ waysₗ;
    }

-- gate 3 is not listed
number_3 : (path_answer (planned looking dropping) 3).number ≡ 12
unfolding path_answer
number_3 =
    rw (eq-eqb (plan_fault (planned looking dropping)) 0 (planned_fault looking dropping acceptsₗ))
    (ap (λ (w : ℕ → Selector). selection_number (selection_of (w 3))) selectorsₗ)

-- ---- the only gate of a list, of kind 2
selectors₂ : plan_selector (planned one only_2) ≡ selector_among 1 (some (leaf 0))
unfolding plan₂
selectors₂ = ap plan_selector known₂ ∙ selector-of plan₂ (leaf 0) stands₂

ways₂ : selectors_of (selector_among 1 (some (leaf 0))) 0 1 ≡ a_path [] ∷ []
unfolding selectors_of path_to
ways₂ = refl

lone-plan : Plans one only_2 0 0 1 (a_path [] ∷ [])
unfolding plan₂
lone-plan =
    record {
      accepted = accepts₂;
      degree = ap (λ (q : Plan). q.degree) known₂;
      constants = ap (λ (q : Plan). q.constants) known₂;
      divisor = ap (λ (q : Plan). q.factor) known₂;
      ways = ap (λ (q : Plan). selectors_of (plan_selector (planned one only_2)) 0 q.gate_count) known₂ ∙ ap (λ (w : ℕ → Selector). selectors_of w 0 1) selectors₂ ∙ ways₂;
    }

accepts₁ : plan_number one one_placed ≡ 0
unfolding or_number exponent_from ranges_fit range_number flag_number parameters_number words_fit record_number records_number some_kind lookup_number kinds_number constants_number gates_number words_number plan_number constants_of degree_at placed_from comes_before inserted sorted greatest offer offer_all grown may_stand first_bound first_target tree_within search_tree plan_tree
accepts₁ = refl

known₁ : planned one one_placed ≡ plan₁
unfolding plan₁ or_number exponent_from ranges_fit range_number flag_number parameters_number lookup_of words_fit record_number records_number some_kind lookup_number kinds_number constants_number gates_number words_number plan_number planned constants_of degree_at placed_from comes_before inserted sorted greatest offer offer_all grown may_stand first_bound first_target tree_within search_tree plan_tree degree_over constants_over
known₁ = refl

stands₁ : tree_at most_levels plan₁.nodes 0 ≡ some (leaf 0)
unfolding plan₁
stands₁ = own_tree (leaf 0) (replicate node_slots 0) (omega arith) most_levels (omega arith)

selectors₁ : plan_selector (planned one one_placed) ≡ selector_among 2 (some (leaf 0))
unfolding plan₁
selectors₁ = ap plan_selector known₁ ∙ selector-of plan₁ (leaf 0) stands₁

ways₁ : Ways₁
unfolding selectors_of path_to
ways₁ = refl

one-placed-plan : Plans one one_placed 64 0 64 (a_path [] ∷ no_selector ∷ [])
unfolding plan₁
one-placed-plan =
    record {
      accepted = accepts₁;
      degree = ap (λ (q : Plan). q.degree) known₁;
      constants = ap (λ (q : Plan). q.constants) known₁;
      divisor = ap (λ (q : Plan). q.factor) known₁;
      ways = ap (λ (q : Plan). selectors_of (plan_selector (planned one one_placed)) 0 q.gate_count) known₁ ∙ ap (λ (w : ℕ → Selector). selectors_of w 0 2) selectors₁ ∙ ways₁;
    }

-- ---- lines
empty_line : path_line (selector_among 2 (some (leaf 0))) 0 ≡ 112 ∷ 97 ∷ 116 ∷ 104 ∷ 32 ∷ 48 ∷ 10 ∷ []
unfolding path_to decimal places
empty_line = refl

none_line : path_line (selector_among 2 (some (leaf 0))) 1 ≡ 112 ∷ 97 ∷ 116 ∷ 104 ∷ 32 ∷ 49 ∷ 32 ∷ 110 ∷ 111 ∷ 110 ∷ 101 ∷ 10 ∷ []
unfolding path_to decimal places
none_line = refl

pub worked_selectors : WorkedSelectors
worked_selectors =
    record {
      dropped = dropped_plan;
      lone = lone-plan;
      only = one-placed-plan;
      unknown = (ap (λ (w : ℕ → Selector). w 3) selectorsₗ, number_3);
      prints_empty = ap (λ (w : ℕ → Selector). path_line w 0) selectors₁ ∙ empty_line;
      prints_none = ap (λ (w : ℕ → Selector). path_line w 1) selectors₁ ∙ none_line;
    }
