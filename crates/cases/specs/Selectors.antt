-- 02, Change 2, in numerals: what is answered of a dropped gate, of a lone gate of kind 2, of the only placed gate of a longer list and of a gate that is not
-- listed, and the lines that the program prints of them.
--
-- Main definition: `WorkedSelectors`. Main statement: `worked_selectors`.
use Rattle.std.specs.Prelude.{◌≡◌, List, [], ◌∷◌, ℕ, replicate}
use Rattle.selector.specs.Nodes.{node_words}
use Rattle.selector.specs.Paths.{a_path, no_selector, unknown_gate}
use Rattle.selector.specs.Tree.{leaf}
use Rattle.parameters.specs.declared.lookup.LookupParameters.TheVariants.{NoLookup}
use Rattle.tree.specs.Plan.{path_answer, plan_selector, planned, selector_among}
use Rattle.tree.specs.declared.plan.Plan.{Plan}
use Rattle.report.specs.Report.{path_line}
use Rattle.cases.specs.Columns.{Plans, one, selectors_of}
use Rattle.cases.specs.SaidOfOthers.{dropping, looking, only_2}
use Rattle.std.proofs.Math.Option.{some}

-- ---- the only placed gate of a longer list: (0,64,0), (2,0,0)
abbrev pub one_placed : List ℕ
one_placed = 0 ∷ 64 ∷ 0 ∷ 2 ∷ 0 ∷ 0 ∷ []

unfoldable pub plan₁ : Plan
plan₁ =
    record {
      trace = 1;
      copy = 1;
      allowed = 0;
      specialised = 0;
      variables = 0;
      lookup = NoLookup;
      gates = 0 ∷ 64 ∷ 0 ∷ 2 ∷ 0 ∷ 0 ∷ replicate 378 0;
      gate_count = 2;
      nodes = node_words (leaf 0);
      node_count = 1;
      degree = 64;
      constants = 0;
      factor = 64;
    }

pub record WorkedSelectors : Type 0 where
  -- (0,2,1), (1,0,0), (2,0,0): the gate of kind 2 has no selector
  pub dropped : Plans looking dropping 3 2 2 (a_path (1 ∷ []) ∷ a_path (0 ∷ []) ∷ no_selector ∷ [])
  -- (2,0,0): "A lone gate still has an empty path."
  pub lone : Plans one only_2 0 0 1 (a_path [] ∷ [])
  -- (0,64,0), (2,0,0): and so has the only placed gate of a longer list
  pub only : Plans one one_placed 64 0 64 (a_path [] ∷ no_selector ∷ [])
  -- "or unknown gate, still 12": gate 3 of three
  pub unknown : (plan_selector (planned looking dropping) 3 ≡ unknown_gate) × ((path_answer (planned looking dropping) 3).number ≡ 12)
  -- "an empty path .. ends its line after the field before it": path 0
  pub prints_empty : path_line (plan_selector (planned one one_placed)) 0 ≡ 112 ∷ 97 ∷ 116 ∷ 104 ∷ 32 ∷ 48 ∷ 10 ∷ []
  -- "the listing prints `path 1 none`"
  pub prints_none : path_line (plan_selector (planned one one_placed)) 1 ≡ 112 ∷ 97 ∷ 116 ∷ 104 ∷ 32 ∷ 49 ∷ 32 ∷ 110 ∷ 111 ∷ 110 ∷ 101 ∷ 10 ∷ []

-- what `ways₁` of proofs/ says
abbrev pub Ways₁ : Type 0
Ways₁ = selectors_of (selector_among 2 (some (leaf 0))) 0 2 ≡ a_path [] ∷ no_selector ∷ []
