-- 02, Change 4, in numerals: rows of a kind 2 gate beside one placed gate, an evaluated one and the lookup gate. One that is taken is in `SaidOfOthers`.
--
-- Main definition: `WorkedMarkers`. Main statement: `worked_markers`.
use Rattle.std.specs.Prelude.{◌≡◌, ℕ, replicate}
use mathlib.Core.List.{List, [], ◌∷◌}
use Rattle.selector.specs.Nodes.{node_words}
use Rattle.selector.specs.Tree.{leaf}
use Rattle.parameters.specs.Parameters.{parameters_at}
use Rattle.parameters.specs.declared.lookup.LookupParameters.{LookupParameters}
use Rattle.parameters.specs.declared.parameters.Parameters.{Parameters}
use Rattle.tree.specs.declared.plan.Plan.{Plan}
use Rattle.pieces.specs.Setting.{Store, cols}
use Rattle.pieces.specs.Calls.{rows}
use Rattle.claim.specs.Chain.{answer}
use Rattle.claim.specs.Statement.{kept}

-- N=2, C=1 and one placed gate of the kind k and degree d beside one of kind 2
abbrev pub beside : ℕ → ℕ → List ℕ
beside k d = k ∷ d ∷ 0 ∷ 2 ∷ 0 ∷ 0 ∷ []

-- without lookups, and in mode 1 with W=1
abbrev pub plain : Parameters
plain = parameters_at (2 ∷ 1 ∷ 0 ∷ 0 ∷ 0 ∷ 0 ∷ 0 ∷ 0 ∷ [])

abbrev pub with_lookups : Parameters
with_lookups = parameters_at (2 ∷ 1 ∷ 0 ∷ 0 ∷ 0 ∷ 1 ∷ 1 ∷ 0 ∷ [])

-- its plan, of degree `top`
unfoldable pub plan-of : ℕ → ℕ → LookupParameters → ℕ → Plan
plan-of k d l top =
    record {
      trace = 2;
      copy = 1;
      allowed = 0;
      specialised = 0;
      variables = 0;
      lookup = l;
      gates = k ∷ d ∷ 0 ∷ 2 ∷ 0 ∷ 0 ∷ replicate 378 0;
      gate_count = 2;
      nodes = node_words (leaf 0);
      node_count = 1;
      degree = top;
      constants = 0;
      factor = 1;
    }

-- a word of each copy cell and four of tables, all old ones
unfoldable pub lent : Store
lent = record { constants = []; cells = cols (replicate 2 9) []; tables = replicate 4 9 }

-- a rows call after planning and opening, as a caller makes it
abbrev pub told : Parameters → ℕ → ℕ → List ℕ → ℕ
told ps k d ws = (answer (rows ws) (kept ps (beside k d) lent [])).number

pub record WorkedMarkers : Type 0 where
  -- "23 a kind 2 row in a longer list whose all-0 path is not of kind 1": the only placed gate is evaluated, and is the lookup gate
  pub evaluated_23 : told plain 0 1 (0 ∷ 0 ∷ 1 ∷ 0 ∷ []) ≡ 23
  pub lookup_23 : told with_lookups 3 0 (0 ∷ 0 ∷ 1 ∷ 0 ∷ []) ≡ 23
  -- "tested for each row after 12": with a constant; and before 13: the third row of two
  pub after_12 : told plain 0 1 (1 ∷ 1 ∷ 0 ∷ []) ≡ 12
  pub before_13 : told plain 0 1 (0 ∷ 0 ∷ 0 ∷ 0 ∷ 1 ∷ 0 ∷ []) ≡ 23
  -- rows of the placed gate alone are taken
  pub placed-taken : told plain 0 1 (0 ∷ 0 ∷ 0 ∷ 0 ∷ []) ≡ 0
