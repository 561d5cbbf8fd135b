-- What the claim says of a circuit with S words, tables and a dropped gate, of P9, and of a lone gate of kind 2, in numerals: S words, entries, zeros below,
-- products in a dropped gate's row, all columns as one function, lists that are alike, 'no 18'. Each is drawn from `claim`, so that a part that says nothing, or
-- the contrary, is refused here.
--
-- Main definition: `SaidOfOthers`. Main statement: `others_say`.
use Rattle.std.specs.Prelude.{◌≡◌, ◌≢◌, true, false, List, [], ◌∷◌, ℕ, ◌+◌, ◌-◌, ◌*◌, length, get_or, take, replicate}
use Rattle.field.specs.Field.{p}
use Rattle.selector.specs.Nodes.{node_words}
use Rattle.selector.specs.Tree.{leaf}
use Rattle.parameters.specs.Parameters.{parameters_at}
use Rattle.parameters.specs.declared.lookup.LookupParameters.TheVariants.{NoLookup, UseSpecializedColumnsWithTableIdAsVariable}
use Rattle.selector.specs.Paths.{path_of}
use Rattle.parameters.specs.declared.parameters.Parameters.{Parameters}
use Rattle.tree.specs.declared.plan.Plan.{Plan}
use Rattle.pieces.specs.Setting.{Setting, Store, cols}
use Rattle.pieces.specs.Opening.{fresh}
use Rattle.pieces.specs.Cells.{placeholder}
use Rattle.pieces.specs.Calls.{Call, rows, s_words, cell_words, table_words, finishing, run}
use Rattle.pieces.specs.Whole.{Circuit, columns_of}
use Rattle.columns.specs.Intake.{labels_of, store_of}
use Rattle.claim.specs.Chain.{answer}
use Rattle.claim.specs.Statement.{product, Stands, setting_for, kept}
use Rattle.cases.specs.Columns.{setting_with, old, one, nop, two, p9_calls, p9_refused}
use Rattle.cases.specs.Listed.{parameters, gates, tree}
use Rattle.cases.specs.SaidOfListing.{circuit₈, x₈, calls₈}

-- ---- a circuit with S words, tables and rows of a dropped gate: N=4, C=1, A=1, S=1, V=1, mode 3, W=1; gates (0,2,1), (1,0,0), (2,0,0)
abbrev pub looking : Parameters
looking = parameters_at (4 ∷ 1 ∷ 1 ∷ 1 ∷ 1 ∷ 3 ∷ 1 ∷ 0 ∷ [])

abbrev pub dropping : List ℕ
dropping = 0 ∷ 2 ∷ 1 ∷ 1 ∷ 0 ∷ 0 ∷ 2 ∷ 0 ∷ 0 ∷ []

unfoldable pub planₗ : Plan
planₗ =
    record {
      trace = 4;
      copy = 1;
      allowed = 1;
      specialised = 1;
      variables = 1;
      lookup = UseSpecializedColumnsWithTableIdAsVariable 1 false;
      gates = 0 ∷ 2 ∷ 1 ∷ 1 ∷ 0 ∷ 0 ∷ 2 ∷ 0 ∷ 0 ∷ replicate 375 0;
      gate_count = 3;
      nodes = node_words tree;
      node_count = 3;
      degree = 3;
      constants = 2;
      factor = 2;
    }

-- rows 0 (constant 5), 1, 2, 2; an empty table, then one with the rows 30 and 31
abbrev pub rowsₗ : List ℕ
rowsₗ = 0 ∷ 1 ∷ 5 ∷ 1 ∷ 0 ∷ 2 ∷ 0 ∷ 2 ∷ 0 ∷ []

abbrev pub tablesₗ : List ℕ
tablesₗ = 1 ∷ 0 ∷ 1 ∷ 2 ∷ 30 ∷ 31 ∷ []

abbrev pub circuitₗ : Circuit
circuitₗ = record { row_words = rowsₗ; s_words_given = 21 ∷ 22 ∷ 23 ∷ 24 ∷ []; cells_given = placeholder ∷ placeholder ∷ placeholder ∷ placeholder ∷ []; tables_given = tablesₗ }

abbrev pub callsₗ : List Call
callsₗ = rows rowsₗ ∷ s_words (21 ∷ 22 ∷ 23 ∷ 24 ∷ []) ∷ cell_words (placeholder ∷ placeholder ∷ placeholder ∷ placeholder ∷ []) ∷ table_words tablesₗ ∷ finishing ∷ []

-- the same circuit cut in another way, in another order, with refused calls among the calls
abbrev pub cutₗ : List Call
cutₗ =
    table_words (1 ∷ 0 ∷ []) ∷ rows (0 ∷ 1 ∷ 5 ∷ []) ∷ rows (3 ∷ 0 ∷ []) ∷ s_words (21 ∷ 22 ∷ 23 ∷ []) ∷ cell_words (placeholder ∷ 1 ∷ []) ∷ cell_words (placeholder ∷ placeholder ∷ placeholder ∷ []) ∷ finishing
    ∷ rows (1 ∷ 0 ∷ 2 ∷ 0 ∷ 2 ∷ 0 ∷ []) ∷ table_words (1 ∷ 2 ∷ 30 ∷ 31 ∷ []) ∷ cell_words (placeholder ∷ []) ∷ s_words (24 ∷ []) ∷ finishing ∷ rows [] ∷ []

-- buffers of old words w, each with one more than is named
unfoldable pub before_hand : ℕ → Store
before_hand w = record { constants = replicate 13 w; cells = cols (replicate 5 w) (replicate 3 w); tables = replicate 9 w }

abbrev pub xₗ : Setting
xₗ = setting_with planₗ (λ g. path_of g tree) true 0 (labels_of planₗ.trace planₗ.copy)

abbrev pub constantsₗ : List ℕ
constantsₗ = 1 ∷ 0 ∷ 0 ∷ 0 ∷ 5 ∷ 0 ∷ 0 ∷ 0 ∷ 21 ∷ 22 ∷ 23 ∷ 24 ∷ 9 ∷ []

abbrev pub columnsₗ : List ℕ
columnsₗ = 30 ∷ 31 ∷ 0 ∷ 0 ∷ 2 ∷ 2 ∷ 0 ∷ 0 ∷ 9 ∷ []

abbrev pub leftₗ : Store
leftₗ = record { constants = constantsₗ; cells = (run xₗ callsₗ (fresh xₗ (before_hand 9))).store.cells; tables = columnsₗ }

-- the word in a row and column of the constants, and of the tables
abbrev pub wordₗ : ℕ → ℕ → ℕ
wordₗ r c = get_or constantsₗ (c * 4 + r) 0

-- ---- the only gate of a list, of kind 2
abbrev pub only_2 : List ℕ
only_2 = 2 ∷ 0 ∷ 0 ∷ []

unfoldable pub plan₂ : Plan
plan₂ =
    record {
      trace = 1;
      copy = 1;
      allowed = 0;
      specialised = 0;
      variables = 0;
      lookup = NoLookup;
      gates = 2 ∷ 0 ∷ 0 ∷ replicate 381 0;
      gate_count = 1;
      nodes = node_words (leaf 0);
      node_count = 1;
      degree = 0;
      constants = 0;
      factor = 1;
    }

-- ---- P8's columns as one function of its circuit
unfoldable pub lent_with : ℕ → Store
lent_with w = store_of (replicate 5 w) (replicate 5 w) (replicate 5 w) (replicate 1 w)

-- ---- what the claim says of these circuits
pub record SaidOfOthers : Type 0 where
  -- "In a kind 2 row of a longer list the product is 1 for the all-0 path only": row 2 names gate 2
  pub not_all_0 : product (1 ∷ []) (wordₗ 2) 0 ≡ 0
  pub all_0 : product (0 ∷ []) (wordₗ 2) 0 ≡ 1
  -- 02, Change 4: "in every row no evaluated gate is on but the row's own": gate 0 in the rows of gates 2 and 1
  pub off_in_dropped : product (1 ∷ []) (wordₗ 2) 0 ≡ 0
  pub off_in_marker : product (1 ∷ []) (wordₗ 1) 0 ≡ 0
  -- "the S columns follow"
  pub s-words : (get_or constantsₗ 8 0 ≡ 21) × (get_or constantsₗ 11 0 ≡ 24)
  pub s-words_4 : length {A = ℕ} (21 ∷ 22 ∷ 23 ∷ 24 ∷ []) ≡ 4
  -- "An entry with a nonzero table number stands in the table columns exactly when the table of that number has it.": table 2 has 31, table 1 is empty
  pub there : Stands xₗ columnsₗ (31 ∷ []) 2
  pub not_there : Stands xₗ columnsₗ (31 ∷ []) 1 → ⊥
  -- "tables stacked, zeros below": row 2 of both table columns
  pub zeros : (get_or columnsₗ 2 0 ≡ 0) × (get_or columnsₗ 6 0 ≡ 0)
  -- all columns as one function of the circuit, laid over what the buffers held: P8's, in numerals
  pub worked_out : columns_of x₈ circuit₈ ≡ store_of (1 ∷ 0 ∷ 5 ∷ 0 ∷ []) (1 ∷ 7 ∷ (p - 1) ∷ (p - 7) ∷ []) (1 ∷ 0 ∷ 7 ∷ 1 ∷ []) []
  pub laid : (kept parameters gates (lent_with 9) calls₈).store ≡ store_of (1 ∷ 0 ∷ 5 ∷ 0 ∷ 9 ∷ []) (1 ∷ 7 ∷ (p - 1) ∷ (p - 7) ∷ 9 ∷ []) (1 ∷ 0 ∷ 7 ∷ 1 ∷ 9 ∷ []) (9 ∷ [])
  -- "Any two such lists .. leave the same words in all constant, copy and table columns.": the columns of the list cut in another way, over other buffers
  pub constants : take 12 (kept looking dropping (before_hand 8) cutₗ).store.constants ≡ 1 ∷ 0 ∷ 0 ∷ 0 ∷ 5 ∷ 0 ∷ 0 ∷ 0 ∷ 21 ∷ 22 ∷ 23 ∷ 24 ∷ []
  pub tables : take 8 (kept looking dropping (before_hand 8) cutₗ).store.tables ≡ 30 ∷ 31 ∷ 0 ∷ 0 ∷ 2 ∷ 2 ∷ 0 ∷ 0 ∷ []
  pub copies : take 4 (kept two nop (old 1 4 2) p9_refused).store.cells.copies ≡ 7 ∷ 1 ∷ (p - 1) ∷ (p - 7) ∷ []
  -- no finishing is refused with 18: 19 here, after the accepted one
  pub never_18 : (answer finishing (kept two nop (old 1 5 3) p9_calls)).number ≢ 18
  -- "A gate list's only gate counts as placed."
  pub only_placed : (setting_for one only_2).placed 0 ≡ true

-- what `stands_31` of proofs/ says
abbrev pub Stands31 : Type 0
Stands31 = Stands xₗ columnsₗ (31 ∷ []) 2
