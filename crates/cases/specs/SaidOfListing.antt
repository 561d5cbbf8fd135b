-- What the claim says of P8, in numerals: one fact for each part of the permutation and of the rows. Each is drawn from `claim`, so that a part that says nothing, or
-- the contrary, is refused here.
--
-- Main definition: `SaidOfP8`. Main statement: `p8_says`.
use Rattle.std.specs.Prelude.{◌≡◌, ◌⊎◌, true, List, [], ◌∷◌, ℕ, ◌+◌, ◌-◌, ◌*◌, length, get_or, replicate}
use Rattle.field.specs.Field.{p}
use Rattle.selector.specs.Paths.{path_of}
use Rattle.pieces.specs.Setting.{Setting}
use Rattle.pieces.specs.Records.{rows_of}
use Rattle.pieces.specs.Calls.{Call, rows, s_words, cell_words, table_words, finishing}
use Rattle.pieces.specs.Whole.{Circuit}
use Rattle.claim.specs.Statement.{Keeps, Leads, Reaches, product, RowOf}
use Rattle.cases.specs.Columns.{setting_with}
use Rattle.cases.specs.Listed.{plan, tree}

-- ---- P8, "0 1 1 9223372036854775808" in its cells: cells 1 and 2 name one variable, cell 0 another, cell 3 is a placeholder's
abbrev pub words₈ : List ℕ
words₈ = 0 ∷ 1 ∷ 1 ∷ 9223372036854775808 ∷ []

abbrev pub labels₈ : List ℕ
labels₈ = 1 ∷ (p - 1) ∷ 7 ∷ (p - 7) ∷ []

abbrev pub copies₈ : List ℕ
copies₈ = 1 ∷ 7 ∷ (p - 1) ∷ (p - 7) ∷ replicate 8188 0

abbrev pub rows₈ : List ℕ
rows₈ = 0 ∷ 1 ∷ 5 ∷ 1 ∷ 0 ∷ []

abbrev pub circuit₈ : Circuit
circuit₈ = record { row_words = rows₈; s_words_given = []; cells_given = words₈; tables_given = [] }

abbrev pub x₈ : Setting
x₈ = setting_with plan (λ g. path_of g tree) true 0 labels₈

abbrev pub calls₈ : List Call
calls₈ = rows rows₈ ∷ s_words [] ∷ cell_words words₈ ∷ table_words [] ∷ finishing ∷ []

-- which cells name which variable
abbrev pub Named₈ : ℕ → ℕ → Type 0
Named₈ i v = ((i ≡ 0) × (v ≡ 0)) ⊎ (((i ≡ 1) × (v ≡ 1)) ⊎ ((i ≡ 2) × (v ≡ 1)))

abbrev pub filled₈ : ℕ → ℕ
filled₈ i = get_or (10 ∷ 20 ∷ 20 ∷ 30 ∷ []) i 0

-- the word in a row and column of P8's constants
abbrev pub word₈ : ℕ → ℕ → ℕ
word₈ r c = get_or (1 ∷ 0 ∷ 5 ∷ 0 ∷ replicate 8188 0) (c * 2 + r) 0

-- what the claim says of P8's columns
pub record SaidOfP8 : Type 0 where
  -- "A filling keeps the copy columns exactly when cells that name the same variable have the same value.": it must have one value in cells 1 and 2;
  -- that one with the values 10, 20, 20, 30 does keep them
  pub shares : (f : ℕ → ℕ) → Keeps 4 labels₈ copies₈ f → f 1 ≡ f 2
  pub filled : Keeps 4 labels₈ copies₈ filled₈
  -- cell 1 leads to cell 2 and to no other; cell 2 to cell 1, and no other cell to it
  pub to_2 : (j : ℕ) → Leads 4 labels₈ copies₈ 1 j → j ≡ 2
  pub leads_on : (j : ℕ) × Leads 4 labels₈ copies₈ 1 j × (j ≡ 2)
  pub from_2 : (i : ℕ) → Leads 4 labels₈ copies₈ i 1 → i ≡ 2
  pub led_to : (i : ℕ) × Leads 4 labels₈ copies₈ i 1 × (i ≡ 2)
  -- cells 1 and 2 are in one cycle, 0 and 1 are not
  pub one_cycle : Reaches 4 labels₈ copies₈ 1 2
  pub two_cycles : Reaches 4 labels₈ copies₈ 0 1 → ⊥
  -- "So a cell holds the label of the occurrence before it, the first that of the last."; cell 3 has its own
  pub before-it : get_or copies₈ 2 0 ≡ get_or labels₈ 1 0
  pub the_last : get_or copies₈ 1 0 ≡ get_or labels₈ 2 0
  pub its_own : get_or copies₈ 3 0 ≡ get_or labels₈ 3 0
  -- two rows, four cells
  pub rows_2 : length (rows_of rows₈) ≡ 2
  pub cells_4 : length words₈ ≡ 4
  -- row 0 names gate 0, and holds its path 1 and its constant 5
  pub gate_0 : (g : ℕ) × RowOf rows₈ 0 g × (g ≡ 0)
  pub path_digit : word₈ 0 0 ≡ 1
  pub constant_5 : word₈ 0 1 ≡ 5
  -- "In the row of a placed gate, that gate's path product is 1 and every other placed gate's is 0."
  pub own_0 : product (1 ∷ []) (word₈ 0) 0 ≡ 1
  pub other_0 : product (0 ∷ []) (word₈ 0) 0 ≡ 0
  pub own_1 : product (0 ∷ []) (word₈ 1) 0 ≡ 1
  pub other_1 : product (1 ∷ []) (word₈ 1) 0 ≡ 0

-- what `others_0` of proofs/ says
abbrev pub OthersOff : Type 0
OthersOff = product (0 ∷ []) (word₈ 0) 0 ≡ 0
