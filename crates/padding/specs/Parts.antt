-- The padded listing part after part, as it is written.
--
-- Main definitions: `Small`, `more_words`, `Fitting`, `laid`.
use Rattle.std.specs.Prelude.{◌≡◌, List, ◌∷◌, ◌++◌, ℕ, ◌+◌, ◌-◌, ◌*◌, ◌/◌, ◌≤◌, length, get_or, drop}
use Rattle.labels.specs.Ranges.{longest_trace, most_columns}
use Rattle.parameters.specs.Parameters.{parameter_words}
use Rattle.selector.specs.Gates.{gate_words}
use Rattle.pieces.specs.Cells.{placeholder}
use Rattle.listing.specs.Listing.{Words}
use Rattle.padding.specs.Padding.{given, fillers, stretched}

-- eight parameters within their ranges, and a length that covers the rows and N
pub record Small (l many : ℕ) (ps : List ℕ) : Type 0 where
  pub eight-words : length ps ≡ parameter_words
  pub rows_in : many ≤ l
  pub given_in : get_or ps 0 0 ≤ l
  pub not-long : l ≤ longest_trace
  pub copied : get_or ps 1 0 ≤ most_columns
  pub special : get_or ps 3 0 ≤ most_columns

-- how many words the padded listing has more than the given one
abbrev pub more_words : ℕ → ℕ → List ℕ → ℕ
more_words l many ps = 2 * (l - many) + get_or ps 3 0 * (l - get_or ps 0 0) + get_or ps 1 0 * (l - get_or ps 0 0)

-- the sections, each after its count; `last` is the number of tables
abbrev pub laid : ℕ → ℕ → ℕ → ℕ → Words → List ℕ
laid l g many last w =
    (((((parameter_words ∷ (l ∷ drop 1 w.parameters))
    ++ (length w.gates / gate_words ∷ w.gates))
    ++ (l ∷ (w.rows ++ fillers (l - many) g)))
    ++ (get_or w.parameters 3 0 * l ∷ stretched 0 (given w) l (get_or w.parameters 3 0) w.s_words))
    ++ (get_or w.parameters 1 0 * l ∷ stretched placeholder (given w) l (get_or w.parameters 1 0) w.cells))
    ++ (last ∷ w.tables)

-- a circuit whose columns have N words, and room for it
pub record Fitting (l many : ℕ) (w : Words) (out : List ℕ) : Type 0 where
  pub small : Small l many w.parameters
  pub s-words_are : length w.s_words ≡ get_or w.parameters 3 0 * given w
  pub cells_are : length w.cells ≡ get_or w.parameters 1 0 * given w
  pub room : 6 + parameter_words + length w.gates + length w.rows + 2 * (l - many) + get_or w.parameters 3 0 * l + get_or w.parameters 1 0 * l + length w.tables ≤ length out
