-- What the rows of a call need of the gates: path and number of constants of each, as lists by the gate's place.
--
-- Main definitions: `gates_by`, `told_by`, `Spells`, `Fits`, `Stageable`, `Stages`.
use Rattle.std.specs.Prelude.{◌≡◌, List, ◌++◌, map, ℕ, ◌+◌, ◌≤◌, ◌<◌, length, get_or, drop, eqb}
use Rattle.base.specs.Limits.{most_gates}
use Rattle.pieces.specs.Records.{Read, rows_of}
use Rattle.pieces.specs.Rows.{Gates, rows_fault, row_lines}
use Rattle.pieces.specs.Writing.{padded}
use Rattle.base.specs.Digits.{Spelled}
use Rattle.tree.specs.declared.gate_rows.GateRows.{GateRows}
use Rattle.columns.specs.Lines.{cut_lines}

-- so many gates, with the number of constants of each and a 1 for each whose rows are turned away
abbrev pub gates_by : ℕ → List ℕ → List ℕ → Gates
gates_by many own barred = record { many = many; own = λ g. get_or own g 0; bar = λ g. eqb (get_or barred g 0) 1 }

-- the same, as a plan answers for its gates
abbrev pub told_by : GateRows → Gates
told_by r = gates_by r.many r.own r.barred

-- the words `bits` and `steps` spell the paths of `many` gates
pub record Spells (many : ℕ) (path : ℕ → List ℕ) (bits steps : List ℕ) : Type 0 where
  pub spells : (g : ℕ) → g < many → Spelled (path g) (get_or bits g 0) (get_or steps g 0)

-- each path leaves room for its gate's constants below `height`
pub record Fits (gs : Gates) (height : ℕ) (steps : List ℕ) : Type 0 where
  pub fits : (g : ℕ) → g < gs.many → get_or steps g 0 + gs.own g ≤ height

-- rows that some gates have no fault with, whose paths leave room for their constants
pub record Stageable (height : ℕ) (steps piece : List ℕ) : Type 0 where
  pub gates : Gates
  pub trace : ℕ
  pub count : ℕ
  pub few : gates.many ≤ most_gates
  pub room : Fits gates height steps
  pub no_fault : rows_fault gates trace count (rows_of piece) ≡ 0

-- the first records of a piece, `next` words in all, are the first `rows` lines of the stage, 64 words apart
pub record Stages (height : ℕ) (bits steps piece stage : List ℕ) (next rows : ℕ) : Type 0 where
  pub within : next ≤ length piece
  pub few : rows ≤ 32
  pub some : 0 < length piece → (0 < next) × (0 < rows)
  pub read : List Read
  pub split : rows_of piece ≡ read ++ rows_of (drop next piece)
  pub rows_are : length read ≡ rows
  pub long : length stage ≡ 2048
  pub lines : (gs : Gates) (trace count : ℕ) (path : ℕ → List ℕ) → rows_fault gs trace count (rows_of piece) ≡ 0 → Spells gs.many path bits steps
      → cut_lines height 64 rows stage ≡ map (padded height) (row_lines path read)
