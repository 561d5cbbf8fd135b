-- The answers of the layer as 01 and 02 give them, each with its refusal number, 0 where there is none; and what the code's answers, which hold a refusal apart, say of them.
--
-- Main definitions: `Planned`, `PathAnswer`, `RowsAnswer`, `TableId`; `selection_told`, `rows_told`, `column_count`, `column_index`.
use Rattle.std.specs.Prelude.{ℕ, List, eqb, Option, None, Some, Result, Ok, Err}
use Rattle.base.specs.Pick.{pick}
use Rattle.refusal.specs.Refusal.{refusal_number}
use Rattle.refusal.specs.declared.Refusal.{Refusal}
use Rattle.tree.specs.Selection.{Selection}
use Rattle.tree.specs.Selection.{NoSelector, Path as APath, UnknownGate}
use Rattle.tree.specs.declared.gate_rows.GateRows.{GateRows}
use Rattle.tree.specs.declared.paths.Path.{Path}
use Rattle.tree.specs.declared.plan.Plan.{Plan}

-- a refusal number, or 0, and the plan; after a refusal a plan of zeros
pub record Planned : Type 0 where
  pub number : ℕ
  pub plan : Plan

-- a refusal number, or 0, and what is answered of a gate; a path of zeros for a made-up plan
pub record PathAnswer : Type 0 where
  pub number : ℕ
  pub selection : Selection

-- a refusal number, or 0, and the words of all gates
pub record RowsAnswer : Type 0 where
  pub number : ℕ
  pub many : ℕ
  pub bits : List ℕ
  pub steps : List ℕ
  pub barred : List ℕ
  pub own : List ℕ

-- a refusal number, or 0, and how many table-id columns there are, none or one, with its index
pub record TableId : Type 0 where
  pub number : ℕ
  pub count : ℕ
  pub index : ℕ

-- what is answered of a gate: a path, no selector, or that the gate is not known; a path of zeros where the plan is refused
abbrev pub selection_told : Result (Option Path) Refusal → Selection
selection_told (Ok None) = NoSelector
selection_told (Ok (Some p)) = APath p.bits p.length
selection_told (Err refusal) = pick (eqb (refusal_number refusal) 12) UnknownGate (APath 0 0)

-- the words of all gates, without the number
abbrev pub rows_told : RowsAnswer → GateRows
rows_told r = record { many = r.many; bits = r.bits; steps = r.steps; barred = r.barred; own = r.own }

-- how many table-id columns there are, and the index of the one
abbrev pub column_count : Option ℕ → ℕ
column_count None = 0
column_count (Some i) = 1

abbrev pub column_index : Option ℕ → ℕ
column_index None = 0
column_index (Some i) = i
