-- `columns::cells::place_cells` meets its contract. What is left to run from the present columns is what the whole run gives.
use Rattle.std.proofs.Common.{◌≡◌, ◌+◌, ◌≤◌, length, drop}
use Rattle.pieces.specs.Setting.{cols}
use Rattle.pieces.specs.Cells.{cells_run}
use Rattle.columns.proofs.cells.place_cells.Given as goal

abbrev pub invariant-loop-i : goal.invariant-loop-i
invariant-loop-i l = (l.i ≤ length l.piece) × (length l.copies ≡ length l.initial.copies) × (length l.scratch ≡ length l.initial.scratch)
    × (cells_run l.count l.piece (cols l.initial.copies l.initial.scratch) ≡ cells_run (l.count + l.i) (drop l.i l.piece) (cols l.copies l.scratch))
