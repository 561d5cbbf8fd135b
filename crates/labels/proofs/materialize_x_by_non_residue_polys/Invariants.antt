-- `labels::materialize_x_by_non_residue_polys` meets its contract. The invariant: the columns before `column` are filled, and column 0 stands.
use Rattle.std.proofs.Common.{◌*◌, ◌≤◌}
use Rattle.base.specs.Fills.{Filled}
use Rattle.labels.specs.Labels.{label_of}
use Rattle.labels.proofs.materialize_x_by_non_residue_polys.Given as goal

abbrev pub invariant-loop-column : goal.invariant-loop-column
invariant-loop-column l = (1 ≤ l.column) × (l.column ≤ l.c) × Filled (label_of l.n l.values) l.n (l.column * l.n) l.initial.copies l.copies
