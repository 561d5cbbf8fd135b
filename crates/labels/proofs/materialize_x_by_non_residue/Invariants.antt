-- `labels::materialize_x_by_non_residue` meets its contract. The invariant: r words from `at` on are filled; the words read stand before `at`, and are the old ones.
use Rattle.std.proofs.Common.{◌+◌, ◌≤◌}
use Rattle.base.specs.Fills.{Filled}
use Rattle.labels.specs.Stretches.{scaled_from}
use Rattle.labels.proofs.materialize_x_by_non_residue.Given as goal

abbrev pub invariant-loop-r : goal.invariant-loop-r
invariant-loop-r l = (l.r ≤ l.n) × Filled (scaled_from l.k l.at l.initial.copies) l.at (l.at + l.r) l.initial.copies l.copies
