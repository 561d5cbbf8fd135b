-- `judging::table_rows` meets its contract: the tables that are left have the rest of the rows.
use Rattle.std.proofs.Common.{◌-◌, ◌≤◌, length}
use Rattle.labels.specs.Ranges.{longest_trace}
use Rattle.padding.specs.Sums.{Summing}
use Rattle.padding.proofs.judging.table_rows.Given as goal

abbrev pub invariant-loop-i : goal.invariant-loop-i
invariant-loop-i l = (l.sum ≤ longest_trace) × Summing l.tables l.sum l.i

abbrev pub decreases-loop-i : goal.decreases-loop-i
decreases-loop-i l = length l.tables - l.i
