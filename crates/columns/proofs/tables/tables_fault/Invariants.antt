-- `columns::tables::tables_fault` meets its contract. The records that are left have the fault of the whole piece, as long as none was found.
use Rattle.std.proofs.Common.{◌-◌, ◌≤◌, length}
use Rattle.pieces.specs.Records.{table_size}
use Rattle.pieces.specs.Tables.{stack_next, table_fault}
use Rattle.pieces.specs.RecordLaws.{Looking}
use Rattle.columns.specs.Stacked.{stack}
use Rattle.columns.proofs.tables.tables_fault.Given as goal

abbrev pub invariant-loop-i : goal.invariant-loop-i
invariant-loop-i l = (l.stack.count ≤ 255) × (l.stack.high ≤ l.trace) × Looking table_size (table_fault l.lookup l.width l.trace) stack_next l.piece (stack l.fn.below.count l.fn.below.high) (stack l.stack.count l.stack.high) l.i

abbrev pub decreases-loop-i : goal.decreases-loop-i
decreases-loop-i l = length l.piece - l.i
