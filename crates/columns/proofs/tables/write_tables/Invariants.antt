-- `columns::tables::write_tables` meets its contract. Each turn writes one table, which the piece has no fault with, and the rest is what is left (TableLoop).
use Rattle.std.proofs.Common.{◌-◌, length}
use Rattle.columns.proofs.TableLoop.{Stacking}
use Rattle.columns.proofs.tables.write_tables.Given as goal

abbrev pub invariant-loop-i : goal.invariant-loop-i
invariant-loop-i l = Stacking l.width l.trace l.fn.below.count l.fn.below.high l.piece l.initial.tables l.tables l.stack.count l.stack.high l.i

abbrev pub decreases-loop-i : goal.decreases-loop-i
decreases-loop-i l = length l.piece - l.i
