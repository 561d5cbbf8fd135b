-- `columns::row_tests::test_rows` meets its contract: as long as no fault was found, the records that are left decide what the whole piece decides (RowLoop).
use Rattle.std.proofs.Common.{◌-◌, length}
use Rattle.columns.specs.Placed.{gates_by}
use Rattle.columns.proofs.RowLoop.{Passed}
use Rattle.columns.proofs.row_tests.test_rows.Given as goal

abbrev pub invariant-loop-i : goal.invariant-loop-i
invariant-loop-i l = Passed (gates_by l.many l.own l.barred) l.trace l.piece l.initial.used l.count l.used l.row l.i

abbrev pub decreases-loop-i : goal.decreases-loop-i
decreases-loop-i l = length l.piece - l.i
