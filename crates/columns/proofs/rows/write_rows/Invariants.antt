-- `columns::rows::write_rows` meets its contract. Each turn stages some records and writes their lines, and the rest is what is left (StageLoop).
use Rattle.std.proofs.Common.{◌-◌, length}
use Rattle.columns.proofs.StageLoop.{Writing}
use Rattle.columns.proofs.rows.write_rows.Given as goal

abbrev pub invariant-loop-i : goal.invariant-loop-i
invariant-loop-i l = Writing l.height l.trace l.count l.piece l.initial.constants l.gates.bits l.gates.steps l.constants l.stage l.row l.i

abbrev pub decreases-loop-i : goal.decreases-loop-i
decreases-loop-i l = length l.piece - l.i
