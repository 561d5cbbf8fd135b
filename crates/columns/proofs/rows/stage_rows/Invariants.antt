-- `columns::rows::stage_rows` meets its contract. Each turn stages one record, and the rest is what is left (StageLoop).
use Rattle.std.proofs.Common.{◌-◌}
use Rattle.columns.proofs.StageLoop.{Staging}
use Rattle.columns.proofs.rows.stage_rows.Given as goal

abbrev pub invariant-loop-rows : goal.invariant-loop-rows
invariant-loop-rows l = Staging l.height l.bits l.steps l.piece l.stage l.rows l.i

abbrev pub decreases-loop-rows : goal.decreases-loop-rows
decreases-loop-rows l = 32 - l.rows
