-- `report::report::columns_there` meets its contract: a sound plan's numbers are small, so their products fit a word.
use Rattle.std.proofs.Common.{arith, ℕ, ◌+◌, ◌*◌, ◌≤◌, mul-le-mul}
use Rattle.columns.specs.Intake.{setting_of}
use Rattle.report.specs.Report.{table_columns}
use Rattle.report.specs.ReportLaws.{few_tables}
use Rattle.tree.specs.SoundLaws.{sound}
use Rattle.report.proofs.report.columns_there.Goals as goal

small : (a n b : ℕ) → a ≤ b → n ≤ 65536 → a * n ≤ b * 65536
small a n b h k = mul-le-mul h k

pub overflow_add-plan : goal.overflow_add-plan
overflow_add-plan c = let w = sound c.args.plan c.requires in omega (arith, w.height, w.special)

pub overflow_mul-plan : goal.overflow_mul-plan
overflow_mul-plan c = let q = c.args.plan in let w = sound c.args.plan c.requires in omega (arith, small (q.constants + q.specialised) q.trace 63 (omega (arith, w.height, w.special)) w.ranges.long)

pub overflow_mul-plan-then-plan-constants : goal.overflow_mul-plan-then-plan-constants
overflow_mul-plan-then-plan-constants c = let q = c.args.plan in let w = sound c.args.plan c.requires in omega (arith, small q.copy q.trace 64 w.ranges.columns w.ranges.long)

pub overflow_mul-result : goal.overflow_mul-result
overflow_mul-result c = let q = c.args.plan in let w = sound c.args.plan c.requires in rw c.table_columns.ensures (omega (arith, small (table_columns (setting_of q)) q.trace 17 (few_tables (setting_of q) w.width) w.ranges.long))
