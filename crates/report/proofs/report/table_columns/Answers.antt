-- `report::report::table_columns` meets its contract: the width of a sound plan is small.
use Rattle.std.proofs.Common.{arith}
use Rattle.tree.specs.SoundLaws.{sound}
use Rattle.report.proofs.report.table_columns.Goals as goal

pub overflow_add-result : goal.overflow_add-result
overflow_add-result c = omega (arith, (sound c.args.plan c.requires).width, c.lookup_width.ensures)
