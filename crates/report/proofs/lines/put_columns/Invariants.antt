-- `report::lines::put_columns` meets its contract. What is left to put are the lines of the columns that are left.
use Rattle.std.proofs.Common.{◌≡◌, ◌-◌, length}
use Rattle.octets.specs.Text.{sink, put}
use Rattle.report.specs.Report.{column_lines}
use Rattle.report.proofs.lines.put_columns.Given as goal

abbrev pub invariant-loop-i : goal.invariant-loop-i
invariant-loop-i l = (length l.out ≡ length l.initial.out) × (put (sink l.initial.out l.at) (column_lines l.name l.trace l.words 0 l.many) ≡ put (sink l.out l.place) (column_lines l.name l.trace l.words l.i (l.many - l.i)))
