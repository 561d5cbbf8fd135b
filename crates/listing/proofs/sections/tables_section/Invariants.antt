-- The loop of `listing::sections::tables_section`: its tables end where those that are left end, from i on (`Going`). A table that does not fit ends past the words, and so do all (`going_gone`).
use Rattle.std.proofs.Common.{◌-◌}
use Rattle.pieces.specs.Records.{table_size}
use Rattle.listing.specs.EndLaws.{Going}
use Rattle.listing.proofs.sections.tables_section.Given as goal

abbrev pub invariant-loop-table : goal.invariant-loop-table
invariant-loop-table l = Going table_size l.words l.at (l.count - l._table) l.i
