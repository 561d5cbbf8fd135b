-- The loop of `listing::sections::rows_section`: its rows end where those that are left end, from i on (`Going`). A row that does not fit ends past the words, and so do all (`going_gone`).
use Rattle.std.proofs.Common.{◌-◌}
use Rattle.pieces.specs.Records.{row_size}
use Rattle.listing.specs.EndLaws.{Going}
use Rattle.listing.proofs.sections.rows_section.Given as goal

abbrev pub invariant-loop-row : goal.invariant-loop-row
invariant-loop-row l = Going row_size l.words l.at (l.count - l._row) l.i
