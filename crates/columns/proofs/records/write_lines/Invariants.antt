-- `columns::records::write_lines` meets its contract. Each turn writes one column of the lines, after the columns before it.
use Rattle.std.proofs.Common.{◌≡◌, List, ℕ, ◌+◌, ◌*◌, ◌≤◌, length}
use Rattle.pieces.specs.Writing.{put_lines}
use Rattle.columns.specs.Lines.{cut_lines}
use Rattle.columns.proofs.records.write_lines.Given as goal

-- the columns before `column` are written, whose first place is `at`
pub record Columns (width step trace row many : ℕ) (words buffer₀ buffer : List ℕ) (at column : ℕ) : Type 0 where
  pub within : column ≤ width
  pub place : at ≡ row + column * trace
  pub long : length buffer ≡ length buffer₀
  pub lines : buffer ≡ put_lines column trace row (cut_lines width step many words) buffer₀

abbrev pub invariant-loop-column : goal.invariant-loop-column
invariant-loop-column l = Columns l.width l.step l.trace l.row l.many l.words l.initial.buffer l.buffer l.at l.column
