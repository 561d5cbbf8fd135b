-- `columns::records::write_column` meets its contract. What is left to put from the present buffer is what the whole put gives.
use Rattle.std.proofs.Common.{◌≡◌, ◌+◌, ◌-◌, length, drop}
use Rattle.pieces.specs.Writing.{put}
use Rattle.columns.specs.Lines.{strided}
use Rattle.columns.proofs.Strides.{Stride}
use Rattle.columns.proofs.records.write_column.Given as goal

abbrev pub invariant-loop-i : goal.invariant-loop-i
invariant-loop-i l = Stride l.many l.step (length l.words) l.i l.place × (length l.buffer ≡ length l.initial.buffer)
    × (put 1 l.initial.buffer l.at (strided l.step l.many (drop l.from l.words)) ≡ put 1 l.buffer (l.at + l.i) (strided l.step (l.many - l.i) (drop l.place l.words)))
