-- `columns::records::write_same` meets its contract. What is left to put from the present buffer is what the whole put gives.
use Rattle.std.proofs.Common.{◌≡◌, ◌+◌, length, drop, replicate}
use Rattle.pieces.specs.Writing.{put}
use Rattle.columns.proofs.records.write_same.Given as goal

abbrev pub invariant-loop-i : goal.invariant-loop-i
invariant-loop-i l = (length l.buffer ≡ length l.initial.buffer) × (put 1 l.initial.buffer l.at (replicate l.many l.word) ≡ put 1 l.buffer (l.at + l.i) (drop l.i (replicate l.many l.word)))
