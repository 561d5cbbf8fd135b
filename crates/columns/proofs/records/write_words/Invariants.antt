-- `columns::records::write_words` meets its contract. What is left to put from the present buffer is what the whole put gives.
use Rattle.std.proofs.Common.{◌≡◌, ◌+◌, ◌≤◌, length, drop}
use Rattle.pieces.specs.Writing.{put}
use Rattle.columns.proofs.records.write_words.Given as goal

abbrev pub invariant-loop-i : goal.invariant-loop-i
invariant-loop-i l = (l.i ≤ length l.words) × (length l.buffer ≡ length l.initial.buffer) × (put 1 l.initial.buffer l.at l.words ≡ put 1 l.buffer (l.at + l.i) (drop l.i l.words))
