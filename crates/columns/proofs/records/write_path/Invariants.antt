-- `columns::records::write_path` meets its contract. What is left of the bits are the digits that are left to put.
use Rattle.std.proofs.Common.{◌≡◌, ◌+◌, ◌-◌, length}
use Rattle.pieces.specs.Writing.{put}
use Rattle.base.specs.Digits.{digits}
use Rattle.columns.proofs.records.write_path.Given as goal

abbrev pub invariant-loop-i : goal.invariant-loop-i
invariant-loop-i l = (length l.buffer ≡ length l.initial.buffer) × (put 1 l.initial.buffer l.at (digits l.many l.bits) ≡ put 1 l.buffer (l.at + l.i) (digits (l.many - l.i) l.rest))
