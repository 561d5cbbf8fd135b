-- `put::copy_words` meets its contract: after i turns the first i words are copied.
use Rattle.std.proofs.Common.{◌≤◌, length, ◌≡◌}
use Rattle.std.proofs.Math.Seq.{paste}
use Rattle.writer.proofs.put.copy_words.Given as goal

abbrev pub invariant-loop-i : goal.invariant-loop-i
invariant-loop-i l = (l.i ≤ length l.from) × (l.to ≡ paste l.initial.to l.at l.from l.i)
