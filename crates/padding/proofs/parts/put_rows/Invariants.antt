-- `parts::put_rows` meets its contract: after i turns i records are written.
use Rattle.std.proofs.Common.{◌≡◌, ◌≤◌}
use Rattle.writer.specs.Put.{put}
use Rattle.padding.specs.Padding.{fillers}
use Rattle.padding.proofs.parts.put_rows.Given as goal

abbrev pub invariant-loop-i : goal.invariant-loop-i
invariant-loop-i l = (l.i ≤ l.many) × (l.out ≡ put l.at (fillers l.i l.gate) l.initial.out)
