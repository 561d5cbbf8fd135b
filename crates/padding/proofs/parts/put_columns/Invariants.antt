-- `parts::put_columns` meets its contract: after c turns c columns are written.
use Rattle.std.proofs.Common.{◌≡◌, ◌-◌, ◌*◌, ◌≤◌, replicate}
use Rattle.writer.specs.Besides.{besides}
use Rattle.writer.specs.Put.{put}
use Rattle.padding.proofs.parts.put_columns.Given as goal

abbrev pub invariant-loop-c : goal.invariant-loop-c
invariant-loop-c l = (l.c ≤ l.columns) × (l.out ≡ put l.at (besides l.height (l.long - l.height) l.c l.words (replicate (l.columns * (l.long - l.height)) l.fill)) l.initial.out)
