-- `labels::negate` meets its contract. The invariant: r words of the second half are filled; the words read stand before them, and are the old ones.
use Rattle.std.proofs.Common.{◌+◌, ◌≤◌}
use Rattle.base.specs.Fills.{Filled}
use Rattle.labels.specs.Stretches.{negated_from}
use Rattle.labels.proofs.negate.Given as goal

abbrev pub invariant-loop-r : goal.invariant-loop-r
invariant-loop-r l = (l.r ≤ l.rest) × Filled (negated_from l.half l.initial.copies) (l.at + l.half) (l.at + l.half + l.r) l.initial.copies l.copies
