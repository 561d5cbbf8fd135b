-- `labels::powers` meets its contract. The invariant: r words are filled, and x is the power of w that comes next.
use Rattle.std.proofs.Common.{◌≡◌, ◌≤◌}
use Rattle.base.specs.Fills.{Filled}
use Rattle.labels.specs.Stretches.{root_power}
use Rattle.labels.proofs.powers.Given as goal

abbrev pub invariant-loop-r : goal.invariant-loop-r
invariant-loop-r l = (l.r ≤ l.rows) × (l.x ≡ root_power l.n l.r) × Filled (root_power l.n) 0 l.r l.initial.copies l.copies
