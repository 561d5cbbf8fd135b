-- `calls::list::count_calls` meets its contract. The loop's invariant: the calls passed and those from the place on are the list's. The measure is what is left of the
-- list. Assumes nothing.
use Rattle.std.proofs.Common.{◌≤◌, ◌-◌, length}
use Rattle.calls.specs.EncodedLaws.{Rest}
use Rattle.calls.proofs.list.count_calls.Given as goal

abbrev pub invariant-loop-at : goal.invariant-loop-at
invariant-loop-at l = (l.at ≤ length l.list) × (l.count ≤ l.at) × Rest l.list l.at l.count

abbrev pub decreases-loop-at : goal.decreases-loop-at
decreases-loop-at l = length l.list - l.at
