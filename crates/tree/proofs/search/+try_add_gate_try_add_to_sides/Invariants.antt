use Rattle.std.proofs.Common.{◌*◌, ◌+◌}
use Rattle.tree.proofs.search.+try_add_gate_try_add_to_sides.Given as goal

-- the levels fall, and a fork's sides stand between two levels
abbrev pub decreases-try_add_gate : goal.decreases-try_add_gate
decreases-try_add_gate l = l.levels * 2

abbrev pub decreases-try_add_to_sides : goal.decreases-try_add_to_sides
decreases-try_add_to_sides l = l.levels * 2 + 1
