-- `search::search` meets its contract: the targets that are left, from the present one on, have the first tree of all.
use Rattle.std.proofs.Common.{◌-◌, ◌≤◌, length, ◌≡◌}
use Rattle.selector.specs.Nodes.{node_slots}
use Rattle.selector.specs.Search.{first_target, search_tree, targets}
use Rattle.tree.proofs.SearchLaws.{cap, within}
use Rattle.tree.proofs.search.search.Given as goal

abbrev pub invariant-loop : goal.invariant-loop
invariant-loop l = (l.target ≤ cap (targets - l.counter)) × (length l.nodes ≡ node_slots) × (search_tree l.extra l.gates l.many ≡ first_target (within l.gates l.many l.extra) (targets - l.counter) l.target)
