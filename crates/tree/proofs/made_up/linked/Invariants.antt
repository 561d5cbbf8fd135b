-- `made_up::linked` meets its contract: the nodes that are left, from the present one on, are linked if all are.
use Rattle.std.proofs.Common.{◌-◌, ◌≡◌}
use Rattle.selector.specs.MadeUp.{linked_from}
use Rattle.tree.proofs.made_up.linked.Given as goal

abbrev pub invariant-loop-i : goal.invariant-loop-i
invariant-loop-i l = linked_from l.count l.nodes l.count 0 ≡ linked_from (l.count - l.i) l.nodes l.count l.i
