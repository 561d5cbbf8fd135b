-- `search::try_find_placement_for_degree` meets its contract: the bounds that are left, from the present one on, have the first tree of all.
use Rattle.std.proofs.Common.{◌+◌, ◌-◌, ℕ, drop, length, List, ◌≡◌}
use Rattle.std.proofs.Math.Option.{Option}
use Rattle.selector.specs.Nodes.{node_slots}
use Rattle.selector.specs.Search.{first_bound, may_stand}
use Rattle.selector.specs.Tree.{Tree, grown}
use Rattle.tree.proofs.search.try_find_placement_for_degree.Given as goal

abbrev pub each : List ℕ → List ℕ → ℕ → ℕ → ℕ → ℕ → Option Tree
each gates order base extra target b = grown (may_stand extra gates target b) (drop base order)

abbrev pub invariant-loop-b : goal.invariant-loop-b
invariant-loop-b l = (length l.nodes ≡ node_slots)
    × (first_bound (each l.gates l.order l.base l.extra l.target) l.left l.bound ≡ first_bound (each l.gates l.order l.base l.extra l.target) (l.bound + l.left - l.b) l.b)
