-- `refusals::some_kind` meets its contract: among the gates that are left, from the present one on, there is one if there is one among all.
use Rattle.std.proofs.Common.{◌-◌, ◌≡◌}
use Rattle.selector.specs.Refusals.{some_kind}
use Rattle.tree.proofs.refusals.some_kind.Given as goal

abbrev pub invariant-loop-g : goal.invariant-loop-g
invariant-loop-g l = some_kind l.kind (l.many - l.from) l.gates l.from ≡ some_kind l.kind (l.many - l.g) l.gates l.g
