-- `refusals::top_constants` meets its contract. The loop goes down, so that the list of placed gates gains its head in each turn.
use Rattle.std.proofs.Common.{◌-◌, ◌≤◌, ◌≡◌}
use Rattle.selector.specs.Gates.{placed_from, top_constants}
use Rattle.tree.proofs.refusals.top_constants.Given as goal

abbrev pub invariant-loop-g : goal.invariant-loop-g
invariant-loop-g l = (l.g ≤ l.many) × (l.constants ≡ top_constants l.extra l.gates (placed_from (l.many - l.g) l.gates l.g))
