-- `judging::filler_gate` meets its contract: none of the gates that were passed is of kind 1.
use Rattle.std.proofs.Common.{◌≡◌, ◌-◌, ◌≤◌}
use Rattle.selector.specs.Refusals.{count_of_gates}
use Rattle.padding.specs.Padding.{filler_from, filler_of}
use Rattle.padding.proofs.judging.filler_gate.Given as goal

abbrev pub invariant-loop-g : goal.invariant-loop-g
invariant-loop-g l = (l.g ≤ count_of_gates l.gates) × (filler_of l.gates ≡ filler_from (count_of_gates l.gates - l.g) l.g l.gates)
