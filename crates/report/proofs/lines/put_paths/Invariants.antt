-- `report::lines::put_paths` meets its contract. What is left to put are the lines of the gates that are left.
use Rattle.std.proofs.Common.{◌≡◌, ◌-◌, length}
use Rattle.octets.specs.Text.{sink, put}
use Rattle.tree.specs.Plan.{plan_selector}
use Rattle.report.specs.Report.{path_lines}
use Rattle.report.proofs.lines.put_paths.Given as goal

abbrev pub invariant-loop-gate : goal.invariant-loop-gate
invariant-loop-gate l = (length l.out ≡ length l.initial.out) × (put (sink l.initial.out l.at) (path_lines (plan_selector l.plan) 0 l.plan.gate_count) ≡ put (sink l.out l.place) (path_lines (plan_selector l.plan) l.gate (l.plan.gate_count - l.gate)))
