-- `refusals::check_records` meets its contract: the records that are left, from the present one on, are refused as all are.
use Rattle.std.proofs.Common.{◌-◌, ◌≡◌}
use Rattle.selector.specs.Refusals.{records_number}
use Rattle.tree.proofs.refusals.check_records.Given as goal

abbrev pub invariant-loop-g : goal.invariant-loop-g
invariant-loop-g l = records_number l.many l.gates 0 ≡ records_number (l.many - l.g) l.gates l.g
