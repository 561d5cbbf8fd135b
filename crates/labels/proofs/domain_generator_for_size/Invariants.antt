-- `labels::domain_generator_for_size` meets its contract. The invariant: w has yet to be squared 32 - e times.
use Rattle.std.proofs.Common.{◌≡◌, ◌-◌}
use Rattle.field.specs.Field.{squared}
use Rattle.labels.specs.Labels.{domain_generator}
use Rattle.labels.proofs.domain_generator_for_size.Given as goal

abbrev pub invariant-loop-e : goal.invariant-loop-e
invariant-loop-e l = domain_generator l.n ≡ squared (32 - l.e) l.w
