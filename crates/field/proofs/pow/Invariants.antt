-- `field::pow` meets its contract. The loop's invariant: the result is below p, and times the base to what is left of the exponent it is the power. The measure is what is left of it.
use Rattle.std.proofs.Common.{◌≡◌, ◌*◌, ◌%◌, ◌^◌, ◌<◌}
use Rattle.field.specs.Field.{p, fpow}
use Rattle.field.proofs.pow.Given as goal

abbrev pub invariant-loop-e : goal.invariant-loop-e
invariant-loop-e l = (l.r < p) × (l.r * l.b ^ l.e % p ≡ fpow l.base l.exp)

abbrev pub decreases-loop-e : goal.decreases-loop-e
decreases-loop-e l = l.e
