-- `field::is_non_residue` meets its contract.
use Rattle.std.proofs.Common.{ℕ, eqb, ap}
use Rattle.field.proofs.is_non_residue.Goals as goal

pub returns : goal.returns
returns c = ap (λ (n : ℕ). eqb n 18446744069414584320) c.pow.ensures
