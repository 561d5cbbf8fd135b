-- `labels::materialize_x_poly` meets its contract: the first half by `powers`, the second by `negate`.
use Rattle.labels.proofs.Filling.{power_halves}
use Rattle.labels.proofs.materialize_x_poly.Goals as goal

pub returns : goal.returns
returns c = power_halves c.args.n c.args.copies.now _ _ c.requires.1 c.powers.ensures c.negate.ensures
