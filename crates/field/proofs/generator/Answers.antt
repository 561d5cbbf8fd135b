-- `field::generator` meets its contract.
use Rattle.std.proofs.Common.{sym}
use Rattle.field.proofs.Numerals.{generator_is}
use Rattle.field.proofs.generator.Goals as goal

pub returns : goal.returns
returns c = sym generator_is
