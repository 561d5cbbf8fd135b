-- `labels::NonResidues::first_column` meets its contract: the words of no column, with column 0 put in.
use Rattle.std.proofs.Common.{ap, set}
use Rattle.labels.specs.declared.NonResidues.{NonResidues}
use Rattle.labels.proofs.NonResidues.first_column.Goals as goal

pub returns : goal.returns
returns c = ap (λ (n : NonResidues). record { kept = 1; values = set n.values 0 1; powers = set n.powers 0 1; taken = n.taken }) c.none-first.ensures
