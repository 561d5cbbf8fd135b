-- The columns found so far, as the code holds them.
use Rattle.std.specs.Prelude.{replicate}
use Prim.Native.Nat.{ℕ}
use Rattle.std.proofs.Math.ListN.{length}
use Rattle.labels.specs.declared.NonResidues.{NonResidues}
use Rattle.labels.specs.Ranges.{most_columns}
use Rattle.labels.specs.Labels.{Columns, column_words}

-- the columns as the code holds them, with the number of N-th powers taken so far
abbrev pub stored : Columns → ℕ → NonResidues
stored s t = record { kept = length s.values; values = column_words s.values; powers = column_words s.powers; taken = t }

-- "The answer is then zeros."
abbrev pub no_representatives : NonResidues
no_representatives = record { kept = 0; values = replicate most_columns 0; powers = replicate most_columns 0; taken = 0 }
