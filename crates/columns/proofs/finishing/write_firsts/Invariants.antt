-- `columns::finishing::write_firsts` meets its contract. What is left to finish from the present copies is what the whole finishing gives.
use Rattle.std.proofs.Common.{◌≡◌, ◌-◌, ◌≤◌, length}
use Rattle.pieces.specs.Finishing.{finish_from}
use Rattle.columns.proofs.finishing.write_firsts.Given as goal

abbrev pub invariant-loop-v : goal.invariant-loop-v
invariant-loop-v l = (l.v ≤ l.variables) × (length l.copies ≡ length l.initial.copies) × (finish_from 0 l.variables l.scratch l.initial.copies ≡ finish_from l.v (l.variables - l.v) l.scratch l.copies)
