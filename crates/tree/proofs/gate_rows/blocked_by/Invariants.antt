-- `gate_rows::blocked_by` meets its contract: none of the gates passed stands at the end of the path of zeros.
use Rattle.std.proofs.Common.{ℕ, eqb, false, get_or, Bool, List, ◌≡◌}
use Rattle.selector.specs.Markers.{marker_ends}
use Rattle.tree.proofs.gate_rows.blocked_by.Given as goal

-- the word of the path's bits is 0
abbrev pub straight : List ℕ → ℕ → Bool
straight bits g = eqb (get_or bits g 0) 0

abbrev pub invariant-loop-g : goal.invariant-loop-g
invariant-loop-g l = marker_ends (straight l.bits) l.gates l.g ≡ false
