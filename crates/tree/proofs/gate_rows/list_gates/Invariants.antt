-- `gate_rows::list_gates` meets its contract: the words of the gates passed are filled in.
use Rattle.std.proofs.Common.{◌-◌, ℕ}
use Rattle.base.specs.Fills.{Filled}
use Rattle.base.specs.Pick.{pick}
use Rattle.selector.specs.Gates.{constants_of}
use Rattle.selector.specs.MadeUp.{wanted}
use Rattle.tree.proofs.gate_rows.list_gates.Given as goal

abbrev pub invariant-loop-g : goal.invariant-loop-g
invariant-loop-g l = Filled (λ (k : ℕ). pick l.blocked (1 - wanted l.gates l.many k) 0) 0 l.g l.initial.barred l.barred × Filled (constants_of l.extra l.gates) 0 l.g l.initial.own l.own
