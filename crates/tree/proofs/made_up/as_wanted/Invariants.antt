-- `made_up::as_wanted` meets its contract: the gates that are left, from the present one on, stand as wanted if all do.
use Rattle.std.proofs.Common.{◌-◌, ℕ, get_or, ◌≡◌}
use Rattle.selector.specs.MadeUp.{as_wanted}
use Rattle.tree.proofs.made_up.as_wanted.Given as goal

abbrev pub invariant-loop-g : goal.invariant-loop-g
invariant-loop-g l = as_wanted l.many l.gates l.many (λ (h : ℕ). get_or l.marks h 0) 0 ≡ as_wanted (l.many - l.g) l.gates l.many (λ (h : ℕ). get_or l.marks h 0) l.g
