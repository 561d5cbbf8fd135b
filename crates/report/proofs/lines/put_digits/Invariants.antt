-- `report::lines::put_digits` meets its contract. What is left of the path is what the bits left say.
use Rattle.std.proofs.Common.{◌≡◌, List, ℕ, ◌-◌, length, drop}
use Rattle.octets.specs.Text.{sink, put}
use Rattle.base.specs.Digits.{digits, Spelled}
use Rattle.report.specs.Report.{digits_of}
use Rattle.report.proofs.lines.put_digits.Given as goal

abbrev pub invariant-loop-step : goal.invariant-loop-step
invariant-loop-step l = (length l.out ≡ length l.initial.out) × ((path : List ℕ) → Spelled path l.bits l.steps → (digits (l.steps - l._step) l.rest ≡ drop l._step path) × (put (sink l.initial.out l.at) (digits_of path) ≡ put (sink l.out l.place) (digits_of (drop l._step path))))
