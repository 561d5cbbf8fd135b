-- `octets::input::fill` is safe and ends. The bytes read lie in the room, whose length stays; each turn leaves less of it.
use Rattle.std.proofs.Common.{◌≡◌, ◌-◌, ◌≤◌, length}
use Rattle.octets.proofs.input.fill.Given as goal

abbrev pub invariant-loop-many : goal.invariant-loop-many
invariant-loop-many g l = (l.many ≤ length l.room) × (length l.room ≡ length l.initial.room)

abbrev pub decreases-loop-many : goal.decreases-loop-many
decreases-loop-many g l = length l.room - l.many
