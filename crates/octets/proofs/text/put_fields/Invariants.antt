-- `octets::text::put_fields` meets its contract. What is left to put into the present buffer is what all fields put into the given one.
use Rattle.std.proofs.Common.{◌≡◌, length, drop}
use Rattle.octets.specs.Text.{sink, put, fields}
use Rattle.octets.proofs.text.put_fields.Given as goal

abbrev pub invariant-loop-number : goal.invariant-loop-number
invariant-loop-number l =
    (length l.out ≡ length l.initial.out) × (put (sink l.initial.out l.at) (fields l.numbers) ≡ put (sink l.out l.place) (fields (drop l.number-index l.numbers)))
