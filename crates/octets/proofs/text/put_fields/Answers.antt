-- `octets::text::put_fields` meets its contract. What is left to put into the present buffer is what all fields put into the given one.
use Rattle.std.proofs.Common.{sym, ap, ◌∙◌, arith, ◌+◌, drop}
use Rattle.octets.specs.Text.{Sink, sink, put, fields}
use Rattle.octets.specs.TextLaws.{fields_turn, fields_done}
use Rattle.octets.proofs.text.put_fields.Goals as goal

pub loop-number-preserved : goal.loop-number-preserved
loop-number-preserved c =
    let l = c.loop-number in
    let a = c.args in (
      c.put_field-place.auto.out ∙ l.invariant.0,
      l.invariant.1
          ∙ fields_turn (sink l.out l.place) a.numbers.now l.number-index (omega arith)
          ∙ ap (λ (s : Sink). put s (fields (drop (l.number-index + 1) a.numbers.now))) (sym c.put_field-place.ensures),
    )

pub returns : goal.returns
returns c =
    let l = c.loop-number in
    let a = c.args in
    sym (l.invariant.1 ∙ fields_done (sink l.out l.place) a.numbers.now l.number-index (omega arith))
