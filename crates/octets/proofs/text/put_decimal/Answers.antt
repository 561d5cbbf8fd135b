-- `octets::text::put_decimal` meets its contract: the digits that `io` makes are the fewest.
use Rattle.std.proofs.Common.{ap, ◌∙◌, arith}
use Rattle.octets.specs.Text.{sink, put}
use Rattle.octets.specs.TextLaws.{fewest_decimal}
use Rattle.octets.proofs.text.put_decimal.Goals as goal

-- src/text.rt:23:1
pub returns : goal.returns
returns c =
    let d = c.decimal-many in
    let a = c.args in
    c.put_bytes.ensures ∙ ap (put (sink a.out.now a.at)) (d.ensures.digits ∙ fewest_decimal a.number d.result (omega arith) d.ensures.len)
