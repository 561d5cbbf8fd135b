-- `octets::text::put_field` meets its contract: the space, then the digits.
use Rattle.std.proofs.Common.{sym, ap, ◌∙◌, [], ◌∷◌}
use Rattle.octets.specs.Text.{Sink, sink, put, decimal}
use Rattle.octets.specs.TextLaws.{put-append}
use Rattle.octets.proofs.text.put_field.Goals as goal

-- LEFT -- src/text.rt:35:27
-- LEFT slice-aggregate-put-bytes : tie.Need-slice-aggregate-put-bytes
-- LEFT slice-aggregate-put-bytes c = search rules

-- src/text.rt:32:1
pub returns : goal.returns
returns c =
    let a = c.args in
    let s = sink a.out.now a.at in
    c.put_decimal.ensures ∙ ap (λ (t : Sink). put t (decimal a.number)) c.put_bytes-place.ensures ∙ sym (put-append s (32 ∷ []) (decimal a.number))
