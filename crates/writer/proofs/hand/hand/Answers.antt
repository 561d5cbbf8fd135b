-- `hand::hand` meets its contract: words put at the front.
use Rattle.std.proofs.Common.{◌∙◌}
use Rattle.writer.proofs.HandLaws.{handed-front}
use Rattle.writer.proofs.hand.hand.Goals as goal

pub returns : goal.returns
returns c =
    let a = c.args in
    c.put_words.ensures ∙ handed-front a.words.now a.out.now
