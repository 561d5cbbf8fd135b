-- `parts::put_counted` meets its contract: the count, and the words after it.
use Rattle.std.proofs.Common.{refl, ◌∙◌, [], ◌∷◌, arith, ◌+◌}
use Rattle.writer.specs.PutLaws.{put_fits, put_next}
use Rattle.padding.proofs.parts.put_counted.Goals as goal

pub returns : goal.returns
returns c =
    let a = c.args in
    (refl, put_next a.at (a.count ∷ []) a.words.now a.out.now _ _ (a.at + 1) (c.put_same.ensures ∙ put_fits a.at (a.count ∷ []) a.out.now (omega arith)) refl c.put_words.ensures (omega arith))
