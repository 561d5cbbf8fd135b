-- `parts::put_column_section` meets its contract: the columns stand behind their count.
use Rattle.std.proofs.Common.{refl, ◌∙◌, [], ◌∷◌, arith, ◌+◌, ◌*◌}
use Rattle.writer.specs.PutLaws.{put_fits}
use Rattle.padding.specs.Padding.{stretched}
use Rattle.padding.specs.PartsLaws.{put-after, stretched-long}
use Rattle.padding.proofs.parts.put_column_section.Goals as goal

pub returns : goal.returns
returns c =
    let a = c.args in
    let n = a.columns * a.long ∷ [] in
    let e = c.put_same.ensures ∙ put_fits a.at n a.out.now (omega (arith, c.requires.height_le_long.2)) in
    let f = c.put_columns.ensures in
    let t = stretched a.fill a.height a.long a.columns a.words.now in
    (f.0, put-after a.at n t a.out.now _ _ (a.at + 1) e refl f.1 (omega (arith, c.requires.height_le_long.2, stretched-long a.fill a.height a.long a.columns a.words.now c.requires.height_le_long.0 c.requires.height_le_long.1)))
