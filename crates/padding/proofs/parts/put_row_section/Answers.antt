-- `parts::put_row_section` meets its contract: the missing rows stand behind the given ones.
use Rattle.std.proofs.Common.{◌≡◌, ap, ◌∙◌, ◌∷◌, arith, ◌+◌, ◌*◌, length}
use Rattle.padding.specs.Padding.{fillers}
use Rattle.padding.specs.PartsLaws.{put-after, fillers-long}
use Rattle.padding.proofs.parts.put_row_section.Goals as goal

pub returns : goal.returns
returns c =
    let a = c.args in
    let e = c.put_counted-behind.ensures in
    let f = c.put_rows.ensures in
    (f.0 ∙ ap (λ n. n + 2 * a.missing) e.0, put-after a.at (a.long ∷ a.rows.now) (fillers a.missing a.gate) a.out.now _ _ _ e.1 (e.0 ∙ (let z : a.at + 1 + length a.rows.now ≡ a.at + length (a.long ∷ a.rows.now) = omega arith in z)) f.1 (omega (arith, fillers-long a.missing a.gate)))
