-- `parts::put_rows` meets its contract: after i turns i records are written.
use Rattle.std.proofs.Common.{◌≡◌, refl, ap, ◌∙◌, arith, ℕ}
use Rattle.writer.specs.Put.{put}
use Rattle.writer.specs.PutLaws.{put-nothing}
use Rattle.padding.specs.Padding.{fillers}
use Rattle.padding.specs.PartsLaws.{rows_step}
use Rattle.padding.proofs.parts.put_rows.Goals as goal

pub loop-i-init : goal.loop-i-init
unfolding fillers
loop-i-init c = let a = c.args in (omega arith, put-nothing a.at a.out.now)

pub loop-i-preserved : goal.loop-i-preserved
loop-i-preserved c =
    let l = c.loop-i in
    let a = c.args in
    (omega arith, rows_step a.gate a.at l.i a.many a.out.now _ _ l.invariant.1 c.put_words.ensures (omega arith) (omega arith))

pub returns : goal.returns
returns c =
    let done : c.loop-i.out ≡ put c.args.at (fillers c.args.many c.args.gate) c.args.out.now = let l = c.loop-i in
    let a = c.args in
    let e : l.i ≡ a.many = omega arith in
    l.invariant.1 ∙ ap (λ (k : ℕ). put a.at (fillers k a.gate) a.out.now) e in
    (refl, done)
