-- `parts::put_columns` meets its contract: after c turns c columns are written.
use Rattle.std.proofs.Common.{◌≡◌, refl, ap, ◌∙◌, List, arith, ℕ, ◌+◌, ◌-◌, ◌*◌, replicate}
use Rattle.writer.specs.Besides.{besides}
use Rattle.writer.specs.Put.{put, put_if}
use Rattle.writer.specs.PutLaws.{put-nothing}
use Rattle.padding.specs.Padding.{stretched}
use Rattle.padding.specs.PartsLaws.{columns_step}
use Rattle.padding.proofs.parts.put_columns.Goals as goal

pub loop-c-init : goal.loop-c-init
unfolding besides
loop-c-init c = let a = c.args in (omega arith, put-nothing a.at a.out.now)

pub loop-c-preserved : goal.loop-c-preserved
loop-c-preserved c =
    let l = c.loop-c in
    let a = c.args in
    (omega (arith, c.loop-c-test.true), columns_step a.fill a.height a.long a.columns a.at a.words.now a.out.now c.requires.height_le_long.0 c.requires.height_le_long.1 c.requires.height_le_long.2 l.c _ _ _ (omega (arith, c.loop-c-test.true)) l.invariant.1 (c.put_words.ensures ∙ ap (λ (p : List ℕ). put_if (a.at + l.c * a.long) p l.out) c.part_of.ensures) c.put_same.ensures)

pub returns : goal.returns
returns c =
    -- all columns
    let done : c.loop-c.out ≡ put c.args.at (stretched c.args.fill c.args.height c.args.long c.args.columns c.args.words.now) c.args.out.now =
    let l = c.loop-c in
    let a = c.args in
    let e : l.c ≡ a.columns = omega arith in
    l.invariant.1 ∙ ap (λ (k : ℕ). put a.at (besides a.height (a.long - a.height) k a.words.now (replicate (a.columns * (a.long - a.height)) a.fill)) a.out.now) e in
    (refl, done)
