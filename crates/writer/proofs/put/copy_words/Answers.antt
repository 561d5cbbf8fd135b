-- `put::copy_words` meets its contract: after i turns the first i words are copied.
use lib.Seq.{paste-suc}
use Rattle.std.proofs.Common.{length, ◌∙◌, ◌≡◌, ap, add-one, arith}
use Rattle.std.proofs.lemmas.List.Edits.{length-paste}
use Rattle.std.proofs.Math.Seq.{paste, paste-zero}
use Rattle.writer.specs.Put.{put}
use Rattle.writer.proofs.put.copy_words.Goals as goal

pub loop-i-init : goal.loop-i-init
loop-i-init c = (omega arith, paste-zero c.args.to.now c.args.at c.args.from.now)

pub bounds-to-at : goal.bounds-to-at
bounds-to-at c =
    let l = c.loop-i in
    let a = c.args in
    omega (arith, ap length l.invariant.1, length-paste a.to.now a.at a.from.now l.i (omega arith) l.invariant.0)

pub loop-i-preserved : goal.loop-i-preserved
loop-i-preserved c =
    let l = c.loop-i in
    let a = c.args in
    (omega arith, rw (l.invariant.1, add-one) (paste-suc a.to.now a.at a.from.now l.i 0 (omega arith) (omega arith)))

pub shape_of-to : goal.shape_of-to
shape_of-to c =
    let l = c.loop-i in
    let a = c.args in
    ap length l.invariant.1 ∙ length-paste a.to.now a.at a.from.now l.i (omega arith) l.invariant.0

pub returns : goal.returns
unfolding put
returns c =
    let l = c.loop-i in
    let a = c.args in
    let e : l.i ≡ length a.from.now = omega arith in
    l.invariant.1 ∙ ap (paste a.to.now a.at a.from.now) e
