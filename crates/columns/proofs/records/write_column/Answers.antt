-- `columns::records::write_column` meets its contract. What is left to put from the present buffer is what the whole put gives.
use Rattle.std.proofs.Common.{◌≡◌, sym, ◌∙◌, arith, ◌+◌, ◌<◌, length-set}
use Rattle.columns.specs.Lines.{strided_turn, strided_done}
use Rattle.columns.proofs.Strides.{stride_next}
use Rattle.columns.proofs.records.write_column.Goals as goal

pub loop-i-preserved : goal.loop-i-preserved
loop-i-preserved c =
    let l = c.loop-i in
    let a = c.args in
    let h : l.i < a.many = c.loop-i-test.true in
    let z : a.at + l.i + 1 ≡ a.at + (l.i + 1) = omega arith in
    let t = strided_turn a.step a.many l.i l.place a.words.now l.buffer (a.at + l.i) h in
    (stride_next a.many a.step _ l.i l.place l.invariant.0 h, simp length-set l.invariant.1, l.invariant.2 ∙ rw z at t)

pub returns : goal.returns
returns c =
    let l = c.loop-i in
    let a = c.args in
    sym (l.invariant.2 ∙ strided_done a.step a.many l.i l.place a.words.now l.buffer (a.at + l.i) c.loop-i-test.false)
