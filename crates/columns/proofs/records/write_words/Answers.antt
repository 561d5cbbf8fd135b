-- `columns::records::write_words` meets its contract. What is left to put from the present buffer is what the whole put gives.
use Rattle.std.proofs.Common.{◌≡◌, sym, ◌∙◌, arith, ◌+◌, length-set}
use Rattle.pieces.specs.WriteLaws.{put_turn, put_done}
use Rattle.columns.proofs.records.write_words.Goals as goal

pub loop-i-preserved : goal.loop-i-preserved
loop-i-preserved c =
    let l = c.loop-i in
    let a = c.args in
    let z : a.at + l.i + 1 ≡ a.at + (l.i + 1) = omega arith in
    (omega arith, simp length-set l.invariant.1, l.invariant.2 ∙ rw z at (put_turn 1 l.buffer (a.at + l.i) a.words.now l.i (omega arith)))

pub returns : goal.returns
returns c =
    let l = c.loop-i in
    let a = c.args in
    sym (l.invariant.2 ∙ put_done 1 l.buffer (a.at + l.i) a.words.now l.i (omega arith))
