-- `columns::records::write_same` meets its contract. What is left to put from the present buffer is what the whole put gives.
use Rattle.std.proofs.Common.{◌≡◌, sym, ◌∙◌, arith, ℕ, ◌+◌, ◌<◌, replicate, length-set}
use Rattle.std.proofs.lemmas.List.{length-replicate, get_or-replicate}
use Rattle.pieces.specs.WriteLaws.{put_turn, put_done}
use Rattle.columns.proofs.records.write_same.Goals as goal

pub loop-i-preserved : goal.loop-i-preserved
loop-i-preserved c =
    let l = c.loop-i in
    let a = c.args in
    let n = length-replicate {A = ℕ} a.many a.word in
    let h : l.i < a.many = c.loop-i-test.true in
    let z : a.at + l.i + 1 ≡ a.at + (l.i + 1) = omega arith in
    let t = put_turn 1 l.buffer (a.at + l.i) (replicate a.many a.word) l.i (omega arith) in
    (simp length-set l.invariant.0, l.invariant.1 ∙ rw (get_or-replicate {A = ℕ} a.many l.i a.word 0 h, z) at t)

pub returns : goal.returns
returns c =
    let l = c.loop-i in
    let a = c.args in
    sym (l.invariant.1 ∙ put_done 1 l.buffer (a.at + l.i) (replicate a.many a.word) l.i (omega (arith, length-replicate {A = ℕ} a.many a.word)))
