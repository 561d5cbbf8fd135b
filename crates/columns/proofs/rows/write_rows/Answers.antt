-- `columns::rows::write_rows` meets its contract. Each turn stages some records and writes their lines, and the rest is what is left (StageLoop).
use Rattle.std.proofs.Common.{arith, ℕ, ◌+◌, ◌<◌, ◌≤◌, length, drop, length-drop}
use Rattle.columns.specs.Placed.{told_by, Stages}
use Rattle.columns.proofs.Parts.{rest_is}
use Rattle.columns.proofs.StageLoop.{writing_room, writing_next, writing_lines}
use Rattle.columns.proofs.rows.write_rows.Goals as goal

record Turn (len trace i row next rows : ℕ) : Type 0 where
  pub some : 0 < next
  pub within : i + next ≤ len
  pub low : len ≤ 18446744073709551615
  pub few : rows ≤ 32
  pub room : row + rows ≤ trace

pub write_lines-requires : goal.write_lines-requires
write_lines-requires c =
    let first : Stages c.args.height c.args.gates.now.bits c.args.gates.now.steps (drop c.loop-i.i c.args.piece.now) c.stage_rows-staged.new.stage c.stage_rows-staged.result.next c.stage_rows-staged.result.rows = rw (rest_is c.args.piece.now c.loop-i.i) at c.stage_rows-staged.ensures in
    let turn : Turn (length c.args.piece.now) c.args.trace c.loop-i.i c.loop-i.row c.stage_rows-staged.result.next c.stage_rows-staged.result.rows = let a = c.args in
    let l = c.loop-i in
    let p = first in
    let h : l.i < length a.piece.now = c.loop-i-test.true in
    let n = length-drop l.i a.piece.now in
    record {
      some = (p.some (omega (arith, h, n))).0;
      within = omega (arith, p.within, n, h);
      low = omega arith;
      few = p.few;
      room = writing_room a.height a.trace a.count a.piece.now a.constants.now a.gates.now.bits a.gates.now.steps l.constants l.stage l.row l.i l.invariant _ _ _ p (told_by a.gates.now) c.requires.piece_value h;
    } in
    let l = c.loop-i in
    let t = turn in
    record { width_le_step = (c.requires.trace_bound.1, omega arith, c.requires.trace_bound.0, t.room); many_in_bounds = (omega (arith, t.few, (first).long), omega (arith, c.requires.trace_bound.3, l.invariant.long)) }

pub overflow_add-row : goal.overflow_add-row
overflow_add-row c =
    let first : Stages c.args.height c.args.gates.now.bits c.args.gates.now.steps (drop c.loop-i.i c.args.piece.now) c.stage_rows-staged.new.stage c.stage_rows-staged.result.next c.stage_rows-staged.result.rows = rw (rest_is c.args.piece.now c.loop-i.i) at c.stage_rows-staged.ensures in
    let turn : Turn (length c.args.piece.now) c.args.trace c.loop-i.i c.loop-i.row c.stage_rows-staged.result.next c.stage_rows-staged.result.rows = let a = c.args in
    let l = c.loop-i in
    let p = first in
    let h : l.i < length a.piece.now = c.loop-i-test.true in
    let n = length-drop l.i a.piece.now in
    record {
      some = (p.some (omega (arith, h, n))).0;
      within = omega (arith, p.within, n, h);
      low = omega arith;
      few = p.few;
      room = writing_room a.height a.trace a.count a.piece.now a.constants.now a.gates.now.bits a.gates.now.steps l.constants l.stage l.row l.i l.invariant _ _ _ p (told_by a.gates.now) c.requires.piece_value h;
    } in
    omega (arith, turn, c.requires.trace_bound.0)

pub loop-i-preserved : goal.loop-i-preserved
loop-i-preserved c =
    let first : Stages c.args.height c.args.gates.now.bits c.args.gates.now.steps (drop c.loop-i.i c.args.piece.now) c.stage_rows-staged.new.stage c.stage_rows-staged.result.next c.stage_rows-staged.result.rows = rw (rest_is c.args.piece.now c.loop-i.i) at c.stage_rows-staged.ensures in
    let a = c.args in
    let l = c.loop-i in
    let w = c.write_lines in
    writing_next a.height a.trace a.count a.piece.now a.constants.now a.gates.now.bits a.gates.now.steps l.constants l.stage l.row l.i l.invariant _ _ _ (first) _ w.auto.buffer w.ensures

pub returns : goal.returns
returns c =
    let a = c.args in
    let l = c.loop-i in
    λ path q.
    writing_lines a.height a.trace a.count a.piece.now a.constants.now a.gates.now.bits a.gates.now.steps l.constants l.stage l.row l.i l.invariant c.loop-i-test.false
    (told_by a.gates.now) path c.requires.piece_value q
