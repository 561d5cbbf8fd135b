-- `columns::rows::stage_rows` meets its contract. Each turn stages one record, and the rest is what is left (StageLoop).
use Rattle.std.proofs.Common.{inl, inr, arith, ◌+◌, ◌<◌, get_or}
use Rattle.columns.proofs.Parts.{part_is, part_length}
use Rattle.columns.proofs.StageLoop.{staging_begin, staging_front, staging_next, staging_done}
use Rattle.columns.proofs.rows.stage_rows.Goals as goal

pub loop-rows-init : goal.loop-rows-init
loop-rows-init c =
    let a = c.args in staging_begin a.height a.bits.now a.steps.now a.piece.now a.stage.now c.requires.height_bound.1

pub bounds-piece-i-in-loop-rows : goal.bounds-piece-i-in-loop-rows
bounds-piece-i-in-loop-rows c =
    let turn = staging_front c.args.height c.args.bits.now c.args.steps.now c.args.piece.now c.loop-rows.stage c.loop-rows.rows c.loop-rows.i c.loop-rows.invariant c.requires.stageable c.if-i-piece.true in
    omega (arith, turn)

pub overflow_add-end-in-loop-rows : goal.overflow_add-end-in-loop-rows
overflow_add-end-in-loop-rows c =
    let turn = staging_front c.args.height c.args.bits.now c.args.steps.now c.args.piece.now c.loop-rows.stage c.loop-rows.rows c.loop-rows.i c.loop-rows.invariant c.requires.stageable c.if-i-piece.true in
    omega (arith, turn)

pub offset_bounds-bits-g : goal.offset_bounds-bits-g
offset_bounds-bits-g c =
    let turn = staging_front c.args.height c.args.bits.now c.args.steps.now c.args.piece.now c.loop-rows.stage c.loop-rows.rows c.loop-rows.i c.loop-rows.invariant c.requires.stageable c.if-i-piece.true in
    omega (arith, turn)

pub bounds-bits-g : goal.bounds-bits-g
bounds-bits-g c =
    let turn = staging_front c.args.height c.args.bits.now c.args.steps.now c.args.piece.now c.loop-rows.stage c.loop-rows.rows c.loop-rows.i c.loop-rows.invariant c.requires.stageable c.if-i-piece.true in
    turn.known

pub offset_bounds-steps-g : goal.offset_bounds-steps-g
offset_bounds-steps-g c =
    let turn = staging_front c.args.height c.args.bits.now c.args.steps.now c.args.piece.now c.loop-rows.stage c.loop-rows.rows c.loop-rows.i c.loop-rows.invariant c.requires.stageable c.if-i-piece.true in
    omega (arith, turn)

pub bounds-steps-g : goal.bounds-steps-g
bounds-steps-g c =
    let turn = staging_front c.args.height c.args.bits.now c.args.steps.now c.args.piece.now c.loop-rows.stage c.loop-rows.rows c.loop-rows.i c.loop-rows.invariant c.requires.stageable c.if-i-piece.true in
    turn.known

pub slice_bounds-stage_line-end : goal.slice_bounds-stage_line-end
slice_bounds-stage_line-end c =
    let turn = staging_front c.args.height c.args.bits.now c.args.steps.now c.args.piece.now c.loop-rows.stage c.loop-rows.rows c.loop-rows.i c.loop-rows.invariant c.requires.stageable c.if-i-piece.true in
    omega (arith, turn)

pub stage_line-requires : goal.stage_line-requires
stage_line-requires c =
    let turn = staging_front c.args.height c.args.bits.now c.args.steps.now c.args.piece.now c.loop-rows.stage c.loop-rows.rows c.loop-rows.i c.loop-rows.invariant c.requires.stageable c.if-i-piece.true in
    let a = c.args in
    let l = c.loop-rows in
    let t = turn in
    let n = part_length a.piece.now (l.i + 2) (get_or a.piece.now (l.i + 1) 0) (omega (arith, t.two, t.fits)) in
    let h : l.rows < 32 = c.loop-rows-test.true in
    (omega (arith, h, c.requires.height_bound.0), omega (arith, n, t.room), l.invariant.long)

pub loop-rows-preserved : goal.loop-rows-preserved
loop-rows-preserved c =
    let turn = staging_front c.args.height c.args.bits.now c.args.steps.now c.args.piece.now c.loop-rows.stage c.loop-rows.rows c.loop-rows.i c.loop-rows.invariant c.requires.stageable c.if-i-piece.true in
    let a = c.args in
    let l = c.loop-rows in
    let w = c.stage_line in
    let e = part_is a.piece.now (l.i + 2) (get_or a.piece.now (l.i + 1) 0) in
    staging_next a.height a.bits.now a.steps.now a.piece.now l.stage l.rows l.i l.invariant turn c.loop-rows-test.true _ w.ensures.stage_len c.requires.height_bound.0
    (λ path q. rw (e, q.digits_are) at w.ensures.stage_after)

pub returns-else-i-piece : goal.returns-else-i-piece
returns-else-i-piece c =
    let a = c.args in
    let l = c.loop-rows in
    staging_done a.height a.bits.now a.steps.now a.piece.now l.stage l.rows l.i l.invariant (inr c.if-i-piece.false)

pub returns-after-loop-rows : goal.returns-after-loop-rows
returns-after-loop-rows c =
    let a = c.args in
    let l = c.loop-rows in
    staging_done a.height a.bits.now a.steps.now a.piece.now l.stage l.rows l.i l.invariant (inl c.loop-rows-test.false)
