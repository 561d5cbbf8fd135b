-- `columns::tables::write_tables` meets its contract. Each turn writes one table, which the piece has no fault with, and the rest is what is left (TableLoop).
use Rattle.std.proofs.Common.{◌≡◌, ap, arith, ℕ, ◌+◌, ◌*◌, ◌<◌, ◌≤◌, length, get_or, List, true, ◌≢◌}
use Rattle.pieces.specs.Records.{cut, table_size}
use Rattle.pieces.specs.Tables.{stack_next, table_fault}
use Rattle.pieces.specs.RecordLaws.{Going, going}
use Rattle.pieces.proofs.FaultLaws.{table-cut, table_fine}
use Rattle.columns.specs.Stacked.{stack}
use Rattle.columns.proofs.Parts.{part_is, part_length}
use Rattle.columns.proofs.TableLoop.{stacking_begin, stacking_next, stacking_count, stacking_high, stacking_lines}
use Rattle.columns.proofs.tables.write_tables.Goals as goal

-- what is known of the record at the front
record Turn (width trace t h i : ℕ) (piece : List ℕ) : Type 0 where
  pub two : i + 1 < length piece
  pub wide : get_or piece i 0 ≡ width
  pub few : t < 255
  pub room : h + get_or piece (i + 1) 0 ≤ trace
  pub end : i + 2 + width * get_or piece (i + 1) 0 ≤ length piece

pub loop-i-init : goal.loop-i-init
loop-i-init c = let a = c.args in stacking_begin a.width a.trace a.below.count a.below.high a.piece.now a.tables.now c.requires.piece_value

pub bounds-piece-i : goal.bounds-piece-i
bounds-piece-i c =
    let front-record : Going table_size (table_fault true c.args.width c.args.trace) stack_next c.args.piece.now (stack c.loop-i.stack.count c.loop-i.stack.high) c.loop-i.i c.loop-i.invariant.left = let a = c.args in
    let l = c.loop-i in
    let s = stack l.stack.count l.stack.high in
    let bad : table_fault true a.width a.trace s cut ≢ 0 = λ z. omega (arith, z, table-cut true a.width a.trace s) in
    going table_size (table_fault true a.width a.trace) stack_next a.piece.now s l.i l.invariant.left l.invariant.rest bad l.invariant.fine c.loop-i-test.true in
    let turn : Turn c.args.width c.args.trace c.loop-i.stack.count c.loop-i.stack.high c.loop-i.i c.args.piece.now = let a = c.args in
    let l = c.loop-i in
    let ws = a.piece.now in
    let g = front-record in
    let f = table_fine true a.width a.trace (stack l.stack.count l.stack.high) (get_or ws l.i 0) (get_or ws (l.i + 1) 0) _ g.good in
    let w : get_or ws l.i 0 * get_or ws (l.i + 1) 0 ≡ a.width * get_or ws (l.i + 1) 0 = ap (λ (k : ℕ). k * get_or ws (l.i + 1) 0) f.wide in
    record { two = g.two; wide = f.wide; few = f.few; room = f.room; end = omega (arith, g.two, g.fits, w) } in
    omega (arith, turn, c.requires.width_bound)

pub overflow_mul-end : goal.overflow_mul-end
overflow_mul-end c =
    let front-record : Going table_size (table_fault true c.args.width c.args.trace) stack_next c.args.piece.now (stack c.loop-i.stack.count c.loop-i.stack.high) c.loop-i.i c.loop-i.invariant.left = let a = c.args in
    let l = c.loop-i in
    let s = stack l.stack.count l.stack.high in
    let bad : table_fault true a.width a.trace s cut ≢ 0 = λ z. omega (arith, z, table-cut true a.width a.trace s) in
    going table_size (table_fault true a.width a.trace) stack_next a.piece.now s l.i l.invariant.left l.invariant.rest bad l.invariant.fine c.loop-i-test.true in
    let turn : Turn c.args.width c.args.trace c.loop-i.stack.count c.loop-i.stack.high c.loop-i.i c.args.piece.now = let a = c.args in
    let l = c.loop-i in
    let ws = a.piece.now in
    let g = front-record in
    let f = table_fine true a.width a.trace (stack l.stack.count l.stack.high) (get_or ws l.i 0) (get_or ws (l.i + 1) 0) _ g.good in
    let w : get_or ws l.i 0 * get_or ws (l.i + 1) 0 ≡ a.width * get_or ws (l.i + 1) 0 = ap (λ (k : ℕ). k * get_or ws (l.i + 1) 0) f.wide in
    record { two = g.two; wide = f.wide; few = f.few; room = f.room; end = omega (arith, g.two, g.fits, w) } in
    omega (arith, turn, c.requires.width_bound)

pub overflow_add-end : goal.overflow_add-end
overflow_add-end c =
    let front-record : Going table_size (table_fault true c.args.width c.args.trace) stack_next c.args.piece.now (stack c.loop-i.stack.count c.loop-i.stack.high) c.loop-i.i c.loop-i.invariant.left = let a = c.args in
    let l = c.loop-i in
    let s = stack l.stack.count l.stack.high in
    let bad : table_fault true a.width a.trace s cut ≢ 0 = λ z. omega (arith, z, table-cut true a.width a.trace s) in
    going table_size (table_fault true a.width a.trace) stack_next a.piece.now s l.i l.invariant.left l.invariant.rest bad l.invariant.fine c.loop-i-test.true in
    let turn : Turn c.args.width c.args.trace c.loop-i.stack.count c.loop-i.stack.high c.loop-i.i c.args.piece.now = let a = c.args in
    let l = c.loop-i in
    let ws = a.piece.now in
    let g = front-record in
    let f = table_fine true a.width a.trace (stack l.stack.count l.stack.high) (get_or ws l.i 0) (get_or ws (l.i + 1) 0) _ g.good in
    let w : get_or ws l.i 0 * get_or ws (l.i + 1) 0 ≡ a.width * get_or ws (l.i + 1) 0 = ap (λ (k : ℕ). k * get_or ws (l.i + 1) 0) f.wide in
    record { two = g.two; wide = f.wide; few = f.few; room = f.room; end = omega (arith, g.two, g.fits, w) } in
    omega (arith, turn, c.requires.width_bound)

pub overflow_add-stack : goal.overflow_add-stack
overflow_add-stack c =
    let front-record : Going table_size (table_fault true c.args.width c.args.trace) stack_next c.args.piece.now (stack c.loop-i.stack.count c.loop-i.stack.high) c.loop-i.i c.loop-i.invariant.left = let a = c.args in
    let l = c.loop-i in
    let s = stack l.stack.count l.stack.high in
    let bad : table_fault true a.width a.trace s cut ≢ 0 = λ z. omega (arith, z, table-cut true a.width a.trace s) in
    going table_size (table_fault true a.width a.trace) stack_next a.piece.now s l.i l.invariant.left l.invariant.rest bad l.invariant.fine c.loop-i-test.true in
    let turn : Turn c.args.width c.args.trace c.loop-i.stack.count c.loop-i.stack.high c.loop-i.i c.args.piece.now = let a = c.args in
    let l = c.loop-i in
    let ws = a.piece.now in
    let g = front-record in
    let f = table_fine true a.width a.trace (stack l.stack.count l.stack.high) (get_or ws l.i 0) (get_or ws (l.i + 1) 0) _ g.good in
    let w : get_or ws l.i 0 * get_or ws (l.i + 1) 0 ≡ a.width * get_or ws (l.i + 1) 0 = ap (λ (k : ℕ). k * get_or ws (l.i + 1) 0) f.wide in
    record { two = g.two; wide = f.wide; few = f.few; room = f.room; end = omega (arith, g.two, g.fits, w) } in
    omega (arith, turn, c.requires.width_bound)

pub slice_bounds-write_table-end : goal.slice_bounds-write_table-end
slice_bounds-write_table-end c =
    let front-record : Going table_size (table_fault true c.args.width c.args.trace) stack_next c.args.piece.now (stack c.loop-i.stack.count c.loop-i.stack.high) c.loop-i.i c.loop-i.invariant.left = let a = c.args in
    let l = c.loop-i in
    let s = stack l.stack.count l.stack.high in
    let bad : table_fault true a.width a.trace s cut ≢ 0 = λ z. omega (arith, z, table-cut true a.width a.trace s) in
    going table_size (table_fault true a.width a.trace) stack_next a.piece.now s l.i l.invariant.left l.invariant.rest bad l.invariant.fine c.loop-i-test.true in
    let turn : Turn c.args.width c.args.trace c.loop-i.stack.count c.loop-i.stack.high c.loop-i.i c.args.piece.now = let a = c.args in
    let l = c.loop-i in
    let ws = a.piece.now in
    let g = front-record in
    let f = table_fine true a.width a.trace (stack l.stack.count l.stack.high) (get_or ws l.i 0) (get_or ws (l.i + 1) 0) _ g.good in
    let w : get_or ws l.i 0 * get_or ws (l.i + 1) 0 ≡ a.width * get_or ws (l.i + 1) 0 = ap (λ (k : ℕ). k * get_or ws (l.i + 1) 0) f.wide in
    record { two = g.two; wide = f.wide; few = f.few; room = f.room; end = omega (arith, g.two, g.fits, w) } in
    omega (arith, turn, c.requires.width_bound)

pub write_table-requires : goal.write_table-requires
write_table-requires c =
    let front-record : Going table_size (table_fault true c.args.width c.args.trace) stack_next c.args.piece.now (stack c.loop-i.stack.count c.loop-i.stack.high) c.loop-i.i c.loop-i.invariant.left = let a = c.args in
    let l = c.loop-i in
    let s = stack l.stack.count l.stack.high in
    let bad : table_fault true a.width a.trace s cut ≢ 0 = λ z. omega (arith, z, table-cut true a.width a.trace s) in
    going table_size (table_fault true a.width a.trace) stack_next a.piece.now s l.i l.invariant.left l.invariant.rest bad l.invariant.fine c.loop-i-test.true in
    let turn : Turn c.args.width c.args.trace c.loop-i.stack.count c.loop-i.stack.high c.loop-i.i c.args.piece.now = let a = c.args in
    let l = c.loop-i in
    let ws = a.piece.now in
    let g = front-record in
    let f = table_fine true a.width a.trace (stack l.stack.count l.stack.high) (get_or ws l.i 0) (get_or ws (l.i + 1) 0) _ g.good in
    let w : get_or ws l.i 0 * get_or ws (l.i + 1) 0 ≡ a.width * get_or ws (l.i + 1) 0 = ap (λ (k : ℕ). k * get_or ws (l.i + 1) 0) f.wide in
    record { two = g.two; wide = f.wide; few = f.few; room = f.room; end = omega (arith, g.two, g.fits, w) } in
    let a = c.args in
    let l = c.loop-i in
    let t = turn in
    let n = part_length a.piece.now (l.i + 2) (a.width * get_or a.piece.now (l.i + 1) 0) t.end in
    record { width_bound = (c.requires.width_bound.0, c.requires.width_bound.1, t.room, n); trace_in_bounds = omega (arith, c.requires.width_bound.4, l.invariant.long) }

pub overflow_add-stack-in-loop-i : goal.overflow_add-stack-in-loop-i
overflow_add-stack-in-loop-i c =
    let front-record : Going table_size (table_fault true c.args.width c.args.trace) stack_next c.args.piece.now (stack c.loop-i.stack.count c.loop-i.stack.high) c.loop-i.i c.loop-i.invariant.left = let a = c.args in
    let l = c.loop-i in
    let s = stack l.stack.count l.stack.high in
    let bad : table_fault true a.width a.trace s cut ≢ 0 = λ z. omega (arith, z, table-cut true a.width a.trace s) in
    going table_size (table_fault true a.width a.trace) stack_next a.piece.now s l.i l.invariant.left l.invariant.rest bad l.invariant.fine c.loop-i-test.true in
    let turn : Turn c.args.width c.args.trace c.loop-i.stack.count c.loop-i.stack.high c.loop-i.i c.args.piece.now = let a = c.args in
    let l = c.loop-i in
    let ws = a.piece.now in
    let g = front-record in
    let f = table_fine true a.width a.trace (stack l.stack.count l.stack.high) (get_or ws l.i 0) (get_or ws (l.i + 1) 0) _ g.good in
    let w : get_or ws l.i 0 * get_or ws (l.i + 1) 0 ≡ a.width * get_or ws (l.i + 1) 0 = ap (λ (k : ℕ). k * get_or ws (l.i + 1) 0) f.wide in
    record { two = g.two; wide = f.wide; few = f.few; room = f.room; end = omega (arith, g.two, g.fits, w) } in
    omega (arith, turn, c.requires.width_bound)

pub loop-i-preserved : goal.loop-i-preserved
loop-i-preserved c =
    let front-record : Going table_size (table_fault true c.args.width c.args.trace) stack_next c.args.piece.now (stack c.loop-i.stack.count c.loop-i.stack.high) c.loop-i.i c.loop-i.invariant.left = let a = c.args in
    let l = c.loop-i in
    let s = stack l.stack.count l.stack.high in
    let bad : table_fault true a.width a.trace s cut ≢ 0 = λ z. omega (arith, z, table-cut true a.width a.trace s) in
    going table_size (table_fault true a.width a.trace) stack_next a.piece.now s l.i l.invariant.left l.invariant.rest bad l.invariant.fine c.loop-i-test.true in
    let turn : Turn c.args.width c.args.trace c.loop-i.stack.count c.loop-i.stack.high c.loop-i.i c.args.piece.now = let a = c.args in
    let l = c.loop-i in
    let ws = a.piece.now in
    let g = front-record in
    let f = table_fine true a.width a.trace (stack l.stack.count l.stack.high) (get_or ws l.i 0) (get_or ws (l.i + 1) 0) _ g.good in
    let w : get_or ws l.i 0 * get_or ws (l.i + 1) 0 ≡ a.width * get_or ws (l.i + 1) 0 = ap (λ (k : ℕ). k * get_or ws (l.i + 1) 0) f.wide in
    record { two = g.two; wide = f.wide; few = f.few; room = f.room; end = omega (arith, g.two, g.fits, w) } in
    let a = c.args in
    let l = c.loop-i in
    let t = turn in
    let w = c.write_table in
    let e = part_is a.piece.now (l.i + 2) (a.width * get_or a.piece.now (l.i + 1) 0) in
    stacking_next a.width a.trace a.below.count a.below.high a.piece.now a.tables.now l.tables l.stack.count l.stack.high l.i l.invariant (front-record) t.wide _ w.auto.tables (rw e at w.ensures)

pub returns : goal.returns
returns c =
    let a = c.args in
    let l = c.loop-i in
    let done : length a.piece.now ≤ l.i = c.loop-i-test.false in
    record { count_value = (stacking_count a.width a.trace a.below.count a.below.high a.piece.now a.tables.now l.tables l.stack.count l.stack.high l.i l.invariant done, stacking_high a.width a.trace a.below.count a.below.high a.piece.now a.tables.now l.tables l.stack.count l.stack.high l.i l.invariant done); tables_after = stacking_lines a.width a.trace a.below.count a.below.high a.piece.now a.tables.now l.tables l.stack.count l.stack.high l.i l.invariant done }
