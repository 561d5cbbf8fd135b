-- `columns::cells::place_cells` meets its contract. What is left to run from the present columns is what the whole run gives.
use Rattle.std.proofs.Common.{sym, ◌∙◌, arith, ◌+◌}
use Rattle.pieces.specs.Setting.{cols}
use Rattle.pieces.specs.CellLaws.{run_turn, run_done}
use Rattle.columns.proofs.cells.place_cells.Goals as goal

pub loop-i-preserved : goal.loop-i-preserved
loop-i-preserved c =
    let a = c.args in (
      omega arith,
      c.place_cell.auto.copies ∙ c.loop-i.invariant.1,
      c.place_cell.auto.scratch ∙ c.loop-i.invariant.2,
      c.loop-i.invariant.3 ∙ run_turn a.count c.loop-i.i a.piece.now (cols c.loop-i.copies c.loop-i.scratch) _ (omega arith) c.place_cell.ensures,
    )

pub returns : goal.returns
returns c =
    let l = c.loop-i in
    let a = c.args in
    sym (l.invariant.3 ∙ run_done (a.count + l.i) l.i a.piece.now (cols l.copies l.scratch) (omega arith))
