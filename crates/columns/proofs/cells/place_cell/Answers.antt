-- `columns::cells::place_cell` meets its contract: one equation for each of the three cases.
use borrow.Author.Tests.{leb-false}
use Rattle.std.proofs.Common.{sym, ◌∙◌, leb-true, ◌<◌}
use Rattle.pieces.specs.Setting.{cols}
use Rattle.pieces.specs.Cells.{placeholder, first_seen, seen_again}
use Rattle.pieces.specs.CellLaws.{place_skip, place_first, place_again}
use Rattle.columns.proofs.cells.place_cell.Goals as goal

pub returns-then-is_placeholder : goal.returns-then-is_placeholder
returns-then-is_placeholder c =
    let a = c.args in
    sym (place_skip a.cell a.variable.0 (cols a.copies.now a.scratch.now) (leb-true placeholder a.variable.0 (sym c.is_placeholder.ensures ∙ c.if-is_placeholder.true)))

pub returns-then-value-eq0 : goal.returns-then-value-eq0
unfolding first_seen
returns-then-value-eq0 c =
    let plain : c.args.variable.0 < placeholder = let a = c.args in
    leb-false placeholder a.variable.0 (sym c.is_placeholder.ensures ∙ c.if-is_placeholder.false) in
    let a = c.args in
    let e = c.as_variable_index.ensures in
    rw e (sym (place_first a.cell a.variable.0 (cols a.copies.now a.scratch.now) (plain) (rw e at c.if-value-eq0.true)))

pub returns-else-value-eq0 : goal.returns-else-value-eq0
unfolding seen_again
returns-else-value-eq0 c =
    let plain : c.args.variable.0 < placeholder = let a = c.args in
    leb-false placeholder a.variable.0 (sym c.is_placeholder.ensures ∙ c.if-is_placeholder.false) in
    let a = c.args in
    let e = c.as_variable_index.ensures in
    rw e (sym (place_again a.cell a.variable.0 (cols a.copies.now a.scratch.now) (plain) (rw e at c.if-value-eq0.false)))
