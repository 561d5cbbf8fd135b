-- `columns::cells::cells_fault` meets its contract: it is the test of a section's words.
use Rattle.std.proofs.Common.{sym, ◌∙◌, arith, rules, tests}
use Rattle.pieces.specs.Cells.{cell_fault}
use Rattle.columns.specs.Section.{named, section_fault, cells_says}
use Rattle.columns.proofs.cells.cells_fault.Goals as goal

pub returns : goal.returns
returns c =
    let a = c.args in
    c.test_words.ensures (named a.vars) (λ words answer k. search (rules, tests))
    ∙ sym (section_fault (cell_fault a.total a.vars) (named a.vars) 14 a.total (λ z. omega (arith, z)) (cells_says a.total a.vars) a.count a.piece.now c.requires.0)
