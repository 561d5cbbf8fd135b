-- `columns::finishing::scratch_fine` meets its contract.
use Rattle.std.proofs.Common.{◌∙◌, arith, rules, tests}
use Rattle.std.proofs.lemmas.Iterator.{YieldsList-from_range}
use Rattle.std.proofs.lemmas.Iterator.Search.{all_from_yields_List}
use Rattle.pieces.specs.Finishing.{variable_fine, scratch_fine}
use Rattle.columns.proofs.Tested.{all-numbers}
use Rattle.columns.proofs.finishing.scratch_fine.Goals as goal

pub returns : goal.returns
unfolding scratch_fine
returns c =
    let a = c.args in
    all_from_yields_List (variable_fine a.cells a.scratch.now) _ _ _ c.all.ensures.ran (YieldsList-from_range 0 a.variables a.variables (cc) (omega arith)) (λ x b q k. search (rules, tests))
    ∙ all-numbers 0 a.variables (variable_fine a.cells a.scratch.now)
