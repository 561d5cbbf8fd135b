-- `columns::finishing::all_used` meets its contract.
use Rattle.std.proofs.Common.{◌∙◌, arith, ℕ, get_or, true, false, eqb, rules, tests}
use Rattle.std.proofs.lemmas.Iterator.{YieldsList-from_range}
use Rattle.std.proofs.lemmas.Iterator.Search.{all_from_yields_List}
use Rattle.base.specs.Pick.{pick}
use Rattle.pieces.specs.Finishing.{all_used}
use Rattle.columns.proofs.Tested.{all-numbers}
use Rattle.columns.proofs.finishing.all_used.Goals as goal

pub returns : goal.returns
unfolding all_used
returns c =
    let used = c.args.used.now in
    all_from_yields_List (λ (g : ℕ). pick (eqb (get_or used g 0) 0) false true) _ _ _ c.all.ensures.ran (YieldsList-from_range 0 c.args.many c.args.many (cc) (omega arith)) (λ x b q k. search (rules, tests))
    ∙ all-numbers 0 c.args.many _
