-- `columns::finishing::write_firsts` meets its contract. What is left to finish from the present copies is what the whole finishing gives.
use Rattle.std.proofs.Common.{◌≡◌, sym, ap, ◌∙◌, arith, ℕ, ◌+◌, ◌-◌, ◌<◌, List, true}
use Rattle.pieces.specs.Finishing.{variable_fine, scratch_fine, finish_from}
use Rattle.pieces.specs.CellLaws.{finish_turn, finish_done, every_at}
use Rattle.columns.proofs.finishing.write_firsts.Goals as goal

-- each variable below is fine
each : (variables cells : ℕ) (scratch : List ℕ) → scratch_fine variables cells scratch ≡ true → (v : ℕ) → v < variables → variable_fine cells scratch v ≡ true
unfolding scratch_fine
each variables cells scratch e v h = every_at variables 0 (variable_fine cells scratch) e v (omega arith) (omega arith)

pub write_back-requires : goal.write_back-requires
write_back-requires c =
    let a = c.args in
    let l = c.loop-v in
    record { v_bound = (omega (arith, c.requires.variables_bound), omega (arith, c.requires.variables_bound), omega (arith, c.requires.variables_bound, l.invariant.1)); v_value = each a.variables a.cells a.scratch.now c.requires.scratch_value l.v c.loop-v-test.true }

pub loop-v-preserved : goal.loop-v-preserved
loop-v-preserved c =
    let a = c.args in
    let l = c.loop-v in
    let w = c.write_back in
    (omega arith, w.auto.copies ∙ l.invariant.1, l.invariant.2 ∙ finish_turn a.variables l.v a.scratch.now l.copies c.loop-v-test.true ∙ ap (finish_from (l.v + 1) (a.variables - (l.v + 1)) a.scratch.now) (sym w.ensures))

pub returns : goal.returns
returns c =
    let a = c.args in
    let l = c.loop-v in
    sym (l.invariant.2 ∙ finish_done a.variables l.v a.scratch.now l.copies (omega arith))
