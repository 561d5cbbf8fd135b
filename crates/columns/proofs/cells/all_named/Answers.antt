-- `columns::cells::all_named` meets its contract: the words that are left are all named just where all words are, as long as none was found that is not.
use Rattle.std.proofs.Common.{sym, ◌∙◌, arith}
use Rattle.columns.specs.Section.{named, all_turn, all_found, all_done}
use Rattle.columns.proofs.cells.all_named.Goals as goal

pub loop-word-preserved : goal.loop-word-preserved
loop-word-preserved c =
    let l = c.loop-word in
    let a = c.args in
    (omega arith, l.invariant.1 ∙ all_turn (named a.vars) a.words.now l.word-index (omega arith) (sym c.is_named.ensures ∙ c.if-not-is_named.false))

pub returns-then-not-is_named : goal.returns-then-not-is_named
returns-then-not-is_named c =
    let l = c.loop-word in
    let a = c.args in
    sym (l.invariant.1 ∙ all_found (named a.vars) a.words.now l.word-index (omega arith) (sym c.is_named.ensures ∙ c.if-not-is_named.true))

pub returns : goal.returns
returns c =
    let l = c.loop-word in
    let a = c.args in
    sym (l.invariant.1 ∙ all_done (named a.vars) a.words.now l.word-index (omega arith))
