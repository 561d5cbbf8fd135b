-- `columns::records::all_below` meets its contract: the words that are left are all below p just where all words are, as long as none was found that is not.
use Rattle.std.proofs.Common.{lt-ltb, le-ltb, sym, ◌∙◌, arith, ltb, get_or}
use Rattle.field.specs.Field.{p}
use Rattle.columns.specs.Section.{below_all_of, all_turn, all_found, all_done}
use Rattle.columns.proofs.records.all_below.Goals as goal

pub returns-then-word-ge-P : goal.returns-then-word-ge-P
returns-then-word-ge-P c =
    let l = c.loop-word in
    let ws = c.args.words.now in
    sym (below_all_of p ws ∙ l.invariant.1 ∙ all_found (λ w. ltb w p) ws l.word-index (omega arith) (le-ltb (get_or ws l.word-index 0) p c.if-word-ge-P.true))

pub loop-word-preserved : goal.loop-word-preserved
loop-word-preserved c =
    let l = c.loop-word in
    let ws = c.args.words.now in
    (omega arith, l.invariant.1 ∙ all_turn (λ w. ltb w p) ws l.word-index (omega arith) (lt-ltb (get_or ws l.word-index 0) p (omega (arith, c.if-word-ge-P.false))))

pub returns : goal.returns
returns c =
    let l = c.loop-word in
    let ws = c.args.words.now in
    sym (below_all_of p ws ∙ l.invariant.1 ∙ all_done (λ w. ltb w p) ws l.word-index (omega arith))
