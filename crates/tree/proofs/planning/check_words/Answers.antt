-- `planning::check_words` meets its contract: words that fit hold some gates.
use Rattle.std.proofs.Common.{◌∙◌, arith, sym}
use Rattle.selector.proofs.RecordLaws.{words-fit}
use Rattle.tree.proofs.planning.check_words.Goals as goal

pub check_gates-requires : goal.check_gates-requires
check_gates-requires c =
    let w = words-fit c.args.gates.now (sym c.words_fit.ensures ∙ c.if-not-words_fit.false) in
    (omega arith, omega arith)
