-- `columns::s_words::s_words_fault` meets its contract: it is the test of a section's words.
use Rattle.std.proofs.Common.{sym, ◌∙◌, arith, ltb, rules, tests}
use Rattle.field.specs.Field.{p}
use Rattle.pieces.specs.SWords.{s_word_fault}
use Rattle.columns.specs.Section.{below_all_of, section_fault, s-words_says}
use Rattle.columns.proofs.s_words.s_words_fault.Goals as goal

pub returns : goal.returns
returns c =
    let a = c.args in
    c.test_words.ensures (λ w. ltb w p) (λ words answer k. search (rules, tests) ∙ below_all_of p words.now)
    ∙ sym (section_fault (s_word_fault a.total) (λ w. ltb w p) 11 a.total (λ z. omega (arith, z)) (s-words_says a.total) a.count a.piece.now c.requires.0)
