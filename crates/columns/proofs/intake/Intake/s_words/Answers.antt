-- `columns::intake::Intake::s_words` meets its contract: it is the call on its parts.
use Rattle.std.proofs.Common.{◌≡◌, ◌∙◌, ap}
use Rattle.refusal.specs.Refusal.{answer_number}
use Rattle.columns.specs.Intake.{s_words_answer}
use Rattle.columns.specs.Given.{Given, given_with, counted, given_of}
use Rattle.columns.specs.GivenLaws.{bare, words_whole}
use Rattle.columns.proofs.intake.Intake.s_words.Goals as goal

pub returns : goal.returns
returns c =
    let s = c.args.self.now in
    let a = c.args in
    let b = a.constants.now in
    let w = words_whole s a.piece.now b in
    let e : given_with (answer_number c.take_s_words.result) c.take_s_words.new.counts ≡ given_of (s_words_answer (bare s) a.piece.now b) = c.take_s_words.ensures.value ∙ rw c.parts-parts.ensures in
    record { value = ap (λ (g : Given). counted s g) e ∙ w.0; constants_after = c.take_s_words.ensures.constants_after ∙ rw c.parts-parts.ensures w.1 }
