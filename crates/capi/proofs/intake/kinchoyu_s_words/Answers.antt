-- `intake::kinchoyu_s_words` meets its contract: the call on the parts that stand in the words is the call of the state that they encode.
use Rattle.std.proofs.Common.{◌≡◌, [], ap, sym, refl, ◌∙◌, arith}
use Rattle.std.specs.Prelude.{Option, Some, None}
use Rattle.refusal.specs.Refusal.{answer_number}
use Rattle.tree.specs.declared.plan.Outline.{Outline}
use Rattle.tree.specs.declared.plan.Plan.{Plan}
use Rattle.columns.specs.Intake.{state_in, with_state, s_words_answer, s_words_left}
use Rattle.columns.specs.Given.{given_of, given_with}
use Rattle.encoding.specs.Holding.{Held, held_at, held_with, outlined}
use Rattle.encoding.proofs.HeldLaws.{holds}
use Rattle.capi.proofs.IntakeLaws.{words_back, words-none}
use Rattle.capi.proofs.intake.kinchoyu_s_words.Goals as goal

pub parts_in-parts-requires : goal.parts_in-parts-requires
parts_in-parts-requires c =
    let ws = c.args.state.now in
    let k = c.held_at-held.result.counts in
    let h : Held = held_with (outlined (Some c.in-Some.outline)) k in
    let e : h ≡ held_at ws = ap (λ (x : Option Outline). held_with (outlined x) k) (sym c.in-Some.is) ∙ c.held_at-held.ensures in
    omega (arith, (holds ws h e refl).long)

pub returns : goal.returns
returns c =
    let a = c.args in
    let ws = a.state.now in
    let b = a.constants.now in
    let k = c.held_at-held.result.counts in
    let h : Held = held_with (outlined (Some c.in-Some.outline)) k in
    let e : h ≡ held_at ws = ap (λ (x : Option Outline). held_with (outlined x) k) (sym c.in-Some.is) ∙ c.held_at-held.ensures in
    let p = c.parts_in-parts.ensures in
    let t = c.take_s_words-answer in
    let g = c.give_back in
    let all = words_back ws h e refl a.piece.now b (given_with (answer_number t.result) t.new.counts) (answer_number g.result) g.new.state t.new.constants
    (t.ensures.value ∙ ap (λ (q : Plan). given_of (s_words_answer (with_state q (state_in k [])) a.piece.now b)) p)
    (t.ensures.constants_after ∙ ap (λ (q : Plan). s_words_left (with_state q (state_in k [])) a.piece.now b) p)
    (ap answer_number g.ensures.value) g.ensures.state_after in
    record { value = all.0; state_after = all.1.0; constants_after = all.1.1 }

pub returns-in_default : goal.returns-in_default
returns-in_default c =
    let a = c.args in
    let ws = a.state.now in
    let k = c.held_at-held.result.counts in
    let h : Held = held_with (outlined None) k in
    let e : h ≡ held_at ws = ap (λ (x : Option Outline). held_with (outlined x) k) (sym c.in_default.is) ∙ c.held_at-held.ensures in
    let all = words-none ws h e refl a.piece.now a.constants.now in
    record { value = all.0; state_after = all.1.0; constants_after = all.1.1 }
