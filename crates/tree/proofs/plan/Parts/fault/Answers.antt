-- `plan::Parts::fault` meets its contract: the gates of a plan are sound once their refusals are none.
use Rattle.std.proofs.Common.{length, length-take-le, take, ◌*◌, ◌≡◌, ◌∙◌, ap, arith, false, refl, sym}
use Rattle.std.specs.Prelude.{Err, Ok, Result, is_err}
use Rattle.parameters.specs.declared.parameters.Parameters.{Parameters}
use Rattle.refusal.specs.Refusal.{answer_number}
use Rattle.refusal.specs.declared.Refusal.{Refusal}
use Rattle.selector.proofs.RecordLaws.{gates_sound}
use Rattle.selector.specs.Gates.{gate_words}
use Rattle.selector.specs.Refusals.{extra_of, gates_number}
use Rattle.tree.specs.Plan.{parameters_in}
use Rattle.tree.proofs.plan.Parts.fault.Goals as goal

accepted : {A : Type 0} (r : Result A Refusal) → is_err r ≡ false → answer_number r ≡ 0
accepted (Ok x) e = refl
accepted (Err r) e = absurd cc

pub nodes_fit-requires-clause-sound : goal.nodes_fit-requires-clause-sound
nodes_fit-requires-clause-sound c =
    let s = c.args.self in
    let n = s.outline.gate_count in
    let gs = take (n * gate_words) s.gates.now in
    let lent : length gs ≡ n * gate_words = length-take-le (n * gate_words) s.gates.now (omega arith) in
    let ps = parameters_in s.outline in
    let none = sym (c.check_gates.ensures ∙ ap (λ (x : Parameters). gates_number x.mode x.allowed gs n) c.parameters-parameters.ensures) ∙ accepted c.check_gates.result (sym c.is_err-2.ensures.value ∙ c.if-is_err-2.false) in
    rw (c.extra_of-extra.ensures ∙ ap (λ (x : Parameters). extra_of x.mode) c.parameters-parameters.ensures)
    (gates_sound ps.mode s.outline.allowed gs n none (omega arith) (omega arith))
