-- `planning::kinchoyu_label` meets its contract: 10, then the label's own number.
use Rattle.std.proofs.Common.{set, ◌∙◌, ◌≡◌, ◌≢◌, ap, arith, eq-eqb, eqb-true, length, sym, true≢false}
use Rattle.refusal.proofs.Passing.{unwrap-answer}
use Rattle.capi.specs.PlanningLaws.{label_short, label_taken}
use Rattle.capi.proofs.planning.kinchoyu_label.Goals as goal

pub returns-then-is_empty : goal.returns-then-is_empty
returns-then-is_empty c =
    let a = c.args in
    let z : length a.out.now ≡ 0 = eqb-true (length a.out.now) 0 (sym c.is_empty.ensures ∙ c.if-is_empty.true) in
    let both = label_short a.n a.c a.cell a.out.now (omega (arith, z)) in record { value = both.0; out_after = both.1 }

pub returns : goal.returns
returns c =
    let a = c.args in
    let d : length a.out.now ≢ 0 = λ z. true≢false (sym (eq-eqb (length a.out.now) 0 z) ∙ sym c.is_empty.ensures ∙ c.if-is_empty.false) in
    let e = c.label-answer.ensures in
    let k = label_taken a.n a.c a.cell a.out.now (omega (arith, d)) in
    record { value = c.outcome.ensures ∙ e.number_value ∙ k.0; out_after = ap (set a.out.now 0) (c.unwrap_or.ensures ∙ unwrap-answer 0 c.label-answer.result ∙ e.value_value) ∙ k.1 }
