-- `judging::judge` meets its contract: 1, planning's number, 21, 22, then the circuit's own.
use Rattle.std.proofs.Common.{◌≡◌, sym, ap, ◌∙◌, subst, ◌≢◌, arith, ℕ, ◌+◌, ◌^◌, ◌≤◌, max, length, leb}
use Rattle.std.specs.Prelude.{Option}
use Rattle.std.specs.Option.{ok_or}
use Rattle.base.specs.Exponent.{exponent}
use Rattle.base.specs.Pick.{pick}
use Rattle.refusal.specs.declared.Refusal.TheVariants.{NoMarker}
use Rattle.refusal.specs.Refusal.{answer_number, refusal_number}
use Rattle.refusal.proofs.Passing.{refusal_nonzero}
use Rattle.labels.specs.Ranges.{longest_trace}
use Rattle.parameters.specs.Parameters.{parameters_at}
use Rattle.parameters.specs.declared.parameters.Parameters.{Parameters}
use Rattle.selector.specs.Refusals.{count_of_gates}
use Rattle.tree.specs.Plan.{plan_number, planned}
use Rattle.tree.specs.declared.plan.Plan.{Plan}
use Rattle.pieces.specs.Records.{rows_of, tables_of}
use Rattle.pieces.specs.Tables.{sum_rows}
use Rattle.columns.specs.Intake.{setting_of}
use Rattle.columns.specs.Sections.{unpadded_call}
use Rattle.listing.specs.Listing.{Words}
use Rattle.padding.specs.Padding.{given, with_trace, filler_of, pad_number}
use Rattle.padding.specs.Judging.{Capped, gate_or, six_of}
use Rattle.padding.proofs.JudgingLaws.{Reached, reached, pad_range, pad_planning, pad_21, pad_22, pad_own, refusal, found_gate}
use Rattle.padding.proofs.judging.judge.Goals as goal

-- the length, by the code's bound
reach_by : (w : Words) (many t g m b n : ℕ) → many ≡ length (rows_of w.rows) → Capped (sum_rows 0 (tables_of w.tables)) t → g ≡ given w → m ≡ max t g → b ≡ max (many + 1) m
    → n ≡ pick (leb b longest_trace) (2 ^ exponent b) 1 → given w ≤ longest_trace → Reached w b n
reach_by w many t g m b n e k is_g is_m is_b is_n within =
    let f : b ≡ max (length (rows_of w.rows) + 1) (max t (given w)) =
    is_b ∙ ap (λ (x : ℕ). max (x + 1) m) e ∙ ap (max (length (rows_of w.rows) + 1)) (is_m ∙ ap (max t) is_g) in
    subst (λ (x : ℕ). Reached w x n) (sym f) (reached w t n k within (is_n ∙ ap (λ (x : ℕ). pick (leb x longest_trace) (2 ^ exponent x) 1) f))

pub returns-then-given-gt-LONGEST_TRACE : goal.returns-then-given-gt-LONGEST_TRACE
returns-then-given-gt-LONGEST_TRACE c =
    let a = c.args in
    let w = six_of a.eight.now a.gates.now a.rows.now a.s_words.now a.cells.now a.tables.now in
    let given_is : c.parameters_at-parameters.result.trace ≡ given w = ap (λ (y : Parameters). y.trace) c.parameters_at-parameters.ensures in
    record { number_is = sym (pad_range w (omega (arith, given_is, c.if-given-gt-LONGEST_TRACE.true))); judged_is = tt }

pub returns-in_err-plan : goal.returns-in_err-plan
returns-in_err-plan c =
    let a = c.args in
    let w = six_of a.eight.now a.gates.now a.rows.now a.s_words.now a.cells.now a.tables.now in
    let given_is : c.parameters_at-parameters.result.trace ≡ given w = ap (λ (y : Parameters). y.trace) c.parameters_at-parameters.ensures in
    let within : given w ≤ longest_trace = omega (arith, given_is, c.if-given-gt-LONGEST_TRACE.false) in
    let n = c.power_or_one-length.result in
    let reach = reach_by w a.many c.table_rows.result c.parameters_at-parameters.result.trace c.greater.result c.greater-least.result n c.requires.eight_len.1 c.table_rows.ensures given_is c.greater.ensures c.greater-least.ensures c.power_or_one-length.ensures within in
    let with_n = with_trace n (parameters_at w.parameters) in
    let parameters_are : c.with_trace.result ≡ with_n = c.with_trace.ensures ∙ ap (with_trace n) c.parameters_at-parameters.ensures in
    let x = c.in_err-plan.field-0.0 in
    let number_is : refusal_number x ≡ plan_number with_n w.gates = c.in_err-plan.ensures.number ∙ ap (λ (y : Parameters). plan_number y w.gates) parameters_are in
    let d : plan_number with_n w.gates ≢ 0 = λ z. refusal_nonzero x (number_is ∙ z) in
    refusal w c.from_residual.result x c.from_residual.ensures.1 (pad_planning w n reach.in_range within d ∙ sym number_is)

pub returns-in_err-gate : goal.returns-in_err-gate
returns-in_err-gate c =
    let a = c.args in
    let w = six_of a.eight.now a.gates.now a.rows.now a.s_words.now a.cells.now a.tables.now in
    let given_is : c.parameters_at-parameters.result.trace ≡ given w = ap (λ (y : Parameters). y.trace) c.parameters_at-parameters.ensures in
    let within : given w ≤ longest_trace = omega (arith, given_is, c.if-given-gt-LONGEST_TRACE.false) in
    let n = c.power_or_one-length.result in
    let reach = reach_by w a.many c.table_rows.result c.parameters_at-parameters.result.trace c.greater.result c.greater-least.result n c.requires.eight_len.1 c.table_rows.ensures given_is c.greater.ensures c.greater-least.ensures c.power_or_one-length.ensures within in
    let with_n = with_trace n (parameters_at w.parameters) in
    let parameters_are : c.with_trace.result ≡ with_n = c.with_trace.ensures ∙ ap (with_trace n) c.parameters_at-parameters.ensures in
    let zero : plan_number with_n w.gates ≡ 0 = sym (c.in_ok-plan.ensures.number ∙ ap (λ (y : Parameters). plan_number y w.gates) parameters_are) in
    let x = c.in_err-gate.field-0.0 in
    -- none is found
    let none = c.in_err-gate.ensures.ok_part in
    let is : refusal_number x ≡ 21 = ap answer_number c.in_err-gate.ensures.value ∙ ap (λ (o : Option ℕ). answer_number (ok_or o NoMarker)) none in
    let last : count_of_gates w.gates ≡ filler_of w.gates = sym (ap (gate_or (count_of_gates w.gates)) none) ∙ c.filler_gate.ensures.value in
    refusal w c.from_residual-in_err-gate.result x c.from_residual-in_err-gate.ensures.1 (pad_21 w n reach.in_range within zero (omega (arith, last)) ∙ sym is)

pub returns-then-least-gt-LONGEST_TRACE : goal.returns-then-least-gt-LONGEST_TRACE
returns-then-least-gt-LONGEST_TRACE c =
    let a = c.args in
    let w = six_of a.eight.now a.gates.now a.rows.now a.s_words.now a.cells.now a.tables.now in
    let given_is : c.parameters_at-parameters.result.trace ≡ given w = ap (λ (y : Parameters). y.trace) c.parameters_at-parameters.ensures in
    let within : given w ≤ longest_trace = omega (arith, given_is, c.if-given-gt-LONGEST_TRACE.false) in
    let n = c.power_or_one-length.result in
    let reach = reach_by w a.many c.table_rows.result c.parameters_at-parameters.result.trace c.greater.result c.greater-least.result n c.requires.eight_len.1 c.table_rows.ensures given_is c.greater.ensures c.greater-least.ensures c.power_or_one-length.ensures within in
    let with_n = with_trace n (parameters_at w.parameters) in
    let parameters_are : c.with_trace.result ≡ with_n = c.with_trace.ensures ∙ ap (with_trace n) c.parameters_at-parameters.ensures in
    let zero : plan_number with_n w.gates ≡ 0 = sym (c.in_ok-plan.ensures.number ∙ ap (λ (y : Parameters). plan_number y w.gates) parameters_are) in
    let found = found_gate w.gates c.filler_gate.result c.in_ok-gate.gate c.in_ok-gate.ensures.ok_part c.filler_gate.ensures.value c.filler_gate.ensures.listed in
    record { number_is = sym (pad_22 w n reach.in_range within zero found.1 (reach.passes c.if-least-gt-LONGEST_TRACE.true)); judged_is = tt }

pub returns-in_err-unpadded_number : goal.returns-in_err-unpadded_number
returns-in_err-unpadded_number c =
    let a = c.args in
    let w = six_of a.eight.now a.gates.now a.rows.now a.s_words.now a.cells.now a.tables.now in
    let given_is : c.parameters_at-parameters.result.trace ≡ given w = ap (λ (y : Parameters). y.trace) c.parameters_at-parameters.ensures in
    let within : given w ≤ longest_trace = omega (arith, given_is, c.if-given-gt-LONGEST_TRACE.false) in
    let n = c.power_or_one-length.result in
    let reach = reach_by w a.many c.table_rows.result c.parameters_at-parameters.result.trace c.greater.result c.greater-least.result n c.requires.eight_len.1 c.table_rows.ensures given_is c.greater.ensures c.greater-least.ensures c.power_or_one-length.ensures within in
    let with_n = with_trace n (parameters_at w.parameters) in
    let parameters_are : c.with_trace.result ≡ with_n = c.with_trace.ensures ∙ ap (with_trace n) c.parameters_at-parameters.ensures in
    let zero : plan_number with_n w.gates ≡ 0 = sym (c.in_ok-plan.ensures.number ∙ ap (λ (y : Parameters). plan_number y w.gates) parameters_are) in
    let found = found_gate w.gates c.filler_gate.result c.in_ok-gate.gate c.in_ok-gate.ensures.ok_part c.filler_gate.ensures.value c.filler_gate.ensures.listed in
    let r = reach.same (omega (arith, c.if-least-gt-LONGEST_TRACE.false)) in
    let plan_is : c.in_ok-plan.plan ≡ planned with_n w.gates = c.in_ok-plan.ensures.plan ∙ ap (λ (y : Parameters). planned y w.gates) parameters_are in
    let k = c.in_ok-gate.gate in
    let own : unpadded_call (setting_of c.in_ok-plan.plan) c.parameters_at-parameters.result.trace k w.rows w.s_words w.cells w.tables ≡ pad_number w =
    ap (λ (x : ℕ). unpadded_call (setting_of c.in_ok-plan.plan) x k w.rows w.s_words w.cells w.tables) given_is
    ∙ ap (λ (y : Plan). unpadded_call (setting_of y) (given w) k w.rows w.s_words w.cells w.tables) plan_is
    ∙ ap (λ (x : ℕ). unpadded_call (setting_of (planned with_n w.gates)) (given w) x w.rows w.s_words w.cells w.tables) found.0
    ∙ pad_own w n reach.in_range within zero found.1 r.1 r.0 in
    let x = c.in_err-unpadded_number.field-0.0 in
    refusal w c.from_residual-in_err-unpadded_number.result x c.from_residual-in_err-unpadded_number.ensures.1 (sym (c.in_err-unpadded_number.ensures ∙ own))

pub returns : goal.returns
returns c =
    let a = c.args in
    let w = six_of a.eight.now a.gates.now a.rows.now a.s_words.now a.cells.now a.tables.now in
    let given_is : c.parameters_at-parameters.result.trace ≡ given w = ap (λ (y : Parameters). y.trace) c.parameters_at-parameters.ensures in
    let within : given w ≤ longest_trace = omega (arith, given_is, c.if-given-gt-LONGEST_TRACE.false) in
    let n = c.power_or_one-length.result in
    let reach = reach_by w a.many c.table_rows.result c.parameters_at-parameters.result.trace c.greater.result c.greater-least.result n c.requires.eight_len.1 c.table_rows.ensures given_is c.greater.ensures c.greater-least.ensures c.power_or_one-length.ensures within in
    let with_n = with_trace n (parameters_at w.parameters) in
    let parameters_are : c.with_trace.result ≡ with_n = c.with_trace.ensures ∙ ap (with_trace n) c.parameters_at-parameters.ensures in
    let zero : plan_number with_n w.gates ≡ 0 = sym (c.in_ok-plan.ensures.number ∙ ap (λ (y : Parameters). plan_number y w.gates) parameters_are) in
    let found = found_gate w.gates c.filler_gate.result c.in_ok-gate.gate c.in_ok-gate.ensures.ok_part c.filler_gate.ensures.value c.filler_gate.ensures.listed in
    let r = reach.same (omega (arith, c.if-least-gt-LONGEST_TRACE.false)) in
    let plan_is : c.in_ok-plan.plan ≡ planned with_n w.gates = c.in_ok-plan.ensures.plan ∙ ap (λ (y : Parameters). planned y w.gates) parameters_are in
    let k = c.in_ok-gate.gate in
    let own : unpadded_call (setting_of c.in_ok-plan.plan) c.parameters_at-parameters.result.trace k w.rows w.s_words w.cells w.tables ≡ pad_number w =
    ap (λ (x : ℕ). unpadded_call (setting_of c.in_ok-plan.plan) x k w.rows w.s_words w.cells w.tables) given_is
    ∙ ap (λ (y : Plan). unpadded_call (setting_of y) (given w) k w.rows w.s_words w.cells w.tables) plan_is
    ∙ ap (λ (x : ℕ). unpadded_call (setting_of (planned with_n w.gates)) (given w) x w.rows w.s_words w.cells w.tables) found.0
    ∙ pad_own w n reach.in_range within zero found.1 r.1 r.0 in
    record { number_is = c.in_ok-unpadded_number.ensures ∙ own; judged_is = (r.0, found.0) }
