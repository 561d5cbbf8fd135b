-- `planning::plan` meets its contract: a refusal of 1 to 7 first, then 8 where the search leaves no tree, then the plan of the words and the tree's shape.
use Rattle.std.proofs.Common.{ℕ, ◌∙◌, ◌≡◌, ap, sym, arith}
use Rattle.refusal.proofs.Passing.{nothing_answered, passed_up, refusal_nonzero}
use Rattle.selector.specs.Refusals.{count_of_gates}
use Rattle.selector.specs.Search.{plan_tree}
use Rattle.tree.specs.Answers.{Planned}
use Rattle.tree.specs.Plan.{zero_plan}
use Rattle.tree.specs.PlanLaws.{answer-none, answer-some, answer-words, shape_for, words_accepted}
use Rattle.tree.specs.Shapes.{shape_of}
use Rattle.tree.specs.declared.nodes.Shape.{Shape}
use Rattle.tree.proofs.planning.plan.Goals as goal

pub returns-in_err-check_words-clause-number : goal.returns-in_err-check_words-clause-number
returns-in_err-check_words-clause-number c =
    let a = c.args in
    let r = c.in_err-check_words.field-0.0 in
    passed_up c.from_residual.result r c.from_residual.ensures.1
    ∙ ap (λ (p : Planned). p.number) (answer-words a.parameters a.gates.now _ c.in_err-check_words.ensures (refusal_nonzero r))

pub returns-in_err-check_words-clause-plan : goal.returns-in_err-check_words-clause-plan
returns-in_err-check_words-clause-plan c =
    let a = c.args in
    let r = c.in_err-check_words.field-0.0 in
    nothing_answered zero_plan c.from_residual.result r c.from_residual.ensures.1
    ∙ ap (λ (p : Planned). p.plan) (answer-words a.parameters a.gates.now _ c.in_err-check_words.ensures (refusal_nonzero r))

pub shape_of-requires : goal.shape_of-requires
shape_of-requires c =
    let a = c.args in
    let w = words_accepted a.parameters a.gates.now (sym c.in_ok-check_words.ensures) in
    rw c.extra_of.ensures w.sound

pub returns-in_default-clause-number : goal.returns-in_default-clause-number
returns-in_default-clause-number c =
    let a = c.args in
    let w = sym c.in_ok-check_words.ensures in
    let s = c.in_default.ensures.shape
    ∙ ap (λ (x : ℕ). shape_of x a.gates.now (plan_tree x a.gates.now (count_of_gates a.gates.now))) c.extra_of.ensures in
    ap (λ (p : Planned). p.number) (answer-none a.parameters a.gates.now w (sym (ap (λ (z : Shape). z.count) s)))

pub returns-in_default-clause-plan : goal.returns-in_default-clause-plan
returns-in_default-clause-plan c =
    let a = c.args in
    let w = sym c.in_ok-check_words.ensures in
    let s = c.in_default.ensures.shape
    ∙ ap (λ (x : ℕ). shape_of x a.gates.now (plan_tree x a.gates.now (count_of_gates a.gates.now))) c.extra_of.ensures in
    ap (λ (p : Planned). p.plan) (answer-none a.parameters a.gates.now w (sym (ap (λ (z : Shape). z.count) s)))

pub in_array-kept-requires : goal.in_array-kept-requires
in_array-kept-requires c =
    let a = c.args in
    let v = words_accepted a.parameters a.gates.now (sym c.in_ok-check_words.ensures) in
    omega (arith, v.words, v.few_gates)

pub returns-clause-number : goal.returns-clause-number
returns-clause-number c =
    let a = c.args in
    let w = sym c.in_ok-check_words.ensures in
    let s : c.in-Some.shape ≡ shape_for a.parameters a.gates.now = c.in-Some.ensures.shape
    ∙ ap (λ (x : ℕ). shape_of x a.gates.now (plan_tree x a.gates.now (count_of_gates a.gates.now))) c.extra_of.ensures in
    ap (λ (p : Planned). p.number) (answer-some a.parameters a.gates.now w (λ z. omega (arith, z, c.in-Some.ensures.some, ap (λ (y : Shape). y.count) s)))

pub returns-clause-plan : goal.returns-clause-plan
returns-clause-plan c =
    let a = c.args in
    let w = sym c.in_ok-check_words.ensures in
    let s : c.in-Some.shape ≡ shape_for a.parameters a.gates.now = c.in-Some.ensures.shape
    ∙ ap (λ (x : ℕ). shape_of x a.gates.now (plan_tree x a.gates.now (count_of_gates a.gates.now))) c.extra_of.ensures in
    rw (c.in_array-kept.ensures, c.lookup.ensures, s) (ap (λ (p : Planned). p.plan) (answer-some a.parameters a.gates.now w (λ z. omega (arith, z, c.in-Some.ensures.some, ap (λ (y : Shape). y.count) s))))
