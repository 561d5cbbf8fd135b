-- `judging::filler_gate` meets its contract: none of the gates that were passed is of kind 1.
use native.Mathlib.Nat.{div-mul-le_self}
use Rattle.std.proofs.Common.{◌≡◌, sym, ◌∙◌, ap, arith, ℕ, ◌+◌, ◌-◌, ◌<◌, length}
use Rattle.selector.specs.Refusals.{count_of_gates}
use Rattle.padding.specs.Padding.{filler_from}
use Rattle.padding.proofs.JudgingLaws.{filler_here, filler_next, filler_none}
use Rattle.padding.proofs.judging.filler_gate.Goals as goal

pub loop-g-init : goal.loop-g-init
loop-g-init c =
    let gs = c.args.gates.now in
    let z : count_of_gates gs - 0 ≡ count_of_gates gs = omega arith in
    (omega arith, ap (λ (k : ℕ). filler_from k 0 gs) (sym z))

pub overflow_mul-g : goal.overflow_mul-g
overflow_mul-g c = omega (arith, div-mul-le_self (length c.args.gates.now) 3)

pub offset_bounds-gates-g : goal.offset_bounds-gates-g
offset_bounds-gates-g c = omega (arith, div-mul-le_self (length c.args.gates.now) 3)

pub bounds-gates-g : goal.bounds-gates-g
bounds-gates-g c = omega (arith, div-mul-le_self (length c.args.gates.now) 3)

pub returns-then-gates-g-eq1 : goal.returns-then-gates-g-eq1
returns-then-gates-g-eq1 c =
    let l = c.loop-g in
    let gs = c.args.gates.now in
    let low : l.g < count_of_gates gs = omega arith in
    record { value = sym (l.invariant.1 ∙ filler_here (count_of_gates gs - l.g) l.g gs (omega arith) c.if-gates-g-eq1.true); listed = low }

pub loop-g-preserved : goal.loop-g-preserved
loop-g-preserved c =
    let l = c.loop-g in
    let gs = c.args.gates.now in
    let z : count_of_gates gs - l.g - 1 ≡ count_of_gates gs - (l.g + 1) = omega arith in
    (omega arith, l.invariant.1 ∙ filler_next (count_of_gates gs - l.g) l.g gs (omega arith) c.if-gates-g-eq1.false ∙ ap (λ (k : ℕ). filler_from k (l.g + 1) gs) z)

pub returns : goal.returns
returns c =
    let l = c.loop-g in
    let gs = c.args.gates.now in
    let e : l.g ≡ count_of_gates gs = omega arith in
    record { value = sym (l.invariant.1 ∙ filler_none (count_of_gates gs - l.g) l.g gs (omega arith) ∙ e); listed = tt }
