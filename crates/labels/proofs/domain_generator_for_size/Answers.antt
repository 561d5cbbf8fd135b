-- `labels::domain_generator_for_size` meets its contract. The invariant: w has yet to be squared 32 - e times.
use Rattle.std.proofs.Common.{◌≡◌, sym, ap, ◌∙◌, ℕ, suc, ◌+◌, ◌-◌, ◌≤◌, ◌<◌, arith}
use Rattle.base.specs.Exponent.{exponent}
use Rattle.field.specs.Field.{fmul, squared}
use Rattle.labels.specs.Labels.{domain_generator}
use Rattle.labels.proofs.domain_generator_for_size.Goals as goal

squared-next : (e w x : ℕ) → e < 32 → x ≡ fmul w w → squared (32 - e) w ≡ squared (32 - (e + 1)) x
unfolding squared
squared-next e w x h q = let d : 32 - e ≡ suc (32 - (e + 1)) = omega arith in rw (d, q)

squared-done : (e w : ℕ) → 32 ≤ e → squared (32 - e) w ≡ w
unfolding squared
squared-done e w h = let d : 32 - e ≡ 0 = omega arith in rw d

pub loop-e-init : goal.loop-e-init
unfolding domain_generator
loop-e-init c =
    sym
    (ap (λ (e : ℕ). squared (32 - e) c.generator-w.result) c.power_above-e.ensures.0
    ∙ ap (λ (g : ℕ). squared (32 - exponent c.args.n) g) c.generator-w.ensures)

pub loop-e-preserved : goal.loop-e-preserved
loop-e-preserved c =
    let l = c.loop-e in
    l.invariant ∙ squared-next l.e l.w c.mul-w.result (omega arith) c.mul-w.ensures

pub returns : goal.returns
returns c =
    let l = c.loop-e in
    sym (l.invariant ∙ squared-done l.e l.w (omega arith))
