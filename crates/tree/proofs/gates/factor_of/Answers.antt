-- `gates::factor_of` meets its contract: the smallest power of two not below a small number is a word.
use lib.Pow.{pow_mono}
use Rattle.std.proofs.Common.{◌%◌, ◌-◌, ◌^◌, ◌≤◌, max, ℕ, ◌∙◌, ◌≡◌, ap, mod-eq_of_lt, arith}
use Rattle.base.specs.Exponent.{exponent, exponent-least}
use Rattle.selector.specs.Search.{factor_of}
use Rattle.tree.proofs.gates.factor_of.Goals as goal

pub returns : goal.returns
returns c =
    let d = c.args.degree in
    let n : c.max.result - 1 ≡ max 1 (d - 1) = omega (arith, c.max.ensures) in
    let low : exponent (max 1 (d - 1)) ≤ 10 = exponent-least (max 1 (d - 1)) 10 (omega arith) in
    let small : factor_of d ≤ 2 ^ 10 = pow_mono low in
    let e : c.power_above.result.value ≡ factor_of d =
    c.power_above.ensures.1 ∙ ap (λ (z : ℕ). 2 ^ exponent z % 2 ^ 64) n ∙ mod-eq_of_lt (omega arith) in
    (e, omega arith)
