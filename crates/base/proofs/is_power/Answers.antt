-- `base::is_power` meets its contract. The smallest power not below a word is itself a word, but for words above 2 ^ 63, which are no powers.
use lib.Pow.{pow_mono}
use Rattle.std.proofs.Common.{ne_eqb, ◌≡◌, ap, ◌∙◌, ℕ, ◌%◌, ◌^◌, ◌<◌, ◌≤◌, mod-eq_of_lt, arith, eqb}
use Rattle.std.proofs.Math.Decide.{dec_lt}
use Rattle.base.specs.Exponent.{exponent, is_power, exponent-between, exponent-least}
use Rattle.base.proofs.is_power.Goals as goal

word-power : (n : ℕ) → n < 2 ^ 64 → eqb (2 ^ exponent n % 2 ^ 64) n ≡ is_power n
word-power n h = go (dec_lt (2 ^ 63) n)
  where
    go : Dec (2 ^ 63 < n) → eqb (2 ^ exponent n % 2 ^ 64) n ≡ is_power n
    go (yes a) =
        let q : exponent n ≡ 64 = exponent-between n 63 a (omega arith) in
        rw (q, ne_eqb 0 n (omega arith), ne_eqb (2 ^ 64) n (omega arith))
    go (no a) =
        let l : 2 ^ exponent n ≤ 2 ^ 63 = pow_mono (exponent-least n 63 (omega arith)) in
        ap (λ (x : ℕ). eqb x n) (mod-eq_of_lt (omega arith))

pub returns : goal.returns
returns c =
    let n = c.args.n in
    ap (λ (x : ℕ). eqb x n) c.power_above.ensures.1 ∙ word-power n (omega arith)
