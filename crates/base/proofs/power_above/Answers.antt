-- `base::power_above` meets its contract. The power that std finds is at least n and its half is not, so its exponent is the least.
use lib.Pow.{pow_mono}
use Rattle.std.proofs.Common.{◌≡◌, refl, sym, ap, ◌∙◌, ℕ, ◌+◌, ◌-◌, ◌*◌, ◌/◌, ◌^◌, ◌<◌, ◌≤◌, mod-eq_of_lt, pow-suc, add-one, arith, max, suc}
use Rattle.std.proofs.Math.Decide.{dec_lt}
use Rattle.std.proofs.Math.Pow.{pow-lt}
use Rattle.base.specs.Exponent.{exponent, exponent_enough, exponent-least, exponent-between, below_power}
use Rattle.base.proofs.power_above.Goals as goal

-- the exponent is k where 2 ^ k is not below n, and its half is
exponent_is : (n k : ℕ) → n ≤ 2 ^ k → 2 ^ k / 2 < max 1 n → exponent n ≡ k
exponent_is n k l h = by (dec_lt (exponent n) k)
  where
    by : Dec (exponent n < k) → exponent n ≡ k
    by (no a) = omega (arith, exponent-least n k l, a)
    by (yes a) =
        let m : 2 ^ exponent n ≤ 2 ^ (k - 1) = pow_mono (omega arith) in
        let s : k ≡ k - 1 + 1 = omega arith in
        let d : 2 ^ k ≡ 2 ^ (k - 1) * 2 = ap (λ (i : ℕ). 2 ^ i) s ∙ rw (add-one, pow-suc) refl in
        absurd (omega (arith, exponent_enough n, m, d, h, below_power (exponent n)))

-- powers of two that are within a factor of two of each other are one
power-one : (k r : ℕ) → 2 ^ r ≤ 2 ^ k → 2 ^ k < 2 * 2 ^ r → r ≡ k
power-one k r l h = by (dec_lt r k) (dec_lt k r)
  where
    by : Dec (r < k) → Dec (k < r) → r ≡ k
    by (yes a) d = let m : 2 ^ suc r ≤ 2 ^ k = pow_mono (omega arith) in absurd (omega (arith, m, h, pow-suc 2 r))
    by (no a) (yes b) = absurd (omega (arith, pow-lt b, l))
    by (no a) (no b) = omega arith

pub returns-then-n-gt-LARGEST_POWER : goal.returns-then-n-gt-LARGEST_POWER
returns-then-n-gt-LARGEST_POWER c =
    let n = c.args.n in
    let q : exponent n ≡ 64 = exponent-between n 63 c.if-n-gt-LARGEST_POWER.true (omega arith) in
    (sym q, rw q)

pub returns : goal.returns
returns c =
    let n = c.args.n in
    let v = c.next_power_of_two-value.ensures in
    let k = v.power.0 in
    let e = v.power.1 in
    let g = c.ilog2.ensures in
    let one : c.ilog2.result ≡ k = power-one k c.ilog2.result (rw e at g.power_le) (rw e at g.next_power_gt) in
    let q : exponent n ≡ k = exponent_is n k (rw e at v.lower_bound) (rw e at v.upper_bound) in
    let w : 2 ^ exponent n < 2 ^ 64 = rw (q, ← e) c.next_power_of_two-value.type_inv in
    (c.from.ensures ∙ one ∙ sym q, e ∙ ap (λ (i : ℕ). 2 ^ i) (sym q) ∙ sym (mod-eq_of_lt w))
