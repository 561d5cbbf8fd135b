-- The length that a circuit is padded to: a power of two, and at most 65,536 just where its bound is.
--
-- Main statements: `power_least`, `power_fits`, `power_passes`, `power_in_range`.
use Rattle.std.specs.Prelude.{ℕ, ◌^◌, ◌≤◌, ◌<◌, Bool, true, ◌≡◌, refl}
use Rattle.std.proofs.Common.{eq-eqb, le-leb, ◌∙◌, ap, arith}
use Rattle.std.proofs.Math.Decide.{dec_lt}
use Rattle.std.proofs.Math.Pow.{pow-lt}
use Rattle.base.specs.Exponent.{exponent, exponent_enough, exponent-least, exponent_from, is_power}
use Rattle.base.specs.Pick.{both}
use Rattle.labels.specs.Ranges.{longest_trace, trace_fits}

-- the exponent of a power of two
exponent-of : (e : ℕ) → exponent (2 ^ e) ≡ e
exponent-of e = by (dec_lt (exponent (2 ^ e)) e)
  where
    by : Dec (exponent (2 ^ e) < e) → exponent (2 ^ e) ≡ e
    by (yes h) = absurd (omega (arith, pow-lt h, exponent_enough (2 ^ e)))
    by (no d) = omega (arith, exponent-least (2 ^ e) e (omega arith))

-- it is the smallest
pub power_least : (n e : ℕ) → n ≤ 2 ^ e → 2 ^ exponent n ≤ 2 ^ e
power_least n e h = by (dec_lt (exponent n) e)
  where
    by : Dec (exponent n < e) → 2 ^ exponent n ≤ 2 ^ e
    by (yes k) = omega (arith, pow-lt k)
    by (no k) = let z : exponent n ≡ e = omega (arith, exponent-least n e h) in rw z (omega arith)

pub power_fits : (n : ℕ) → n ≤ longest_trace → 2 ^ exponent n ≤ longest_trace
power_fits n h = power_least n 16 h

pub power_passes : (n : ℕ) → longest_trace < n → longest_trace < 2 ^ exponent n
power_passes n h = omega (arith, exponent_enough n)

pub power_in_range : (n : ℕ) → 2 ^ exponent n ≤ longest_trace → trace_fits (2 ^ exponent n) ≡ true
power_in_range n h =
    ap (λ (b : Bool). both b (is_power (2 ^ exponent n))) (le-leb (2 ^ exponent n) longest_trace h)
    ∙ eq-eqb (2 ^ exponent (2 ^ exponent n)) (2 ^ exponent n) (ap (λ (e : ℕ). 2 ^ e) (exponent-of (exponent n)))

pub one_in_range : trace_fits 1 ≡ true
unfolding exponent_from
one_in_range = refl
